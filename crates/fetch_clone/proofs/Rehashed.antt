-- What a hash that a clone takes leaves as it was.
use Rattle.std.proofs.Common.{◌≡◌, Bool, Option, Some, None, refl, sym, ◌∙◌, subst, inl, inr}
use Rattle.std.specs.Prelude.{◌⊎◌}
use Rattle.fetch_files.specs.Trees.{Tree}
use Rattle.fetch_base.specs.declared.id.Kind.{Kind}
use Rattle.fetch_lines.specs.Talks.{Talk}
use Rattle.fetch_remote.specs.Remotes.{RemoteValue}
use Rattle.fetch_remote.specs.RepositoryValues.{RepositoryValue, Setup, resolved_of}
use Rattle.fetch_remote.specs.declared.fetching.prepared.Prepared.{Prepared}
use Rattle.fetch_remote.specs.declared.repository.Resolved.{Resolved}
use Rattle.fetch_remote.specs.declared.repository.open_error.OpenError.{OpenError}
use Rattle.fetch_remote.specs.declared.repository.open_error.OpenError.TheVariants as opening
use Rattle.fetch_clone.specs.Hashed.{IsHashed, IsUnhashed, IsUnread, IsUnversioned}
use Rattle.fetch_clone.specs.Received.{IsResolvedIn, WasListed}
use Rattle.fetch_init.specs.Refusals.{reopening}
use Rattle.fetch_init.specs.declared.clone.fetch.Error.{Error}
use Rattle.fetch_init.specs.declared.clone.fetch.Error.TheVariants as errors

-- The references are asked for by the same settings.
pub still-listed : (files written : Option Tree) (kind : Kind) (found asked : RepositoryValue) (reread : Option Resolved) → IsHashed files written kind found asked reread
    → (answers : Bool) (begun now : Option Talk) (remote : RemoteValue) (prepared : Prepared) → WasListed answers begun now remote found.setup prepared → WasListed answers begun now remote asked.setup prepared
still-listed files written kind found asked None h answers begun now remote prepared l = subst (λ (r : RepositoryValue). WasListed answers begun now remote r.setup prepared) (sym h.1) l
still-listed files written kind found asked (Some reread) h answers begun now remote prepared l = subst (λ (s : Setup). WasListed answers begun now remote s prepared) (sym h.setup) l

-- The file that was read again is resolved in the setup that the repository has then.
pub resolved-in : (files written : Option Tree) (kind : Kind) (found asked : RepositoryValue) (reread : Option Resolved) → IsHashed files written kind found asked reread → (setup : Setup) → setup ≡ asked.setup → IsResolvedIn setup reread
resolved-in files written kind found asked None h setup same = tt
resolved-in files written kind found asked (Some reread) h setup same = subst (λ (s : Setup). resolved_of s.base reread.file s.overrides ≡ Some reread.config) (sym (same ∙ h.setup)) h.config.config

-- why the file isn't read, as a refusal of the configuration
of-unread : (may_fail : Bool) (told : Option Tree) (setup : Setup) (e : Error) → IsUnread may_fail told setup e → (cause : OpenError) × (e ≡ reopening cause)
of-unread may_fail told setup errors.Consumed h = absurd h
of-unread may_fail told setup (errors.ParseConfig x) h = absurd h
of-unread may_fail told setup (errors.RemoteName x) h = absurd h
of-unread may_fail told setup (errors.Connect x) h = absurd h
of-unread may_fail told setup (errors.RemoteConnection x) h = absurd h
of-unread may_fail told setup (errors.RefMap x) h = absurd h
of-unread may_fail told setup (errors.RefNameMissing x) h = absurd h
of-unread may_fail told setup (errors.RefNameAmbiguous x y) h = absurd h
of-unread may_fail told setup (errors.InvalidHeadRef x) h = absurd h
of-unread may_fail told setup (errors.ReferenceName x) h = absurd h
of-unread may_fail told setup (errors.RemoteConfiguration x) h = absurd h
of-unread may_fail told setup (errors.SaveConfig x) h = absurd h
of-unread may_fail told setup (errors.LoadConfig x) h = absurd h
of-unread may_fail told setup errors.SaveConfigIo h = absurd h
of-unread may_fail told setup (errors.PrepareFetch x) h = absurd h
of-unread may_fail told setup (errors.RevisionMissing x) h = absurd h
of-unread may_fail told setup (errors.ReopenWithObjectHash opening.Io) h = (opening.Io, refl)
of-unread may_fail told setup (errors.ReopenWithObjectHash (opening.Missing x)) h = (opening.Missing x, refl)
of-unread may_fail told setup (errors.ReopenWithObjectHash (opening.Config x)) h = (opening.Config x, refl)
of-unread may_fail told setup (errors.ReopenWithObjectHash (opening.Override x)) h = absurd h
of-unread may_fail told setup (errors.ReopenWithObjectHash opening.NoMemory) h = absurd h
of-unread may_fail told setup (errors.Fetch x) h = absurd h
of-unread may_fail told setup (errors.FindRevision x) h = absurd h
of-unread may_fail told setup (errors.PeelRevision x) h = absurd h
of-unread may_fail told setup errors.NoMemory h = (opening.NoMemory, refl)

of-either : (may_fail : Bool) (told now : Option Tree) (kind : Kind) (setup : Setup) (e : Error) → ((now ≡ told) × IsUnread may_fail told setup e) ⊎ IsUnversioned may_fail told now kind setup e → (cause : OpenError) × (e ≡ reopening cause)
of-either may_fail told now kind setup e (inl h) = of-unread may_fail told setup e h.1
of-either may_fail told now kind setup e (inr h) = (opening.Io, h.cause)

-- why a hash isn't taken, as a refusal of the configuration
pub of-hash : (may_fail : Bool) (told now : Option Tree) (kind : Kind) (found : RepositoryValue) (e : Error) → IsUnhashed may_fail told now kind found e → (cause : OpenError) × (e ≡ reopening cause)
of-hash may_fail told now kind found errors.Consumed h = of-either may_fail told now kind found.setup errors.Consumed h.1
of-hash may_fail told now kind found (errors.ParseConfig x) h = of-either may_fail told now kind found.setup (errors.ParseConfig x) h.1
of-hash may_fail told now kind found (errors.RemoteName x) h = of-either may_fail told now kind found.setup (errors.RemoteName x) h.1
of-hash may_fail told now kind found (errors.Connect x) h = of-either may_fail told now kind found.setup (errors.Connect x) h.1
of-hash may_fail told now kind found (errors.RemoteConnection x) h = of-either may_fail told now kind found.setup (errors.RemoteConnection x) h.1
of-hash may_fail told now kind found (errors.RefMap x) h = of-either may_fail told now kind found.setup (errors.RefMap x) h.1
of-hash may_fail told now kind found (errors.RefNameMissing x) h = of-either may_fail told now kind found.setup (errors.RefNameMissing x) h.1
of-hash may_fail told now kind found (errors.RefNameAmbiguous x y) h = of-either may_fail told now kind found.setup (errors.RefNameAmbiguous x y) h.1
of-hash may_fail told now kind found (errors.InvalidHeadRef x) h = of-either may_fail told now kind found.setup (errors.InvalidHeadRef x) h.1
of-hash may_fail told now kind found (errors.ReferenceName x) h = of-either may_fail told now kind found.setup (errors.ReferenceName x) h.1
of-hash may_fail told now kind found (errors.RemoteConfiguration x) h = of-either may_fail told now kind found.setup (errors.RemoteConfiguration x) h.1
of-hash may_fail told now kind found (errors.SaveConfig x) h = of-either may_fail told now kind found.setup (errors.SaveConfig x) h.1
of-hash may_fail told now kind found (errors.LoadConfig x) h = of-either may_fail told now kind found.setup (errors.LoadConfig x) h.1
of-hash may_fail told now kind found errors.SaveConfigIo h = of-either may_fail told now kind found.setup errors.SaveConfigIo h.1
of-hash may_fail told now kind found (errors.PrepareFetch x) h = of-either may_fail told now kind found.setup (errors.PrepareFetch x) h.1
of-hash may_fail told now kind found (errors.RevisionMissing x) h = of-either may_fail told now kind found.setup (errors.RevisionMissing x) h.1
of-hash may_fail told now kind found (errors.ReopenWithObjectHash opening.Io) h = of-either may_fail told now kind found.setup (errors.ReopenWithObjectHash opening.Io) h.1
of-hash may_fail told now kind found (errors.ReopenWithObjectHash (opening.Missing x)) h = of-either may_fail told now kind found.setup (errors.ReopenWithObjectHash (opening.Missing x)) h.1
of-hash may_fail told now kind found (errors.ReopenWithObjectHash (opening.Config x)) h = of-either may_fail told now kind found.setup (errors.ReopenWithObjectHash (opening.Config x)) h.1
of-hash may_fail told now kind found (errors.ReopenWithObjectHash (opening.Override x)) h = of-either may_fail told now kind found.setup (errors.ReopenWithObjectHash (opening.Override x)) h.1
of-hash may_fail told now kind found (errors.ReopenWithObjectHash opening.NoMemory) h = of-either may_fail told now kind found.setup (errors.ReopenWithObjectHash opening.NoMemory) h.1
of-hash may_fail told now kind found (errors.Fetch x) h = of-either may_fail told now kind found.setup (errors.Fetch x) h.1
of-hash may_fail told now kind found (errors.FindRevision x) h = of-either may_fail told now kind found.setup (errors.FindRevision x) h.1
of-hash may_fail told now kind found (errors.PeelRevision x) h = of-either may_fail told now kind found.setup (errors.PeelRevision x) h.1
of-hash may_fail told now kind found errors.NoMemory h = (opening.NoMemory, refl)
