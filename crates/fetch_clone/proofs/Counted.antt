-- Refusals that have a count, in a part of a call.
use Rattle.std.proofs.Common.{◌≡◌, ◌≤◌, ℕ, true, List, Result, Ok, Err, refl, ◌∙◌, arith}
use Rattle.std.specs.Prelude.{IfErr, OnOk}
use Rattle.std.proofs.lemmas.Bool.{false≢true}
use Rattle.fetch_base.specs.Faults.{Counts, Faults, Counts-none, Counts-then, Rose}
use Rattle.fetch_update.specs.declared.update.Error.TheVariants as update
use Rattle.fetch_conversation.specs.declared.fetch.Error.TheVariants as fetch
use Rattle.fetch_conversation.specs.Errors.{is_interrupted}
use Rattle.fetch_conversation.specs.Receiving.{last_question}
use Rattle.fetch_conversation.specs.declared.prepare.Error.{Error as PrepareError}
use Rattle.fetch_conversation.specs.declared.prepare.Error.TheVariants as prepare
use Rattle.fetch_conversation.specs.declared.ref_map.Error.TheVariants as ref_map
use Rattle.fetch_remote.specs.declared.connect.Error.TheVariants as connect
use Rattle.fetch_remote.specs.declared.repository.open_error.OpenError.TheVariants as opening
use Rattle.fetch_clone.specs.Counted.{Meters, CountsBy, IsCounted, Later}
use Rattle.fetch_clone.specs.Listed.{is_conflict_at}
use Rattle.fetch_init.specs.declared.clone.fetch.Error.{Error}
use Rattle.fetch_init.specs.declared.clone.fetch.Error.TheVariants as errors

pub later-none : (a : Meters) → Later a a
later-none a =
    record {
      made = Counts-none a.made;
      lost = omega arith;
      yes = Counts-none a.yes;
      files = Counts-none a.files;
      listing = Counts-none a.trees.listing;
      open_repo = Counts-none a.trees.open_repo;
      follow_symref = Counts-none a.trees.follow_symref;
    }

-- Only the files' count rose.
pub later-files : (a : Meters) (files : Faults) → Counts a.files files → Later a (record a { files = files })
later-files a files counts =
    record {
      made = Counts-none a.made;
      lost = omega arith;
      yes = Counts-none a.yes;
      files = counts;
      listing = Counts-none a.trees.listing;
      open_repo = Counts-none a.trees.open_repo;
      follow_symref = Counts-none a.trees.follow_symref;
    }

-- one part after another
pub later-then : (a b c : Meters) → Later a b → Later b c → Later a c
later-then a b c p q =
    record {
      made = Counts-then a.made b.made c.made p.made q.made;
      lost = omega (arith, p.lost, q.lost);
      yes = Counts-then a.yes b.yes c.yes p.yes q.yes;
      files = Counts-then a.files b.files c.files p.files q.files;
      listing = Counts-then a.trees.listing b.trees.listing c.trees.listing p.listing q.listing;
      open_repo = Counts-then a.trees.open_repo b.trees.open_repo c.trees.open_repo p.open_repo q.open_repo;
      follow_symref = Counts-then a.trees.follow_symref b.trees.follow_symref c.trees.follow_symref p.follow_symref q.follow_symref;
    }

within : (a b c d : Faults) → a.count ≤ b.count → Rose b c → c.count ≤ d.count → Rose a d
within a b c d p r q = omega (arith, p, r, q)

-- What is counted in a part of a call is counted in the call.
pub counted-within : (a b c d : Meters) (e : Error) → Later a b → Later c d → IsCounted b c e → IsCounted a d e
counted-within a b c d errors.Consumed p q h = tt
counted-within a b c d (errors.ParseConfig x) p q h = tt
counted-within a b c d (errors.RemoteName x) p q h = tt
counted-within a b c d (errors.Connect (connect.MissingUrl x)) p q h = tt
counted-within a b c d (errors.Connect connect.Connect) p q h = within a.made b.made c.made d.made p.made.later h q.made.later
counted-within a b c d (errors.Connect connect.NoMemory) p q h = tt
counted-within a b c d (errors.RemoteConnection x) p q h = tt
counted-within a b c d (errors.RefMap (ref_map.Handshake x)) p q h = tt
counted-within a b c d (errors.RefMap ref_map.Transport) p q h = within a.lost b.lost c.lost d.lost p.lost h q.lost
counted-within a b c d (errors.RefMap ref_map.Interrupted) p q h = within a.yes b.yes c.yes d.yes p.yes.later h q.yes.later
counted-within a b c d (errors.RefMap (ref_map.InitRefMap x)) p q h = tt
counted-within a b c d (errors.RefMap ref_map.NoMemory) p q h = tt
counted-within a b c d (errors.RefNameMissing x) p q h = tt
counted-within a b c d (errors.RefNameAmbiguous x y) p q h = tt
counted-within a b c d (errors.InvalidHeadRef x) p q h = tt
counted-within a b c d (errors.ReferenceName x) p q h = tt
counted-within a b c d (errors.RemoteConfiguration x) p q h = tt
counted-within a b c d (errors.SaveConfig x) p q h = tt
counted-within a b c d (errors.LoadConfig opening.Io) p q h = within a.files b.files c.files d.files p.files.later h q.files.later
counted-within a b c d (errors.LoadConfig (opening.Missing x)) p q h = tt
counted-within a b c d (errors.LoadConfig (opening.Config x)) p q h = tt
counted-within a b c d (errors.LoadConfig (opening.Override x)) p q h = tt
counted-within a b c d (errors.LoadConfig opening.NoMemory) p q h = tt
counted-within a b c d errors.SaveConfigIo p q h = within a.files b.files c.files d.files p.files.later h q.files.later
counted-within a b c d (errors.PrepareFetch prepare.MissingRefSpecs) p q h = tt
counted-within a b c d (errors.PrepareFetch (prepare.RefMap (ref_map.Handshake x))) p q h = tt
counted-within a b c d (errors.PrepareFetch (prepare.RefMap ref_map.Transport)) p q h = within a.lost b.lost c.lost d.lost p.lost h q.lost
counted-within a b c d (errors.PrepareFetch (prepare.RefMap ref_map.Interrupted)) p q h = within a.yes b.yes c.yes d.yes p.yes.later h q.yes.later
counted-within a b c d (errors.PrepareFetch (prepare.RefMap (ref_map.InitRefMap x))) p q h = tt
counted-within a b c d (errors.PrepareFetch (prepare.RefMap ref_map.NoMemory)) p q h = tt
counted-within a b c d (errors.PrepareFetch prepare.NoMemory) p q h = tt
counted-within a b c d (errors.RevisionMissing x) p q h = tt
counted-within a b c d (errors.ReopenWithObjectHash opening.Io) p q h = within a.files b.files c.files d.files p.files.later h q.files.later
counted-within a b c d (errors.ReopenWithObjectHash (opening.Missing x)) p q h = tt
counted-within a b c d (errors.ReopenWithObjectHash (opening.Config x)) p q h = tt
counted-within a b c d (errors.ReopenWithObjectHash (opening.Override x)) p q h = tt
counted-within a b c d (errors.ReopenWithObjectHash opening.NoMemory) p q h = tt
counted-within a b c d (errors.Fetch (fetch.NoMapping x y)) p q h = tt
counted-within a b c d (errors.Fetch (fetch.IncompatibleObjectHash x y)) p q h = tt
counted-within a b c d (errors.Fetch (fetch.Disconnected x)) p q h = tt
counted-within a b c d (errors.Fetch (fetch.RejectShallowRemoteConfig x)) p q h = tt
counted-within a b c d (errors.Fetch (fetch.NegotiationAlgorithmConfig x)) p q h = tt
counted-within a b c d (errors.Fetch (fetch.PackThreads x)) p q h = tt
counted-within a b c d (errors.Fetch (fetch.Fetch x)) p q h = tt
counted-within a b c d (errors.Fetch fetch.Client) p q h = within a.lost b.lost c.lost d.lost p.lost h q.lost
counted-within a b c d (errors.Fetch fetch.Interrupted) p q h = within a.yes b.yes c.yes d.yes p.yes.later h q.yes.later
counted-within a b c d (errors.Fetch (fetch.RejectShallowRemote x)) p q h = tt
counted-within a b c d (errors.Fetch (fetch.Pack x)) p q h = tt
counted-within a b c d (errors.Fetch (fetch.Collision x)) p q h = tt
counted-within a b c d (errors.Fetch (fetch.KeepFile x)) p q h = within a.files b.files c.files d.files p.files.later h q.files.later
counted-within a b c d (errors.Fetch (fetch.UpdateRefs (update.FindReference x))) p q h = tt
counted-within a b c d (errors.Fetch (fetch.UpdateRefs (update.InvalidRefName x))) p q h = tt
counted-within a b c d (errors.Fetch (fetch.UpdateRefs (update.FindCommit x))) p q h = tt
counted-within a b c d (errors.Fetch (fetch.UpdateRefs (update.PeelToId x y))) p q h = tt
counted-within a b c d (errors.Fetch (fetch.UpdateRefs update.WorktreeListing)) p q h = within a.trees.listing b.trees.listing c.trees.listing d.trees.listing p.listing.later h q.listing.later
counted-within a b c d (errors.Fetch (fetch.UpdateRefs update.OpenWorktreeRepo)) p q h = within a.trees.open_repo b.trees.open_repo c.trees.open_repo d.trees.open_repo p.open_repo.later h q.open_repo.later
counted-within a b c d (errors.Fetch (fetch.UpdateRefs update.FollowSymref)) p q h = within a.trees.follow_symref b.trees.follow_symref c.trees.follow_symref d.trees.follow_symref p.follow_symref.later h q.follow_symref.later
counted-within a b c d (errors.Fetch (fetch.UpdateRefs update.NoMemory)) p q h = tt
counted-within a b c d (errors.Fetch (fetch.RemovePackKeepFile x)) p q h = within a.files b.files c.files d.files p.files.later h q.files.later
counted-within a b c d (errors.Fetch fetch.NoMemory) p q h = tt
counted-within a b c d (errors.FindRevision x) p q h = tt
counted-within a b c d (errors.PeelRevision x) p q h = tt
counted-within a b c d errors.NoMemory p q h = tt

-- what holds whatever is answered
pub at-ok : {X E P : Type 0} (r : Result X E) → P → OnOk r P
at-ok (Ok x) p = p
at-ok (Err e) p = tt

-- A conflict is no yes of the interrupt.
pub conflict-quiet : (X : Type 0) (place : List ℕ) (e : PrepareError) → is_conflict_at place e ≡ true → last_question {T = X} is_interrupted (Err e) ≡ 0
conflict-quiet X place prepare.MissingRefSpecs h = absurd (false≢true h)
conflict-quiet X place (prepare.RefMap (ref_map.Handshake x)) h = absurd (false≢true h)
conflict-quiet X place (prepare.RefMap ref_map.Transport) h = absurd (false≢true h)
conflict-quiet X place (prepare.RefMap ref_map.Interrupted) h = absurd (false≢true h)
conflict-quiet X place (prepare.RefMap (ref_map.InitRefMap x)) h = refl
conflict-quiet X place (prepare.RefMap ref_map.NoMemory) h = absurd (false≢true h)
conflict-quiet X place prepare.NoMemory h = absurd (false≢true h)

-- what is counted after a part of a call
pub counted-later : (a b c : Meters) (e : Error) → Later a b → IsCounted b c e → IsCounted a c e
counted-later a b c e p h = counted-within a b c c e p (later-none c) h

-- the same of what is answered, where the interrupt said no yes before
pub counts-later : {T : Type 0} (a b c : Meters) (r : Result T Error) → Later a b → b.yes.count ≡ a.yes.count → CountsBy b c r → CountsBy a c r
counts-later a b c (Ok x) p same h = h ∙ same
counts-later a b c (Err e) p same h = counted-later a b c e p h

pub counts-by : {T : Type 0} (was is : Meters) (r : Result T Error) → OnOk r (is.yes.count ≡ was.yes.count) → IfErr r (IsCounted was is) → CountsBy was is r
counts-by was is (Ok x) same h = same
counts-by was is (Err e) same h = h
