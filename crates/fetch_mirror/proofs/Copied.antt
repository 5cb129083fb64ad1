-- A mirror of a repository has the names that are born there.
use Rattle.std.proofs.Common.{◌≡◌, ℕ, ◌+◌, true, List, [], ◌∷◌, ◌++◌, replicate, Result, Ok, Err, refl, ◌∙◌, subst}
use Rattle.std.specs.Prelude.{IfErr, IfOk, OnOk}
use Rattle.std.proofs.lemmas.List.{replicate_more}
use Rattle.fetch_store.specs.Borders.{IdSet}
use Rattle.fetch_base.specs.declared.id.Kind.{Kind}
use Rattle.fetch_refs.specs.declared.log.Signature.{Signature}
use Rattle.fetch_lines.specs.Talks.{Talk}
use Rattle.fetch_remote.specs.RepositoryValues.{RepositoryValue}
use Rattle.fetch_serve.specs.Peers.{ServedPeer, faults_of, heard_by, talk_with, told_by}
use Rattle.fetch_serve.specs.Replies.{replies_of}
use Rattle.fetch_serve.specs.Servable.{IsServable}
use Rattle.fetch_serve.specs.Served.{Data}
use Rattle.fetch_journal.specs.declared.entry.Entry.{Entry}
use Rattle.fetch_mirror.specs.Born.{born_names}
use Rattle.fetch_mirror.specs.declared.error.MirrorError.{MirrorError}
use Rattle.fetch_mirror.specs.declared.error.MirrorError.TheVariants as errors
use Rattle.fetch_mirror.specs.declared.options.Mirrored.{Mirrored}
use Rattle.fetch_mirror.specs.Copying.{IsCopied, IsUncopied, fresh, given_by}
use Rattle.fetch_mirror.specs.Limits.{IsLimited}
use Rattle.fetch_mirror.specs.Mirroring.{Given, HasMirrored, IsFew, IsUnmirrored}
use Rattle.fetch_mirror.specs.Mirrors.{IsMirrored}
use Rattle.fetch_mirror.proofs.ListerAlong.{follows_rule, fresh_peer, names_so}
use Rattle.fetch_mirror.proofs.ListerRefused.{unlisted_so}
use Rattle.fetch_mirror.proofs.WholeMirror.{is_mirrored}

pub copied_names : (d : Data) → IsServable d → (committer : Signature) (workers bound : ℕ) (lister : ServedPeer) (peers : List ServedPeer) (repo : RepositoryValue) (journal : List Entry)
    → (h : HasMirrored (given_by d committer workers bound lister peers) repo journal) → h.names ≡ born_names d
copied_names d servable committer workers bound lister peers repo journal h =
    let heard = heard_by lister.served lister.heard in
    let talk : Talk = talk_with lister heard (replies_of lister.served heard) in
    h.listed.names_are ∙ names_so d servable bound (told_by (fresh d)) talk h.listed.listed h.listed.behind (fresh_peer d) (follows_rule d lister talk refl h.listed.heard.passed.same_rule) h.listed.heard

-- one peer more
pub one_more_peer : (n : ℕ) (p : ServedPeer) → replicate n p ++ p ∷ [] ≡ replicate (n + 1) p
one_more_peer n p = replicate_more n p

module _ (d : Data) (servable : IsServable d) (border : IdSet) (committer : Signature) (workers bound : ℕ) (few : IsFew workers) (lister lister_now : ServedPeer) (peers peers_now : List ServedPeer) (kind : Kind)
    (lister_is : lister ≡ fresh d) (peers_are : peers ≡ replicate workers (fresh d)) (kind_is : kind ≡ d.hash) where
  abbrev pub given_so : ServedPeer → List ServedPeer → Kind → Given ServedPeer
  given_so l ps k = record {
    asking = record { answers = true; told = told_by; faults = faults_of; lister = l; lister_now = lister_now; bound = bound };
    peers = ps;
    peers_now = peers_now;
    kind = k;
    committer = committer;
    workers = workers;
  }

  pub copied_told : (result : Result Mirrored MirrorError) → IfOk result (λ m. HasMirrored (given_so lister peers kind) m.repo m.journal) → IfOk result (λ m. IsCopied d committer workers bound m.repo m.journal)
  copied_told (Err e) h = tt
  copied_told (Ok m) h =
      let made : HasMirrored (given_by d committer workers bound lister_now peers_now) m.repo m.journal = subst (λ (x : ServedPeer × List ServedPeer × Kind). HasMirrored (given_so x.0 x.1 x.2) m.repo m.journal) (λ i. (lister_is i, peers_are i, kind_is i)) h in
      record { servable = servable; few = few; lister = lister_now; peers = peers_now; mirrored = made; born = copied_names d servable committer workers bound lister_now peers_now m.repo m.journal made }

  refused_as : (e : MirrorError) → IsUnmirrored (given_so lister peers kind) e → IsUnmirrored (given_by d committer workers bound lister_now peers_now) e
  refused_as e h = subst (λ (x : ServedPeer × List ServedPeer × Kind). IsUnmirrored (given_so x.0 x.1 x.2) e) (λ i. (lister_is i, peers_are i, kind_is i)) h

  uncopied_told : (e : MirrorError) → IsUnmirrored (given_by d committer workers bound lister_now peers_now) e → IsUncopied d border committer workers bound e
  uncopied_told (errors.Workers count) h = h
  uncopied_told (errors.Server e) h = absurd h
  uncopied_told (errors.List e) h = record { servable = servable; lister = lister_now; peers = peers_now; refused = h }
  uncopied_told (errors.Worker index e) h = record { servable = servable; lister = lister_now; peers = peers_now; refused = h }
  uncopied_told errors.NoMemory h = few

  pub uncopied_so : (result : Result Mirrored MirrorError) → IfErr result (λ e. IsUnmirrored (given_so lister peers kind) e) → IfErr result (λ e. IsUncopied d border committer workers bound e)
  uncopied_so (Ok m) h = tt
  uncopied_so (Err e) h = uncopied_told e (refused_as e h)

-- the references aren't listed where a reply is too long, and for no other cause
limited_by : (d : Data) (committer : Signature) (workers bound : ℕ) (border : IdSet) (e : MirrorError) → IsUncopied d border committer workers bound e → IsLimited d bound e
limited_by d committer workers bound border (errors.Workers count) h = tt
limited_by d committer workers bound border (errors.Server e) h = tt
limited_by d committer workers bound border (errors.List e) h = unlisted_so d h.servable committer workers bound h.lister h.peers e h.refused.1
limited_by d committer workers bound border (errors.Worker index e) h = tt
limited_by d committer workers bound border errors.NoMemory h = tt

pub limited_so : (d : Data) (committer : Signature) (workers bound : ℕ) (border : IdSet) (result : Result Mirrored MirrorError) → IfErr result (λ e. IsUncopied d border committer workers bound e) → IfErr result (λ e. IsLimited d bound e)
limited_so d committer workers bound border (Ok m) h = tt
limited_so d committer workers bound border (Err e) h = limited_by d committer workers bound border e h

-- the mirror as a whole
pub whole_told : (d : Data) (committer : Signature) (workers bound : ℕ) (result : Result Mirrored MirrorError) → IfOk result (λ m. IsCopied d committer workers bound m.repo m.journal)
    → IfOk result (λ m. IsMirrored d workers committer m.journal m.repo)
whole_told d committer workers bound (Err e) h = tt
whole_told d committer workers bound (Ok m) h = is_mirrored d h.servable committer workers bound h.few h.lister h.peers m.repo m.journal h.mirrored h.born

-- what holds anyway holds at Ok
pub always : {X E : Type 0} (result : Result X E) (P : Type 0) → P → OnOk result P
always (Ok x) P h = h
always (Err e) P h = tt
