-- A mirror of a server where nothing is too long is made, unless memory runs out or two texts have one id.
use Rattle.std.proofs.Common.{◌≡◌, ℕ, ◌<◌, List, length, Result, Ok, Err, refl, ap, ◌∙◌, subst}
use Rattle.std.specs.Prelude.{IfErr}
use Rattle.std.specs.FinSet as set
use Rattle.std.proofs.lemmas.Option.{slice_get_within}
use Rattle.fetch_store.specs.Borders.{IdSet}
use Rattle.fetch_store.specs.Closed.{holding}
use Rattle.fetch_store.specs.Missing.{unclosed}
use Rattle.fetch_store.proofs.Unclosed.{closed_none}
use Rattle.fetch_refs.specs.declared.log.Signature.{Signature}
use Rattle.fetch_journal.specs.declared.error.SharedError.{SharedError}
use Rattle.fetch_journal.specs.declared.error.SharedError.TheVariants as shared
use Rattle.fetch_serve.specs.Peers.{ServedPeer}
use Rattle.fetch_serve.specs.Servable.{IsServable, IsTrouble, unservable_names}
use Rattle.fetch_serve.specs.Served.{Data}
use Rattle.fetch_asked.specs.declared.error.ServeError.{ServeError}
use Rattle.fetch_asked.specs.declared.error.ServeError.TheVariants as serve
use Rattle.fetch_mirror.specs.declared.error.MirrorError.{MirrorError}
use Rattle.fetch_mirror.specs.declared.error.MirrorError.TheVariants as errors
use Rattle.fetch_mirror.specs.declared.options.Mirrored.{Mirrored}
use Rattle.fetch_mirror.specs.Completeness.{CanBeMirrored, HasCollided, MayBeRefused}
use Rattle.fetch_mirror.specs.Copying.{IsUncopied, given_by}
use Rattle.fetch_mirror.specs.Limits.{AreWithin}
use Rattle.fetch_mirror.specs.Mirroring.{IsWorkerRefused}
use Rattle.fetch_mirror.proofs.ListsAll.{lister_lists}
use Rattle.fetch_mirror.proofs.NeverRefused.{only_collides}
use Rattle.fetch_mirror.proofs.Numbered.{nothing_at}
use Rattle.fetch_mirror.proofs.WorkerAt.{at_place}

-- ---- the server

-- nothing is in the way of one that can be served
untroubled : (d : Data) → IsServable d → (border : IdSet) → border ≡ set.empty → (e : ServeError) → (e ≡ serve.NoMemory → ⊥) → IsTrouble d border e → ⊥
untroubled d servable border whole serve.ShallowServer some t = t whole
untroubled d servable border whole (serve.WrongId id) some t = t.1.other (servable.own.each id t.1.object t.1.stored)
untroubled d servable border whole (serve.NotClosed link) some t =
    nothing_at (unclosed (holding d.objects border)) 0 link (ap (λ (b : IdSet). unclosed (holding d.objects b)) whole ∙ closed_none (holding d.objects set.empty) servable.closed) t.2
untroubled d servable border whole (serve.NotServable name) some t = nothing_at (unservable_names d) 0 name servable.names t.3
untroubled d servable border whole (serve.Malformed place) some t = t
untroubled d servable border whole (serve.RequestTooLong bound) some t = t
untroubled d servable border whole serve.NoMemory some t = some refl

-- ---- a worker

by_cause : (d : Data) → IsServable d → (committer : Signature) (workers bound : ℕ) → AreWithin d workers bound → (lister : ServedPeer) (peers : List ServedPeer) (index : ℕ) (e : SharedError)
    → IsWorkerRefused (given_by d committer workers bound lister peers) index e → (e ≡ shared.NoMemory → ⊥) → HasCollided d e
by_cause d servable committer workers bound within lister peers index e r some =
    let low : index < length r.fetched.jobs = subst (λ (k : ℕ). index < k) r.fetched.raced.jobs_done.answered (slice_get_within r.answers index (Err e) r.first.refused) in
    let w = at_place d servable committer workers bound lister peers r.names r.listed r.repo r.journal r.answers r.fetched index (Err e) low r.first.refused in
    only_collides d servable committer workers bound within lister peers r.names r.listed r.repo r.journal r.answers r.fetched index low w.peer e some r.untouched w.raced

-- ---- the whole

pub complete_by : (d : Data) (border : IdSet) (committer : Signature) (workers bound : ℕ) (e : MirrorError) → IsUncopied d border committer workers bound e → CanBeMirrored d border workers bound → MayBeRefused d e
complete_by d border committer workers bound (errors.Workers count) h can = h.0 can.few
complete_by d border committer workers bound (errors.Server e) h can = untroubled d can.servable border can.whole e h.2 h.1
complete_by d border committer workers bound (errors.List e) h can = lister_lists d can.servable committer workers bound can.within h.lister h.peers e h.refused.1
complete_by d border committer workers bound (errors.Worker index e) h can = by_cause d can.servable committer workers bound can.within h.lister h.peers index e h.refused.1 h.refused.2
complete_by d border committer workers bound errors.NoMemory h can = tt

pub complete_so : (d : Data) (border : IdSet) (committer : Signature) (workers bound : ℕ) (result : Result Mirrored MirrorError) → IfErr result (λ e. IsUncopied d border committer workers bound e)
    → IfErr result (λ e. CanBeMirrored d border workers bound → MayBeRefused d e)
complete_so d border committer workers bound (Ok m) h = tt
complete_so d border committer workers bound (Err e) h = λ can. complete_by d border committer workers bound e h can
