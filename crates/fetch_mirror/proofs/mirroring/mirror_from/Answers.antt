use Rattle.std.proofs.Common.{rules, ◌≡◌, ℕ, List, length, drop, refl, sym, subst, ◌∙◌, arith}
use Rattle.std.proofs.lemmas.Result.{err_from_is_err_and}
use Rattle.fetch_race.proofs.Rows.{front_is}
use Rattle.fetch_mirror.specs.Mirroring.{AreWorkers, IsFew}
use Rattle.fetch_mirror.proofs.MirroredSo.{mirrored_told, refused_told}
use Rattle.fetch_mirror.proofs.Opened.{none_unclosed}
use Rattle.fetch_mirror.proofs.mirroring.mirror_from.Goals as goal

pub returns-in_err-job_runs-clause-refused : goal.returns-in_err-job_runs-clause-refused
returns-in_err-job_runs-clause-refused g c =
    let few : IsFew c.args.options.workers = search rules in
    let p = err_from_is_err_and c.from_residual-in_err-job_runs.result c.from_residual-in_err-job_runs.ensures.1 in
    rw (p.1, p.2) few

pub returns-clause-mirrored : goal.returns-clause-mirrored
returns-clause-mirrored g c =
    let few : IsFew c.args.options.workers = search rules in
    let items = c.in_ok-job_runs.job_runs.items in
    let now = c.as_mut_slice.result.now in
    let new = c.fetch_in-repo.new.job_runs in
    let split = c.split_at_mut-asked in
    let long : c.in_ok-job_runs.job_runs.len ≡ length new = omega (arith, c.in_ok-job_runs.job_runs.ok.0, c.fetch_in-repo.auto.job_runs, c.as_mut_slice.ensures.len) in
    let same = front_is c.in_ok-job_runs.job_runs.len new (drop (length new) items) long in
    let w = subst (AreWorkers c.args.options.workers c.args.options.max_reply_bytes c.in_ok-names.names.items) (sym c.as_mut_slice.ensures.value) (subst (λ (n : List (List ℕ)). AreWorkers c.args.options.workers c.args.options.max_reply_bytes n items) c.deref.ensures.value c.in_ok-job_runs.ensures) in
    mirrored_told _ c.in_ok-names.names.items c.in_ok-names.ensures.names now new c.as_slice.result.now split.result.0.now split.result.1.now c.fetch_in-repo.new.peers c.in_ok-shared.shared.opening c.fetch_in-repo.result.0 c.fetch_in-repo.result.1.items c.from.result
    w split.ensures.value refl (omega (arith, split.ensures.front_len, c.as_mut_slice.ensures.len)) c.fetch_in-repo.auto.peers c.fetch_in-repo.auto.job_runs (c.in_ok-shared.ensures.opening ∙ c.in_ok-repo.ensures) c.fetch_in-repo.ensures.kept c.fetch_in-repo.ensures.numbered c.fetch_in-repo.ensures.raced
    (c.as_slice.ensures.value ∙ same) c.from.ensures few c.told.result c.told.ensures.mirror c.told.ensures.unrefused

pub returns-clause-refused : goal.returns-clause-refused
returns-clause-refused g c =
    let few : IsFew c.args.options.workers = search rules in
    let items = c.in_ok-job_runs.job_runs.items in
    let now = c.as_mut_slice.result.now in
    let new = c.fetch_in-repo.new.job_runs in
    let split = c.split_at_mut-asked in
    let long : c.in_ok-job_runs.job_runs.len ≡ length new = omega (arith, c.in_ok-job_runs.job_runs.ok.0, c.fetch_in-repo.auto.job_runs, c.as_mut_slice.ensures.len) in
    let same = front_is c.in_ok-job_runs.job_runs.len new (drop (length new) items) long in
    let w = subst (AreWorkers c.args.options.workers c.args.options.max_reply_bytes c.in_ok-names.names.items) (sym c.as_mut_slice.ensures.value) (subst (λ (n : List (List ℕ)). AreWorkers c.args.options.workers c.args.options.max_reply_bytes n items) c.deref.ensures.value c.in_ok-job_runs.ensures) in
    refused_told _ c.in_ok-names.names.items c.in_ok-names.ensures.names now new c.as_slice.result.now split.result.0.now split.result.1.now c.fetch_in-repo.new.peers c.in_ok-shared.shared.opening c.fetch_in-repo.result.0 c.fetch_in-repo.result.1.items c.from.result
    w split.ensures.value refl (omega (arith, split.ensures.front_len, c.as_mut_slice.ensures.len)) c.fetch_in-repo.auto.peers c.fetch_in-repo.auto.job_runs (c.in_ok-shared.ensures.opening ∙ c.in_ok-repo.ensures) c.fetch_in-repo.ensures.kept c.fetch_in-repo.ensures.numbered c.fetch_in-repo.ensures.raced
    (c.as_slice.ensures.value ∙ same) c.from.ensures few c.told.result c.told.ensures.refused

pub share_closed-requires : goal.share_closed-requires
share_closed-requires g c = record { closed = none_unclosed c.args.kind _ c.in_ok-repo.repo c.in_ok-repo.ensures }
