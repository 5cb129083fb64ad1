-- Jobs whose peers are lent, as if they had them.
use Rattle.std.proofs.Common.{◌≡◌, ℕ, zero, suc, ◌<◌, List, [], ◌∷◌, length, get_or, map, Some, refl, sym, ap, ◌∙◌, subst, arith}
use Rattle.std.specs.Prelude.{slice_get, slice_index_or, IfSome}
use Rattle.fetch_shared.specs.Passes.{Holder, Which}
use Rattle.fetch_race.specs.declared.job.Job.{Job}
use Rattle.fetch_race.specs.declared.job.JobRun.{JobRun}
use Rattle.fetch_race.specs.Racing.{Race, IsRun}
use Rattle.fetch_race.specs.Passes.{AreGathered, AreOver, HavePasses, HaveRaced, HasPass, answer_in}
use Rattle.fetch_race.proofs.Races.{all_over, all_raced}
use Rattle.fetch_mirror.specs.Lent.{all_owning, owning}

-- what a job that has a pass did
abbrev pub RunsByPass : {P : Type 0} → Race P → JobRun P → JobRun P → Type 0
RunsByPass race old new = IfSome old.pass (λ pass. IsRun race pass old new)

-- a read of the row, by any defaults
pub owning_at : {P : Type 0} (job_runs : List (JobRun (Unit {0}))) (peers : List P) (i : ℕ) (o : JobRun P) (d : JobRun (Unit {0})) (e : P) → length job_runs ≡ length peers → i < length job_runs
    → get_or (all_owning job_runs peers) i o ≡ owning (get_or job_runs i d) (get_or peers i e)
owning_at [] peers i o d e same low = absurd (omega arith)
owning_at (job_run ∷ job_runs) [] i o d e same low = absurd (omega arith)
owning_at (job_run ∷ job_runs) (peer ∷ peers) zero o d e same low = refl
owning_at (job_run ∷ job_runs) (peer ∷ peers) (suc i) o d e same low = owning_at job_runs peers i o d e (omega arith) (omega arith)

pub count_owning : {P : Type 0} (job_runs : List (JobRun (Unit {0}))) (peers : List P) → length job_runs ≡ length peers → length (all_owning job_runs peers) ≡ length job_runs
count_owning [] peers same = refl
count_owning (job_run ∷ job_runs) [] same = absurd (omega arith)
count_owning (job_run ∷ job_runs) (peer ∷ peers) same = ap suc (count_owning job_runs peers (omega arith))

-- what was run with peers that are lent was run as if they were owned
pub as_owned : {P : Type 0} (race : Race P) (job_runs job_runs_now : List (JobRun (Unit {0}))) (peers peers_now : List P) → length job_runs ≡ length peers → length job_runs_now ≡ length job_runs → length peers_now ≡ length peers
    → ((i : ℕ) (d : JobRun (Unit {0})) (e : P) → i < length job_runs → RunsByPass race (owning (get_or job_runs i d) (get_or peers i e)) (owning (get_or job_runs_now i d) (get_or peers_now i e)))
    → (i : ℕ) (o : JobRun P) → i < length (all_owning job_runs peers) → RunsByPass race (slice_index_or (all_owning job_runs peers) i o) (slice_index_or (all_owning job_runs_now peers_now) i o)
as_owned {P} race job_runs job_runs_now peers peers_now same job_run_count peer_count ran i o low =
    let d : JobRun (Unit {0}) = record { job = record { remote = o.job.remote; peer = tt; options = o.job.options }; pass = o.pass; answer = o.answer } in
    let here : i < length job_runs = omega (arith, count_owning job_runs peers same) in
    subst (λ (x : JobRun P × JobRun P). RunsByPass race x.0 x.1)
    (λ j. (
      sym (owning_at job_runs peers i o d o.job.peer same here) j,
      sym (owning_at job_runs_now peers_now i o d o.job.peer (job_run_count ∙ (same ∙ sym peer_count)) (omega arith)) j,
    ))
    (ran i d o.job.peer here)

-- what stands in the row, from both
pub record IsOwning {P : Type 0} (job_runs : List (JobRun (Unit {0}))) (peers : List P) (i : ℕ) (x : JobRun P) : Type 0 where
  pub job_run : JobRun (Unit {0})
  pub peer : P
  pub job_run_at : slice_get job_runs i ≡ Some job_run
  pub peer_at : slice_get peers i ≡ Some peer
  pub is : owning job_run peer ≡ x

pub owned_at : {P : Type 0} (job_runs : List (JobRun (Unit {0}))) (peers : List P) (i : ℕ) (x : JobRun P) → slice_get (all_owning job_runs peers) i ≡ Some x → IsOwning job_runs peers i x
owned_at [] peers i x at = absurd cc
owned_at (job_run ∷ job_runs) [] i x at = absurd cc
owned_at (job_run ∷ job_runs) (peer ∷ peers) zero x at = record { job_run = job_run; peer = peer; job_run_at = refl; peer_at = refl; is = cc }
owned_at (job_run ∷ job_runs) (peer ∷ peers) (suc i) x at = let h = owned_at job_runs peers i x at in record { job_run = h.job_run; peer = h.peer; job_run_at = h.job_run_at; peer_at = h.peer_at; is = h.is }

pub owning_there : {P : Type 0} (job_runs : List (JobRun (Unit {0}))) (peers : List P) (i : ℕ) (job_run : JobRun (Unit {0})) → length job_runs ≡ length peers → slice_get job_runs i ≡ Some job_run
    → (peer : P) × (slice_get peers i ≡ Some peer) × (slice_get (all_owning job_runs peers) i ≡ Some (owning job_run peer))
owning_there [] peers i job_run same at = absurd cc
owning_there (r ∷ job_runs) [] i job_run same at = absurd (omega arith)
owning_there {P} (r ∷ job_runs) (peer ∷ peers) zero job_run same at = let e : r ≡ job_run = cc in (peer, refl, ap (λ (x : JobRun (Unit {0})). Some (owning x peer)) e)
owning_there (r ∷ job_runs) (peer ∷ peers) (suc i) job_run same at = owning_there job_runs peers i job_run (omega arith) at

-- the jobs of the row are told by the jobs and the peers
pub jobs_owning : {P : Type 0} (job_runs others : List (JobRun (Unit {0}))) (peers : List P) → map (λ r. r.job) job_runs ≡ map (λ r. r.job) others → map (λ r. r.job) (all_owning job_runs peers) ≡ map (λ r. r.job) (all_owning others peers)
jobs_owning [] [] peers is = refl
jobs_owning [] (o ∷ others) peers is = absurd cc
jobs_owning (r ∷ job_runs) [] peers is = absurd cc
jobs_owning (r ∷ job_runs) (o ∷ others) [] is = refl
jobs_owning {P} (r ∷ job_runs) (o ∷ others) (peer ∷ peers) is =
    let here : r.job ≡ o.job = cc in
    let rest : map (λ (x : JobRun (Unit {0})). x.job) job_runs ≡ map (λ (x : JobRun (Unit {0})). x.job) others = cc in
    let first : (owning r peer).job ≡ (owning o peer).job = ap (λ (j : Job (Unit {0})). record { remote = j.remote; peer = peer; options = j.options }) here in
    ap (λ (j : Job P). j ∷ map (λ (x : JobRun P). x.job) (all_owning job_runs peers)) first ∙ ap (λ (js : List (Job P)). (owning o peer).job ∷ js) (jobs_owning job_runs others peers rest)

-- and the answers by the jobs alone
pub answers_owning : {P : Type 0} (job_runs : List (JobRun (Unit {0}))) (peers : List P) → length job_runs ≡ length peers → map (λ r. r.answer) (all_owning job_runs peers) ≡ map (λ r. r.answer) job_runs
answers_owning [] peers same = refl
answers_owning (r ∷ job_runs) [] same = absurd (omega arith)
answers_owning (r ∷ job_runs) (peer ∷ peers) same = ap (λ l. r.answer ∷ l) (answers_owning job_runs peers (omega arith))

pub told_owning : {P : Type 0} (job_runs : List (JobRun (Unit {0}))) (peers : List P) → length job_runs ≡ length peers → map answer_in (all_owning job_runs peers) ≡ map answer_in job_runs
told_owning [] peers same = refl
told_owning (r ∷ job_runs) [] same = absurd (omega arith)
told_owning (r ∷ job_runs) (peer ∷ peers) same = ap (λ l. answer_in r ∷ l) (told_owning job_runs peers (omega arith))

pub peers_owning : {P : Type 0} (job_runs : List (JobRun (Unit {0}))) (peers : List P) → length job_runs ≡ length peers → map (λ r. r.job.peer) (all_owning job_runs peers) ≡ peers
peers_owning [] [] same = refl
peers_owning [] (p ∷ peers) same = absurd (omega arith)
peers_owning (r ∷ job_runs) [] same = absurd (omega arith)
peers_owning (r ∷ job_runs) (peer ∷ peers) same = ap (λ l. peer ∷ l) (peers_owning job_runs peers (omega arith))

-- jobs that have passes have them with peers
pub passes_owning : {P : Type 0} (which : Which) (olds given_passes : List (JobRun (Unit {0}))) (peers : List P) → HavePasses which (map (λ r. r.job) olds) given_passes → HavePasses which (map (λ r. r.job) (all_owning olds peers)) (all_owning given_passes peers)
passes_owning {P} which olds given_passes peers h = record { jobs_are = jobs_owning given_passes olds peers h.jobs_are; each = each }
  where
    each : (i : ℕ) (x : JobRun P) → slice_get (all_owning given_passes peers) i ≡ Some x → HasPass which i x
    each i x at =
        let o = owned_at given_passes peers i x at in
        let s = h.each i o.job_run o.job_run_at in
        subst (λ (y : JobRun P). HasPass which i y) o.is (record { pass = s.pass; pass_is = s.pass_is; own = s.own })

-- and what is over with peers is over
pub over_lent : {P : Type 0} (which : Which) (job_runs : List (JobRun (Unit {0}))) (peers : List P) → length job_runs ≡ length peers → AreOver which (all_owning job_runs peers) → AreOver which job_runs
over_lent which job_runs peers same h i job_run at =
    let there = owning_there job_runs peers i job_run same at in
    let o = h i (owning job_run there.0) there.2 in
    record { pass = o.pass; receipt = o.receipt; answer = o.answer; pass_is = o.pass_is; answer_is = o.answer_is; shared_is = o.shared_is; holds = o.holds }

-- what was gathered of jobs was gathered of them with peers
pub gathered_owning : {P : Type 0} (job_runs : List (JobRun (Unit {0}))) (peers : List P) (pass : Holder) → length job_runs ≡ length peers → AreGathered job_runs (length job_runs) pass → AreGathered (all_owning job_runs peers) (length (all_owning job_runs peers)) pass
gathered_owning {P} job_runs peers pass same h = record {
  taken = λ i x other low at is. let o = owned_at job_runs peers i x at in h.taken i o.job_run other (omega (arith, low, count)) o.job_run_at (ap (λ (y : JobRun P). y.pass) o.is ∙ is);
  holds = λ n low top. h.holds n (omega (arith, low, count)) top;
  none = λ n low top. h.none n (omega (arith, low, count)) top;
}
  where
    count : length (all_owning job_runs peers) ≡ length job_runs
    count = count_owning job_runs peers same

module _ {P : Type 0} (race : Race P) (which : Which) (opened : which.opening ≡ race.opening) (olds given_passes ran : List (JobRun (Unit {0}))) (peers peers_now : List P) (same : length given_passes ≡ length peers) (job_run_count : length ran ≡ length given_passes) (peer_count : length peers_now ≡ length peers)
    (sits : HavePasses which (map (λ r. r.job) olds) given_passes) (runs : (i : ℕ) (d : JobRun P) → i < length (all_owning given_passes peers) → RunsByPass race (slice_index_or (all_owning given_passes peers) i d) (slice_index_or (all_owning ran peers_now) i d)) where
  pub still_same : length ran ≡ length peers_now
  still_same = job_run_count ∙ same ∙ sym peer_count

  pub count_now : length (all_owning ran peers_now) ≡ length (all_owning given_passes peers)
  count_now = count_owning ran peers_now still_same ∙ job_run_count ∙ sym (count_owning given_passes peers same)

  pub lent_over : AreOver which ran
  lent_over =
      over_lent which ran peers_now still_same
      (all_over race which opened (map (λ (r : JobRun P). r.job) (all_owning olds peers)) (all_owning given_passes peers) (all_owning ran peers_now) count_now (passes_owning which olds given_passes peers sits) runs)

  -- the workers' races, as those of jobs that own their peers
  pub lent_raced : (left : List (JobRun (Unit {0}))) (pass : Holder) → length left ≡ length ran → map (λ r. r.answer) left ≡ map (λ r. r.answer) ran → map (λ r. r.job) left ≡ map (λ r. r.job) ran → AreGathered ran (length ran) pass
      → HaveRaced race pass.front (map (λ r. r.job) (all_owning olds peers)) (all_owning left peers_now)
  lent_raced left pass left_count answers jobs gathered =
      all_raced race which opened (map (λ (r : JobRun P). r.job) (all_owning olds peers)) (all_owning given_passes peers) (all_owning ran peers_now) count_now (passes_owning which olds given_passes peers sits) runs
      (all_owning left peers_now) pass (answers_owning left peers_now (left_count ∙ still_same) ∙ answers ∙ sym (answers_owning ran peers_now still_same)) (jobs_owning left ran peers_now jobs) (gathered_owning ran peers_now pass still_same gathered)
