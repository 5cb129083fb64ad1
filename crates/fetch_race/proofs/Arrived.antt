-- Passes that are made one.
use Rattle.std.proofs.Common.{◌≡◌, ◌≢◌, ◌⊎◌, ℕ, suc, ◌+◌, ◌<◌, ◌≤◌, All, cond, List, [], ◌∷◌, ◌++◌, length, set, Some, refl, sym, ap, ◌∙◌, subst, inl, inr, ⊎_elim, arith, append_assoc, ne_eqb}
use Rattle.std.specs.Prelude.{slice_get, IfSome, Option}
use Rattle.std.proofs.lemmas.Bool.{cases_lt}
use Rattle.fetch_journal.specs.declared.entry.Entry.{Entry}
use Rattle.fetch_journal.specs.Journals.{Begins, entries_of, pass_of}
use Rattle.fetch_shared.specs.Numbers.{Holds}
use Rattle.fetch_shared.specs.Passes.{Holder, Which}
use Rattle.fetch_race.specs.declared.job.JobRun.{JobRun}
use Rattle.fetch_race.specs.Passes.{IsRest, IsOver, AreOver, IsJoined, HasTaken, AreGathered, HoldsAll}
use Rattle.fetch_race.proofs.Rows.{same, set_cases, there}

begins_then : (xs ys zs : List Entry) → Begins xs ys → Begins ys zs → Begins xs zs
begins_then xs ys zs p q = record { rest = p.rest ++ q.rest; is = sym (append_assoc xs p.rest q.rest) ∙ (ap (λ w. w ++ q.rest) p.is ∙ q.is) }

-- what a pass took it keeps where another one joins it
still : (n : ℕ) (other left right pass : Holder) → IsJoined left right pass → HasTaken n other left → HasTaken n other pass
still n other left right pass j h = record {
  holds = (j.held n).1 (inl h.holds);
  begins = begins_then other.front left.front pass.front h.begins j.begins.0;
  entries = j.left_entries n h.holds ∙ h.entries;
}

joins : (n : ℕ) (left right pass : Holder) → IsJoined left right pass → Holds right.held n → HasTaken n right pass
joins n left right pass j h = record { holds = (j.held n).1 (inr h); begins = j.begins.1; entries = j.right_entries n h }

pub none_gathered : {P : Type 0} (shared : Which) (job_runs : List (JobRun P)) (rest : Holder) → IsRest shared (length job_runs) rest → AreGathered job_runs 0 rest
none_gathered shared job_runs rest r = record {
  taken = λ i job_run other low at is. absurd (omega arith);
  holds = r.holds;
  none = λ n low top. ap (entries_of n) r.front_is;
}

pub one_gathered : {P : Type 0} (shared : Which) (job_runs : List (JobRun P)) (i : ℕ) (job_run : JobRun P) (all pass : Holder) → AreGathered job_runs i all → slice_get job_runs i ≡ Some job_run → IsOver shared i job_run
    → ((other : Holder) → job_run.pass ≡ Some other → IsJoined all other pass) → AreGathered job_runs (i + 1) pass
one_gathered {P} shared job_runs i job_run all pass h at over joined = record {
  taken = λ k r other low there is. by k r other low there is (cases_lt k i);
  holds = λ n low top. (j.held n).1 (inl (h.holds n low top));
  none = λ n low top. j.left_entries n (h.holds n low top) ∙ h.none n low top;
}
  where
    j : IsJoined all over.pass pass
    j = joined over.pass over.pass_is

    own : HasTaken i over.pass pass
    own = joins i all over.pass pass j over.holds

    by : (k : ℕ) (r : JobRun P) (other : Holder) → k < i + 1 → slice_get job_runs k ≡ Some r → r.pass ≡ Some other → (k < i) ⊎ (i ≤ k) → HasTaken k other pass
    by k r other low there is (inl below) = still k other all over.pass pass j (h.taken k r other below there is)
    by k r other low there is (inr high) =
        let here : i ≡ k = omega arith in
        let r_is : job_run ≡ r = same (slice_get job_runs i) job_run r at (ap (slice_get job_runs) here ∙ there) in
        let other_is : over.pass ≡ other = same job_run.pass over.pass other over.pass_is (ap (λ (x : JobRun P). x.pass) r_is ∙ is) in
        subst (λ (x : ℕ × Holder). HasTaken x.0 x.1 pass) (λ t. (here t, other_is t)) own

-- the pass of a job whose job is done is of this shared repository
pub if_over : {P : Type 0} (shared : Which) (n : ℕ) (job_run : JobRun P) → IsOver shared n job_run → IfSome job_run.pass (λ p. p.shared ≡ shared)
if_over shared n job_run over = subst (λ (o : Option Holder). IfSome o (λ p. p.shared ≡ shared)) (sym over.pass_is) over.shared_is

-- what is behind a place that was written is as it was
pub behind : {P : Type 0} (job_runs found : List (JobRun P)) (i : ℕ) (y : JobRun P) → ((k : ℕ) (r : JobRun P) → i ≤ k → slice_get job_runs k ≡ Some r → slice_get found k ≡ Some r)
    → (k : ℕ) (r : JobRun P) → i + 1 ≤ k → slice_get (set job_runs i y) k ≡ Some r → slice_get found k ≡ Some r
behind {P} job_runs found i y h k r low at =
    ⊎_elim (λ (new : (k ≡ i) × (r ≡ y)). absurd (omega (arith, new.0))) (λ (old : (k ≢ i) × (slice_get job_runs k ≡ Some r)). h k r (omega arith) old.1) (set_cases job_runs i y k r at)

-- all passes that were made one hold every number
pub all_held : {P : Type 0} (shared : Which) (job_runs : List (JobRun P)) (pass : Holder) → AreOver shared job_runs → AreGathered job_runs (length job_runs) pass → HoldsAll pass
all_held shared job_runs pass over h n top = ⊎_elim (λ (low : n < length job_runs). mine low) (λ (high : length job_runs ≤ n). h.holds n high top) (cases_lt n (length job_runs))
  where
    mine : n < length job_runs → Holds pass.held n
    mine low =
        let x = there job_runs n low in
        let o = over n x.0 x.1 in
        (h.taken n x.0 o.pass low x.1 o.pass_is).holds

-- a journal whose entries have numbers below this one has no entry of a number from there on
pub none_above : (top n : ℕ) (journal : List Entry) → All (λ e. pass_of e < top) journal → top ≤ n → entries_of n journal ≡ []
none_above top n [] below high = refl
none_above top n (e ∷ es) below high =
    let here : pass_of e < top = below 0 e (omega arith) in
    let other : pass_of e ≢ n = omega (arith, here) in
    ap (λ b. cond b (e ∷ entries_of n es) (entries_of n es)) (ne_eqb (pass_of e) n other) ∙ none_above top n es (λ k d low. below (suc k) d (omega arith)) high
