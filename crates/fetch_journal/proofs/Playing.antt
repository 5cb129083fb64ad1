-- A journal that is played entry by entry, and where it fails.
use Rattle.std.proofs.Common.{◌≡◌, ◌<◌, ◌≤◌, ℕ, ◌+◌, get_or, zero, suc, List, [], ◌∷◌, ◌++◌, length, map, take, Option, None, Some, refl, sym, ap, ap₂, subst, ◌∙◌, arith, ◌||◌}
use Rattle.std.specs.Prelude.{MatchOption, ⊤}
use Rattle.std.proofs.lemmas.List.{take_all, take_more}
use Rattle.std.proofs.lemmas.Option.{slice_get_read}
use Rattle.std.specs.Option.{option_and_then}
use Rattle.fetch_refs.specs.declared.error.RefError.{RefError}
use Rattle.fetch_refs.specs.declared.error.RefError.TheVariants as causes
use Rattle.fetch_refs.specs.Answers.{IsUnlessMemory}
use Rattle.fetch_refs.specs.Names.{Names, RefsValue}
use Rattle.fetch_refs.specs.declared.edit.RefEdit.{RefEdit}
use Rattle.fetch_refs.specs.declared.log.Signature.{Signature}
use Rattle.fetch_journal.specs.Deletions.{deletion, without}
use Rattle.fetch_journal.proofs.Deleted.{by_edits}
use Rattle.fetch_journal.specs.declared.entry.Entry.{Entry}
use Rattle.fetch_journal.specs.declared.entry.Entry.TheVariants as entries
use Rattle.fetch_journal.specs.declared.replaying.Playing.{Playing}
use Rattle.fetch_journal.specs.declared.replaying.Replayed.{Replayed}
use Rattle.fetch_journal.specs.declared.replaying.ReplayFault.TheVariants as faults
use Rattle.fetch_remote.specs.RepositoryValues.{RepositoryValue}
use Rattle.fetch_journal.specs.Machine.{edited}
use Rattle.fetch_journal.specs.Faults.{Shows, TellsFault, fault_at, left_by, unmet, unmet_at}
use Rattle.fetch_journal.specs.Replays.{Outline, outline, replay, played, IsMet, AllMet}
use Rattle.fetch_journal.specs.Shared.{IsKept}
use Rattle.fetch_journal.proofs.Replays.{replay-append}
use Rattle.std.specs.FinSet as set
use Rattle.std.specs.Ordering.{eq_by_cmp}
use Rattle.std.proofs.lemmas.List.Folds.{list_any-append}
use Rattle.fetch_base.specs.declared.id.ObjectId.{ObjectId}
use Rattle.fetch_store.specs.Borders.{set_of, merged}
use Rattle.fetch_base.specs.Id.{id_cmp}
use Rattle.fetch_base.proofs.Ids.{id_cmp_total, id_cmp_exact}

-- the ids of two lists, one after the other
pub ids_more : (xs ys : List ObjectId) → set_of (xs ++ ys) ≡ set.union (set_of xs) (set_of ys)
ids_more xs ys = set.same_set id_cmp_total id_cmp_exact (set_of (xs ++ ys)) (set.union (set_of xs) (set_of ys)) (λ q.
    set.contains-from_list id_cmp_total (xs ++ ys) q ∙ list_any-append (eq_by_cmp id_cmp q) xs ys
    ∙ sym (set.contains-union id_cmp_total (set_of xs) (set_of ys) q
    ∙ ap₂ (λ x y. x || y) (set.contains-from_list id_cmp_total xs q) (set.contains-from_list id_cmp_total ys q)))

was_none : (o : Option RefError) → MatchOption o ⊤ (λ x. ⊥) → o ≡ None
was_none None is = refl
was_none (Some x) is = absurd is

-- a take is played
pub taken : (v : Outline) (p q : Playing) (e : Entry) (pass : ℕ) (ids shallow unshallow : List ObjectId) → e ≡ entries.Take pass ids shallow unshallow → Shows v p
    → q.refs ≡ p.refs → q.ids.items ≡ p.ids.items ++ ids → q.border ≡ merged p.border shallow unshallow → q.logging ≡ p.logging → Shows (played v e) q
taken v p q e pass ids shallow unshallow is shows refs items border logging = subst (λ x. Shows (played v x) q) (sym is) (record {
  refs = refs ∙ shows.refs;
  ids = ap set_of items ∙ ids_more p.ids.items ids ∙ ap (λ s. set.union s (set_of ids)) shows.ids;
  border = border ∙ ap (λ b. merged b shallow unshallow) shows.border;
  logging = logging ∙ shows.logging;
})

-- a deletion is played, by its edits
pub deleted : (v : Outline) (p q : Playing) (e : Entry) (pass : ℕ) (names : List (List ℕ)) (edits : List RefEdit) (committer : Signature) → e ≡ entries.Delete pass names → Shows v p
    → edits ≡ map deletion names → q.refs ≡ edited p.logging p.refs edits committer → q.ids ≡ p.ids → q.border ≡ p.border → q.logging ≡ p.logging → Shows (played v e) q
deleted v p q e pass names edits committer is shows each refs ids border logging = subst (λ x. Shows (played v x) q) (sym is) (record {
  refs = refs ∙ ap (λ es. edited p.logging p.refs es committer) each ∙ by_edits p.logging p.refs names committer ∙ ap (λ r. without r names) shows.refs;
  ids = ap (λ i. set_of i.items) ids ∙ shows.ids;
  border = border ∙ shows.border;
  logging = logging ∙ shows.logging;
})

module _ (v : Outline) (journal : List Entry) (k : ℕ) (e : Entry) (p : Playing) (low : k < length journal) (is : e ≡ get_or journal k e) (shows : Shows (replay v (take k journal)) p) where
  -- an entry more is played
  pub shows_next : (q : Playing) → ((w : Outline) → Shows w p → Shows (played w e) q) → Shows (replay v (take (k + 1) journal)) q
  shows_next q next =
      let more : take (k + 1) journal ≡ take k journal ++ e ∷ [] = take_more journal k e low ∙ ap (λ (x : Entry). take k journal ++ x ∷ []) (sym is) in
      subst (λ w. Shows w q) (sym (ap (replay v) more ∙ replay-append v (take k journal) (e ∷ []))) (next (replay v (take k journal)) shows)

  -- what is unmet there is so over the references that are shown
  pub unmet_here : unmet_at v journal k ≡ unmet p.refs.names e
  unmet_here =
      ap (option_and_then (unmet (replay v (take k journal)).refs.names)) (slice_get_read journal (length journal) k e refl low is)
      ∙ ap (λ (r : RefsValue). unmet r.names e) (sym shows.refs)

  -- an entry that was played was met
  pub met_here : MatchOption (unmet p.refs.names e) ⊤ (λ x. ⊥) → unmet_at v journal k ≡ None
  met_here done = unmet_here ∙ was_none (unmet p.refs.names e) done

  -- a cause is that of this place
  pub caused_here : (cause : RefError) → MatchOption (unmet p.refs.names e) (cause ≡ causes.NoMemory) (λ x. IsUnlessMemory x cause) → MatchOption (unmet_at v journal k) (cause ≡ causes.NoMemory) (λ x. IsUnlessMemory x cause)
  caused_here cause = subst (λ o. MatchOption o (cause ≡ causes.NoMemory) (λ x. IsUnlessMemory x cause)) (sym unmet_here)

met_of : (names : Names) (e : Entry) → unmet names e ≡ None → IsMet names e
met_of names (entries.Take pass ids shallow unshallow) is = tt
met_of names (entries.Commit pass edits committer) is = is
met_of names (entries.Delete pass names') is = tt

of_met : (names : Names) (e : Entry) → IsMet names e → unmet names e ≡ None
of_met names (entries.Take pass ids shallow unshallow) met = refl
of_met names (entries.Commit pass edits committer) met = met
of_met names (entries.Delete pass names') met = refl

-- a journal is met where it is at each place
pub all_met : (v : Outline) (journal : List Entry) → ((k : ℕ) → k < length journal → unmet_at v journal k ≡ None) → AllMet v journal
all_met v [] each = tt
all_met v (e ∷ journal) each = (met_of v.refs.names e (each 0 (omega arith)), all_met (played v e) journal (λ k low. each (suc k) (omega arith)))

pub met_each : (v : Outline) (journal : List Entry) → AllMet v journal → (k : ℕ) → unmet_at v journal k ≡ None
met_each v [] met k = refl
met_each v (e ∷ journal) met zero = of_met v.refs.names e met.0
met_each v (e ∷ journal) met (suc k) = met_each (played v e) journal met.1 k

-- where all is met there is no cause but memory
pub memory_alone : (v : Outline) (journal : List Entry) (k : ℕ) (cause : RefError) → AllMet v journal → MatchOption (unmet_at v journal k) (cause ≡ causes.NoMemory) (λ x. IsUnlessMemory x cause) → fault_at k cause ≡ faults.NoMemory
memory_alone v journal k cause met is =
    ap (fault_at k) (subst (λ o. MatchOption o (cause ≡ causes.NoMemory) (λ x. IsUnlessMemory x cause)) (met_each v journal met k) is)

-- a cause is told with its place
pub told_here : (v : Outline) (journal : List Entry) (k : ℕ) (cause : RefError) → MatchOption (unmet_at v journal k) (cause ≡ causes.NoMemory) (λ e. IsUnlessMemory e cause)
    → ((earlier : ℕ) → earlier < k → unmet_at v journal earlier ≡ None) → TellsFault v journal (fault_at k cause)
told_here v journal k (causes.Expectation index found) is first = record { told = by_value (unmet_at v journal k) is; first = first }
  where
    by_value : (o : Option RefError) → MatchOption o (causes.Expectation index found ≡ causes.NoMemory) (λ e. IsUnlessMemory e (causes.Expectation index found)) → o ≡ Some (causes.Expectation index found)
    by_value None m = absurd cc
    by_value (Some e) m = ap (λ (x : RefError). Some x) (sym m)
told_here v journal k (causes.Cycle name) is first = tt
told_here v journal k (causes.Depth name) is first = tt
told_here v journal k (causes.Unborn name) is first = tt
told_here v journal k (causes.MissingObject id) is first = tt
told_here v journal k (causes.TagCycle id) is first = tt
told_here v journal k causes.NoMemory is first = tt

-- a journal with which a repository is kept leaves that repository
pub left_kept : (opening r : RepositoryValue) (journal : List Entry) (k : ℕ) (p : Playing) (left : Replayed) → length journal ≤ k → Shows (replay (outline opening) (take k journal)) p
    → ((v : Outline) → Shows v p → left ≡ left_by v) → IsKept (record { opening = opening; repository = r; journal = journal }) → left ≡ left_by (outline r)
left_kept opening r journal k p left past shows is kept =
    is (replay (outline opening) (take k journal)) shows ∙ ap (λ es. left_by (replay (outline opening) es)) (take_all k journal past) ∙ ap left_by (sym kept.state.told)
