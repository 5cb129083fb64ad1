-- A journal replays to what became of a repository, and each commit in it met its expectations.
use Rattle.std.proofs.Common.{◌≡◌, ◌||◌, ℕ, List, [], ◌∷◌, ◌++◌, map, None, Some, is_some, refl, sym, ap, ap₂, subst, ◌∙◌}
use Rattle.std.specs.FinMap as fin
use Rattle.std.specs.FinMap.Entries.{is_some-find}
use Rattle.std.specs.FinSet as set
use Rattle.fetch_base.specs.declared.id.ObjectId.{ObjectId}
use Rattle.fetch_store.specs.Borders.{set_of, merged}
use Rattle.fetch_store.specs.Honest.{Pack}
use Rattle.fetch_objects.specs.Objects.{Stored}
use Rattle.fetch_store.specs.Stores.{ObjectMap, Entries, add_all, first_some}
use Rattle.fetch_base.specs.Id.{id_cmp}
use Rattle.fetch_store.proofs.Additions.{get-add_all}
use Rattle.fetch_base.proofs.Ids.{id_cmp_total, id_cmp_exact}
use Rattle.fetch_remote.specs.RepositoryValues.{RepositoryValue}
use Rattle.fetch_journal.specs.declared.entry.Entry.{Entry}
use Rattle.fetch_journal.specs.declared.entry.Entry.TheVariants as entries
use Rattle.fetch_journal.specs.Machine.{State, Event, with_pack, entered, start, run, after, effect, refusal}
use Rattle.fetch_journal.specs.Machine.Event.{Plan, Snapshot, Take, Commit, Delete}
use Rattle.fetch_journal.specs.Replays.{Outline, outline, played, replay, IsMet, AllMet, Tells}
use Rattle.fetch_journal.proofs.Refusals.{commit_met}
use Rattle.fetch_journal.proofs.Runs.{after_cases}
use Rattle.std.proofs.Common.{Option}

pub contains-ids : (m : ObjectMap) (q : ObjectId) → set.contains (set_of (fin.keys m)) q ≡ fin.contains_key m q
contains-ids m q = set.contains-from_list id_cmp_total (fin.keys m) q ∙ sym (fin.contains_key-keys m q)

one_or : (x y : Option Stored) → is_some (first_some x y) ≡ (is_some x || is_some y)
one_or None y = refl
one_or (Some o) y = refl

-- the stored ids after a list of entries
pub ids_added : (m : ObjectMap) (es : Entries) → set_of (fin.keys (add_all m es)) ≡ set.union (set_of (fin.keys m)) (set_of (map (λ e. e.0) es))
ids_added m es = set.same_set id_cmp_total id_cmp_exact (set_of (fin.keys (add_all m es))) (set.union (set_of (fin.keys m)) (set_of (map (λ e. e.0) es))) (λ q.
    contains-ids (add_all m es) q ∙ ap is_some (get-add_all m es q) ∙ one_or (fin.get m q) (fin.find id_cmp q es)
    ∙ sym (set.contains-union id_cmp_total (set_of (fin.keys m)) (set_of (map (λ e. e.0) es)) q
    ∙ ap₂ (λ x y. x || y) (contains-ids m q) (set.contains-from_list id_cmp_total (map (λ e. e.0) es) q ∙ sym (is_some-find id_cmp q es))))

pub outline-take : (r : RepositoryValue) (pass : ℕ) (pack : Pack) → outline (with_pack r pack) ≡ played (outline r) (entries.Take pass (map (λ e. e.0) pack.objects) pack.shallow pack.unshallow)
outline-take r pass pack =
    let same = ids_added r.state.objects pack.objects in
    λ i. record { hash = r.state.hash; ids = same i; border = merged r.state.border pack.shallow pack.unshallow; refs = r.state.refs; setup = r.setup }

pub replay-append : (v : Outline) (xs ys : List Entry) → replay v (xs ++ ys) ≡ replay (replay v xs) ys
replay-append v [] ys = refl
replay-append v (x ∷ xs) ys = replay-append (played v x) xs ys

played_hash : (v : Outline) (e : Entry) → (played v e).hash ≡ v.hash
played_hash v (entries.Take pass ids shallow unshallow) = refl
played_hash v (entries.Commit pass edits committer) = refl
played_hash v (entries.Delete pass names) = refl

pub replay_hash : (v : Outline) (es : List Entry) → (replay v es).hash ≡ v.hash
replay_hash v [] = refl
replay_hash v (e ∷ es) = replay_hash (played v e) es ∙ played_hash v e

met_push : (v : Outline) (es : List Entry) (e : Entry) → AllMet v es → IsMet (replay v es).refs.names e → AllMet v (es ++ e ∷ [])
met_push v [] e all met = (met, tt)
met_push v (x ∷ es) e all met = (all.0, met_push (played v x) es e all.1 met)

pub met_at : (v : Outline) (front : List Entry) (e : Entry) (rest : List Entry) → AllMet v (front ++ e ∷ rest) → IsMet (replay v front).refs.names e
met_at v [] e rest all = all.0
met_at v (x ∷ front) e rest all = met_at (played v x) front e rest all.1

tells_more : (v : Outline) (s : State) (r : RepositoryValue) (e : Entry) → Tells v s → outline r ≡ played (outline s.repository) e → IsMet s.repository.state.refs.names e → Tells v (entered s r e)
tells_more v s r e tells is met = record {
  replays = is ∙ ap (λ o. played o e) tells.replays ∙ sym (replay-append v s.journal (e ∷ []));
  met = met_push v s.journal e tells.met (subst (λ (o : Outline). IsMet o.refs.names e) tells.replays met);
}

pub effect_tells : (v : Outline) (s : State) (event : Event) → Tells v s → refusal s event ≡ None → Tells v (effect s event)
effect_tells v s Plan tells ok = tells
effect_tells v s Snapshot tells ok = tells
effect_tells v s (Take pass wants pack) tells ok = tells_more v s (with_pack s.repository pack) _ tells (outline-take s.repository pass pack) tt
effect_tells v s (Commit pass edits committer) tells ok = tells_more v s _ (entries.Commit pass edits committer) tells refl (commit_met s.repository.state.refs.names edits ok)
effect_tells v s (Delete pass names) tells ok = tells_more v s _ (entries.Delete pass names) tells refl tt

pub run_tells : (v : Outline) (s : State) (events : List Event) → Tells v s → Tells v (run s events)
run_tells v s [] tells = tells
run_tells v s (e ∷ es) tells = run_tells v (after s e) es (after_cases (Tells v) s e tells (λ ok. effect_tells v s e tells ok))

pub start_tells : (r : RepositoryValue) → Tells (outline r) (start r)
start_tells r = record { replays = refl; met = tt }
