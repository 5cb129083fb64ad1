-- The border of a state that a journal left of an empty repository: ids of its hash, as a request tells them.
use Rattle.std.proofs.Common.{◌≡◌, ◌-◌, true, List, [], ◌∷◌, ◌++◌, length, Option, Some, None, refl, sym, ap, ◌∙◌, subst, arith, length-append, Contains}
use Rattle.std.specs.Prelude.{IsTrue, slice_get}
use Rattle.std.specs.FinMap as finmap
use Rattle.std.specs.FinSet as set
use Rattle.std.specs.List.Sorted.{IsStrictlySortedBy}
use Rattle.std.specs.Ordering.{is_lt}
use Rattle.std.proofs.lemmas.Map.Keys.{sorted_head, sorted_tail}
use Rattle.fetch_store.specs.Borders.{IdSet, ids_of}
use Rattle.fetch_store.specs.Closed.{is_commit}
use Rattle.fetch_objects.specs.Objects.{Stored}
use Rattle.fetch_store.specs.Stores.{ObjectMap}
use Rattle.fetch_base.specs.Id.{id_cmp}
use Rattle.fetch_base.specs.declared.id.Kind.{Kind}
use Rattle.fetch_base.specs.declared.id.ObjectId.{ObjectId}
use Rattle.fetch_store.proofs.Borders.{named-Contains, named-ids_of}
use Rattle.fetch_store.proofs.Keys.{keys-rise}
use Rattle.fetch_store.proofs.Members.{first_in, later_in}
use Rattle.fetch_reach.specs.Named.{own_id}
use Rattle.fetch_journal.specs.Replays.{Outline, outline}
use Rattle.fetch_journal.specs.Shared.{IsKept, SharedValue}
use Rattle.fetch_journal.proofs.Replays.{replay_hash}
use Rattle.fetch_lines.specs.ServerLines.{IsIdOf}
use Rattle.fetch_asked.specs.Requests.{is_greater}
use Rattle.fetch_serve.proofs.Ids.{own_is}
use Rattle.fetch_mirror.specs.Fetches.{AreAbove}

-- ---- in their order

at_end : (xs : List ObjectId) (x : ObjectId) → slice_get (xs ++ x ∷ []) (length xs) ≡ Some x
at_end [] x = refl
at_end (y ∷ xs) x = at_end xs x

last_is : (xs : List ObjectId) (x : ObjectId) → slice_get (xs ++ x ∷ []) (length (xs ++ x ∷ []) - 1) ≡ Some x
last_is xs x =
    let n : length (xs ++ x ∷ []) - 1 ≡ length xs = omega (arith, length-append xs (x ∷ [])) in
    ap (slice_get (xs ++ x ∷ [])) n ∙ at_end xs x

above_last : (hash : Kind) (before : List ObjectId) (last : ObjectId) (ids : List ObjectId) → slice_get before (length before - 1) ≡ Some last → IsStrictlySortedBy id_cmp (last ∷ ids) → ((id : ObjectId) → Contains ids id → IsIdOf hash id)
    → AreAbove hash before ids
above_last hash before last [] at rise own = tt
above_last hash before last (id ∷ ids) at rise own = (
  own id (first_in id ids),
  ap (λ (o : Option ObjectId). is_greater o id) at ∙ ap is_lt (sorted_head id_cmp last (id ∷ ids) rise).0,
  above_last hash (before ++ id ∷ []) id ids (last_is before id) (sorted_tail id_cmp last (id ∷ ids) rise) (λ x among. own x (later_in x id ids among)),
)

above_none : (hash : Kind) (ids : List ObjectId) → IsStrictlySortedBy id_cmp ids → ((id : ObjectId) → Contains ids id → IsIdOf hash id) → AreAbove hash [] ids
above_none hash [] rise own = tt
above_none hash (id ∷ ids) rise own = (own id (first_in id ids), refl, above_last hash (id ∷ []) id ids refl rise (λ x among. own x (later_in x id ids among)))

ids_rise : (s : IdSet) → IsStrictlySortedBy id_cmp (ids_of s)
unfolding ids_of
ids_rise s = keys-rise _

-- ---- a state

module _ (hash : Kind) (v : SharedValue) (kept : IsKept v) (empty : v.opening.state.objects ≡ finmap.empty) (hash_is : v.opening.state.hash ≡ hash) where
  same_hash : v.repository.state.hash ≡ hash
  same_hash = ap (λ (o : Outline). o.hash) kept.state.told ∙ replay_hash (outline v.opening) v.journal ∙ hash_is

  -- what stands at an id of the border has it as its own
  border_id : (id : ObjectId) → set.contains v.repository.state.border id ≡ true → IsIdOf hash id
  border_id id among = by (finmap.get v.repository.state.objects id) refl (kept.sound.closed.bordered id among)
    where
      by : (o : Option Stored) → finmap.get v.repository.state.objects id ≡ o → IsTrue (is_commit o) → IsIdOf hash id
      by None at commit = absurd cc
      by (Some o) at commit =
          let own : id ≡ own_id o = kept.state.pinned.named id o (ap (λ (m : ObjectMap). finmap.get m id) empty ∙ finmap.get-empty id_cmp id) at in
          subst (λ (k : Kind). IsIdOf k id) (kept.sound.of_hash.each id o at ∙ same_hash) (subst (IsIdOf o.hash) (sym own) (own_is o))

  pub border_above : AreAbove hash [] (ids_of v.repository.state.border)
  border_above =
      above_none hash (ids_of v.repository.state.border) (ids_rise v.repository.state.border)
      (λ id among. border_id id (sym (named-ids_of v.repository.state.border id) ∙ named-Contains id (ids_of v.repository.state.border) among))
