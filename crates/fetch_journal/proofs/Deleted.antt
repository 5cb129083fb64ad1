-- What stands at a name after a deletion, and a deletion by edits.
use Rattle.std.proofs.Common.{◌≡◌, ◌||◌, ℕ, Bool, true, false, cond, List, [], ◌∷◌, map, Option, None, refl, sym, ap, ◌∙◌}
use Rattle.std.specs.Prelude.{if◌then◌else◌}
use Rattle.std.specs.Str.{bytes_eq}
use Rattle.std.specs.Cmp.Lexicographic.{texts_ties}
use Rattle.std.specs.FinMap.{FinMap, get, remove, get-remove}
use Rattle.fetch_refs.specs.declared.log.Signature.{Signature}
use Rattle.fetch_refs.specs.Names.{RefsValue, name_cmp}
use Rattle.fetch_refs.proofs.Names.{name_cmp_total}
use Rattle.fetch_journal.specs.Deletions.{without, without_name, is_among, deletion}
use Rattle.fetch_journal.specs.Machine.{edited}

module _ {X : Type 0} where
  abbrev removed : FinMap name_cmp X → List (List ℕ) → FinMap name_cmp X
  removed m [] = m
  removed m (n ∷ ns) = removed (remove m n) ns

  either : (a b : Bool) (x : Option X) → (if b then None else cond a None x) ≡ (if a || b then None else x)
  either true true x = refl
  either true false x = refl
  either false true x = refl
  either false false x = refl

  removed_at : (m : FinMap name_cmp X) (names : List (List ℕ)) (name : List ℕ) → get (removed m names) name ≡ (if is_among names name then None else get m name)
  removed_at m [] name = refl
  removed_at m (n ∷ ns) name =
      removed_at (remove m n) ns name
      ∙ ap (λ (x : Option X). if is_among ns name then None else x) (get-remove name_cmp_total m n name ∙ ap (λ b. cond b None (get m name)) (sym (texts_ties name n)))
      ∙ either (bytes_eq name n) (is_among ns name) (get m name)

names_without : (refs : RefsValue) (names : List (List ℕ)) → (without refs names).names ≡ removed refs.names names
names_without refs [] = refl
names_without refs (n ∷ ns) = names_without (without_name refs n) ns

logs_without : (refs : RefsValue) (names : List (List ℕ)) → (without refs names).logs ≡ removed refs.logs names
logs_without refs [] = refl
logs_without refs (n ∷ ns) = logs_without (without_name refs n) ns

packed_without : (refs : RefsValue) (names : List (List ℕ)) → (without refs names).packed ≡ removed refs.packed names
packed_without refs [] = refl
packed_without refs (n ∷ ns) = packed_without (without_name refs n) ns

pub names_at : (refs : RefsValue) (names : List (List ℕ)) (name : List ℕ) → get (without refs names).names name ≡ (if is_among names name then None else get refs.names name)
names_at refs names name = ap (λ m. get m name) (names_without refs names) ∙ removed_at refs.names names name

pub logs_at : (refs : RefsValue) (names : List (List ℕ)) (name : List ℕ) → get (without refs names).logs name ≡ (if is_among names name then None else get refs.logs name)
logs_at refs names name = ap (λ m. get m name) (logs_without refs names) ∙ removed_at refs.logs names name

pub packed_at : (refs : RefsValue) (names : List (List ℕ)) (name : List ℕ) → get (without refs names).packed name ≡ (if is_among names name then None else get refs.packed name)
packed_at refs names name = ap (λ m. get m name) (packed_without refs names) ∙ removed_at refs.packed names name

pub hash_kept : (refs : RefsValue) (names : List (List ℕ)) → (without refs names).hash ≡ refs.hash
hash_kept refs [] = refl
hash_kept refs (n ∷ ns) = hash_kept (without_name refs n) ns

-- edits that delete the names take the same
pub by_edits : (logging : Bool) (refs : RefsValue) (names : List (List ℕ)) (committer : Signature) → edited logging refs (map deletion names) committer ≡ without refs names
by_edits logging refs [] committer = refl
by_edits logging refs (n ∷ ns) committer = by_edits logging (without_name refs n) ns committer
