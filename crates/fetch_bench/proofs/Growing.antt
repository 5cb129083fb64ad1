-- A line that grows by a commit.
use Rattle.std.proofs.Common.{◌≡◌, ℕ, ◌+◌, List, [], ◌∷◌, ◌++◌, map, Option, Some, refl, ap, sym, ◌∙◌, add-one, append_assoc, arith}
use Rattle.std.proofs.lemmas.List.{map_push}
use Rattle.std.proofs.lemmas.List.FromFn.{map-range_with_len_more}
use Rattle.fetch_base.specs.Hashing.{id_of}
use Rattle.fetch_objects.specs.Objects.{Stored}
use Rattle.fetch_store.specs.Stores.{Entries}
use Rattle.fetch_base.specs.declared.id.Kind.TheVariants.{Sha1}
use Rattle.fetch_base.specs.declared.id.ObjectId.{ObjectId}
use Rattle.fetch_base.specs.declared.object_kind.ObjectKind.TheVariants.{Commit}
use Rattle.fetch_bench.specs.Commits.{under_its_id, text_of, commit_after, commits_after, tip}

tip_more : (n : ℕ) → tip (n + 1) ≡ Some (id_of Sha1 Commit (text_of (tip n) (n + 1)))
tip_more n = ap tip (add-one n)

commits_more : (before i : ℕ) → map under_its_id (commits_after before (i + 1)) ≡ map under_its_id (commits_after before i) ++ under_its_id (commit_after (before + i)) ∷ []
commits_more before i =
    ap (λ (commits : List Stored). map under_its_id commits) (map-range_with_len_more commit_after before i (before + i) refl)
    ∙ map_push under_its_id (commits_after before i) (commit_after (before + i))

abbrev pub pair : ObjectId → Stored → ObjectId × Stored
pair id o = (id, o)

-- the next commit is put after the others
pub line_grows : (before i : ℕ) (start out new : Entries) (last : Option ObjectId) (text : List ℕ) (id : ObjectId) (o : Stored)
    → out ≡ start ++ map under_its_id (commits_after before i) → last ≡ tip (before + i) → text ≡ text_of last (before + i + 1)
    → id ≡ id_of Sha1 Commit text → o ≡ record { hash = Sha1; kind = Commit; bytes = text } → new ≡ out ++ (id, o) ∷ []
    → (new ≡ start ++ map under_its_id (commits_after before (i + 1))) × (Some id ≡ tip (before + (i + 1)))
line_grows before i start out new last text id o out_is last_is text_is id_is o_is new_is =
    let n = before + i in
    let all : text ≡ text_of (tip n) (n + 1) = rw last_is at text_is in
    let entry : pair id o ≡ under_its_id (commit_after n) = rw (o_is, id_is, all) refl in
    let on : n + 1 ≡ before + (i + 1) = omega arith in
    let joined : new ≡ start ++ (map under_its_id (commits_after before i) ++ under_its_id (commit_after n) ∷ []) = rw (new_is, out_is, entry) (append_assoc start _ _) in
    let tip_is : Some id ≡ tip (n + 1) = rw (id_is, all) (sym (tip_more n)) in
    (joined ∙ ap (λ (more : Entries). start ++ more) (sym (commits_more before i)), tip_is ∙ ap tip on)
