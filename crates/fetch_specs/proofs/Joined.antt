-- A short name after what its category's names begin with.
use Rattle.std.proofs.Common.{◌≡◌, ℕ, ◌+◌, Bool, true, false, cond, not, ◌&&◌, ltb, List, [], ◌∷◌, ◌++◌, length, Option, Some, None, refl, sym, ap, ◌∙◌, arith}
use Rattle.std.specs.Prelude.{nat_eq, option_map}
use Rattle.std.specs.List.{starts_with}
use Rattle.std.specs.Str.{bytes_eq}
use Rattle.std.proofs.lemmas.Bool.{ltb-true, ltb-false}
use Rattle.std.proofs.lemmas.List.{length-append}
use Rattle.std.proofs.lemmas.Slice.Eq.{bytes_eq-Decides}
use Rattle.fetch_specs.specs.declared.category.Category.{Category}
use Rattle.fetch_specs.specs.declared.category.Category.TheVariants.{Tag, LocalBranch, RemoteBranch, Note, PseudoRef}
use Rattle.fetch_specs.specs.Categories.{refs, tags, heads, remotes, notes, prefix_of, is_pseudo}
use Rattle.fetch_specs.specs.Names.{last_is, lock, name_trouble, full_name_trouble}
use Rattle.fetch_specs.specs.Scans.{may_end, scan, last_part}
use Rattle.fetch_specs.proofs.Fronts.{stuck, whole, scan-le}
use Rattle.fetch_specs.proofs.FullNames.{under_refs}

-- parts under `refs/` with a slash at the end: what follows is judged as by itself, but that it may be `@`
pub record IsFront (p : List ℕ) : Type 0 where
  scans : (s : List ℕ) → scan false [] (p ++ s) ≡ length p + scan false [] s
  last : (s : List ℕ) → last_part [] (p ++ s) ≡ last_part [] s
  dot : (s : List ℕ) → last_is 46 (p ++ s) ≡ last_is 46 s
  other : (s : List ℕ) → bytes_eq (p ++ s) (64 ∷ []) ≡ false
  under : (s : List ℕ) → starts_with nat_eq (p ++ s) refs ≡ true

pub tags_front : IsFront tags
unfolding tags refs lock
tags_front = record {
  scans = λ s. let e : scan false [] (tags ++ s) ≡ scan false [] s + 1 + 1 + 1 + 1 + 1 + 1 + 1 + 1 + 1 + 1 = refl in omega (arith, e);
  last = λ s. refl;
  dot = by_end;
  other = λ s. refl;
  under = λ s. refl;
}
  where
    by_end : (s : List ℕ) → last_is 46 (tags ++ s) ≡ last_is 46 s
    by_end [] = refl
    by_end (b ∷ s) = refl

pub heads_front : IsFront heads
unfolding heads refs lock
heads_front = record {
  scans = λ s. let e : scan false [] (heads ++ s) ≡ scan false [] s + 1 + 1 + 1 + 1 + 1 + 1 + 1 + 1 + 1 + 1 + 1 = refl in omega (arith, e);
  last = λ s. refl;
  dot = by_end;
  other = λ s. refl;
  under = λ s. refl;
}
  where
    by_end : (s : List ℕ) → last_is 46 (heads ++ s) ≡ last_is 46 s
    by_end [] = refl
    by_end (b ∷ s) = refl

pub remotes_front : IsFront remotes
unfolding remotes refs lock
remotes_front = record {
  scans = λ s. let e : scan false [] (remotes ++ s) ≡ scan false [] s + 1 + 1 + 1 + 1 + 1 + 1 + 1 + 1 + 1 + 1 + 1 + 1 + 1 = refl in omega (arith, e);
  last = λ s. refl;
  dot = by_end;
  other = λ s. refl;
  under = λ s. refl;
}
  where
    by_end : (s : List ℕ) → last_is 46 (remotes ++ s) ≡ last_is 46 s
    by_end [] = refl
    by_end (b ∷ s) = refl

pub notes_front : IsFront notes
unfolding notes refs lock
notes_front = record {
  scans = λ s. let e : scan false [] (notes ++ s) ≡ scan false [] s + 1 + 1 + 1 + 1 + 1 + 1 + 1 + 1 + 1 + 1 + 1 = refl in omega (arith, e);
  last = λ s. refl;
  dot = by_end;
  other = λ s. refl;
  under = λ s. refl;
}
  where
    by_end : (s : List ℕ) → last_is 46 (notes ++ s) ≡ last_is 46 s
    by_end [] = refl
    by_end (b ∷ s) = refl

and_true : (t : Bool) → (t && true) ≡ t
and_true true = refl
and_true false = refl

-- what is judged where all was scanned
all_scanned : (p s : List ℕ) → IsFront p → scan false [] s ≡ length s → name_trouble false (p ++ s) ≡ cond (may_end (last_part [] s) && not (last_is 46 s)) None (Some (length p + length s))
all_scanned p s front all =
    let len = length-append p s in
    whole false (p ++ s) (omega (arith, front.scans s, all, len))
    ∙ ap (λ (t : Bool). cond (may_end (last_part [] (p ++ s)) && not (last_is 46 (p ++ s)) && not t) None (Some (length (p ++ s)))) (front.other s)
    ∙ ap (λ (t : Bool). cond t None (Some (length (p ++ s)))) (and_true (may_end (last_part [] (p ++ s)) && not (last_is 46 (p ++ s))))
    ∙ ap (λ (c : List ℕ). cond (may_end c && not (last_is 46 (p ++ s))) None (Some (length (p ++ s)))) (front.last s)
    ∙ ap (λ (t : Bool). cond (may_end (last_part [] s) && not t) None (Some (length (p ++ s)))) (front.dot s)
    ∙ ap (λ (n : ℕ). cond (may_end (last_part [] s) && not (last_is 46 s)) None (Some n)) len

pub joined_place : (p s : List ℕ) → IsFront p → bytes_eq s (64 ∷ []) ≡ false → full_name_trouble (p ++ s) ≡ option_map (λ n. length p + n) (name_trouble false s)
joined_place p s front plain = under_refs (p ++ s) (front.under s) ∙ by_scan (ltb (scan false [] s) (length s)) refl
  where
    moved : (t : Bool) (n m : ℕ) → cond t None (Some (n + m)) ≡ option_map (λ k. n + k) (cond t None (Some m))
    moved true n m = refl
    moved false n m = refl

    by_scan : (t : Bool) → ltb (scan false [] s) (length s) ≡ t → name_trouble false (p ++ s) ≡ option_map (λ n. length p + n) (name_trouble false s)
    by_scan true short =
        let less = ltb-true _ _ short in
        stuck false (p ++ s) (omega (arith, less, front.scans s, length-append p s))
        ∙ ap Some (front.scans s)
        ∙ sym (ap (option_map (λ n. length p + n)) (stuck false s less))
    by_scan false all =
        let same : scan false [] s ≡ length s = omega (arith, ltb-false (scan false [] s) (length s) all, scan-le false [] s) in
        all_scanned p s front same
        ∙ moved (may_end (last_part [] s) && not (last_is 46 s)) (length p) (length s)
        ∙ sym (ap (option_map (λ n. length p + n))
        (whole false s same
        ∙ ap (λ (t : Bool). cond (may_end (last_part [] s) && not (last_is 46 s) && not t) None (Some (length s))) plain
        ∙ ap (λ (t : Bool). cond t None (Some (length s))) (and_true (may_end (last_part [] s) && not (last_is 46 s)))))

pub joined_at : (p s : List ℕ) → IsFront p → bytes_eq s (64 ∷ []) ≡ true → full_name_trouble (p ++ s) ≡ None
unfolding lock
joined_at p s front is =
    let at : s ≡ 64 ∷ [] = (bytes_eq-Decides s (64 ∷ [])).0 is in
    ap (λ (x : List ℕ). full_name_trouble (p ++ x)) at ∙ under_refs (p ++ 64 ∷ []) (front.under (64 ∷ [])) ∙ all_scanned p (64 ∷ []) front refl

fronts : (c : Category) → is_pseudo c ≡ false → IsFront (prefix_of c)
fronts Tag is = tags_front
fronts LocalBranch is = heads_front
fronts RemoteBranch is = remotes_front
fronts Note is = notes_front
fronts PseudoRef is = absurd cc

alone : (c : Category) → is_pseudo c ≡ true → prefix_of c ≡ []
alone Tag is = absurd cc
alone LocalBranch is = absurd cc
alone RemoteBranch is = absurd cc
alone Note is = absurd cc
alone PseudoRef is = refl

pub behind_nothing : (c : Category) (s : List ℕ) → is_pseudo c ≡ true → full_name_trouble s ≡ full_name_trouble (prefix_of c ++ s)
behind_nothing c s is = ap (λ (p : List ℕ). full_name_trouble (p ++ s)) (sym (alone c is))

pub at_behind : (c : Category) (s : List ℕ) → is_pseudo c ≡ false → bytes_eq s (64 ∷ []) ≡ true → None ≡ full_name_trouble (prefix_of c ++ s)
at_behind c s is at = sym (joined_at (prefix_of c) s (fronts c is) at)

pub place_behind : (c : Category) (s : List ℕ) (o : Option ℕ) → is_pseudo c ≡ false → bytes_eq s (64 ∷ []) ≡ false → name_trouble false s ≡ o → option_map (λ n. length (prefix_of c) + n) o ≡ full_name_trouble (prefix_of c ++ s)
place_behind c s o is plain trouble = sym (joined_place (prefix_of c) s (fronts c is) plain ∙ ap (option_map (λ n. length (prefix_of c) + n)) trouble)
