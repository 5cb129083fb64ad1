-- Going over the lines of references.
use Rattle.std.proofs.Common.{◌≡◌, ℕ, ◌+◌, ◌<◌, ◌≤◌, List, [], ◌∷◌, ◌++◌, length, drop, get_or, Some, None, Result, Ok, Err, Option, refl, sym, ap, ◌∙◌}
use Rattle.std.proofs.lemmas.List.{drop_all}
use Rattle.std.specs.Option.{option_map}
use Rattle.fetch_base.specs.declared.id.Kind.{Kind}
use Rattle.fetch_scene.specs.declared.references.Reference.{Reference}
use Rattle.fetch_scene.specs.SceneLines.{Placed}
use Rattle.fetch_scene.specs.SceneRefs.{new_reference, references_behind}
use Rattle.fetch_scene.proofs.EachLine.{from}

one : (hash : Kind) (before : List Reference) (p : Placed) (ps : List Placed) (r : Reference) → new_reference hash before p.line ≡ Some r → references_behind hash before (p ∷ ps) ≡ references_behind hash (before ++ r ∷ []) ps
unfolding references_behind
one hash before p ps r is = rw is refl

stopped : (hash : Kind) (before : List Reference) (p : Placed) (ps : List Placed) → new_reference hash before p.line ≡ None → references_behind hash before (p ∷ ps) ≡ Err p.place
unfolding references_behind
stopped hash before p ps is = rw is refl

goes_on : (hash : Kind) (before now : List Reference) (p : Placed) (ps : List Placed) (found : Option Reference) → new_reference hash before p.line ≡ found → Some now ≡ option_map (λ r. before ++ r ∷ []) found
    → references_behind hash before (p ∷ ps) ≡ references_behind hash now ps
goes_on hash before now p ps None is added = absurd cc
goes_on hash before now p ps (Some r) is added =
    let e : now ≡ before ++ r ∷ [] = cc in
    one hash before p ps r is ∙ ap (λ rs. references_behind hash rs ps) (sym e)

breaks_off : (hash : Kind) (before : List Reference) (p : Placed) (ps : List Placed) (found : Option Reference) → new_reference hash before p.line ≡ found → None ≡ option_map (λ r. before ++ r ∷ []) found
    → references_behind hash before (p ∷ ps) ≡ Err p.place
breaks_off hash before p ps None is added = stopped hash before p ps is
breaks_off hash before p ps (Some r) is added = absurd cc

pub goes : (hash : Kind) (before now : List Reference) (lines : List Placed) (i : ℕ) (p : Placed) (total : Result (List Reference) ℕ) → i < length lines → p ≡ get_or lines i p
    → Some now ≡ option_map (λ r. before ++ r ∷ []) (new_reference hash before p.line)
    → references_behind hash before (drop i lines) ≡ total → references_behind hash now (drop (i + 1) lines) ≡ total
goes hash before now lines i p total lt here added so_far =
    sym (goes_on hash before now p (drop (i + 1) lines) _ refl added) ∙ (rw (from lines i p lt here) at so_far)

pub stops : (hash : Kind) (before : List Reference) (lines : List Placed) (i : ℕ) (p : Placed) (total : Result (List Reference) ℕ) → i < length lines → p ≡ get_or lines i p
    → None ≡ option_map (λ r. before ++ r ∷ []) (new_reference hash before p.line)
    → references_behind hash before (drop i lines) ≡ total → total ≡ Err p.place
stops hash before lines i p total lt here added so_far =
    sym (rw (from lines i p lt here) at so_far) ∙ breaks_off hash before p (drop (i + 1) lines) _ refl added

pub ends : (hash : Kind) (before : List Reference) (lines : List Placed) (i : ℕ) (total : Result (List Reference) ℕ) → length lines ≤ i → references_behind hash before (drop i lines) ≡ total → total ≡ Ok before
unfolding references_behind
ends hash before lines i total le so_far = sym (rw (drop_all i lines le) at so_far)
