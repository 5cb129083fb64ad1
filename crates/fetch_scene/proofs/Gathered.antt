-- References are told apart by their names, byte by byte.
use Rattle.std.proofs.Common.{◌≡◌, ℕ, ◌||◌, List, [], ◌∷◌, refl, sym, ap, ◌∙◌}
use Rattle.std.specs.Cmp.Lexicographic.{slice_cmp, texts_ties}
use Rattle.std.specs.Ordering.{nat_cmp}
use Rattle.std.specs.Str.{bytes_eq}
use Rattle.fetch_base.specs.Distinct.{has_key}
use Rattle.fetch_scene.specs.declared.references.Reference.{Reference}
use Rattle.fetch_scene.specs.SceneRefs.{has_name}

pub has_key_is : (before : List Reference) (name : List ℕ) → has_key (slice_cmp nat_cmp) (λ (r : Reference). r.name) before name ≡ has_name before name
has_key_is [] name = refl
has_key_is (r ∷ rs) name =
    ap (λ t. t || has_key (slice_cmp nat_cmp) (λ (x : Reference). x.name) rs name) (sym (texts_ties name r.name)) ∙ ap (λ t. bytes_eq name r.name || t) (has_key_is rs name)
