-- What is saved at a path is loaded, and what is begun beside it leaves what is read there.
use Rattle.std.proofs.Common.{◌≡◌, ℕ, inl, inr, List, Option, Some, None, refl, sym, ap, subst, ◌∙◌}
use Rattle.std.specs.Prelude.{IfSome, option_map}
use Rattle.fetch_files.specs.Paths.{parts_of}
use Rattle.fetch_files.specs.Trees.{Tree, read_in}
use Rattle.fetch_check.specs.declared.error.BundleError.{BundleError}
use Rattle.fetch_check.specs.declared.reading.Bundle.{Bundle}
use Rattle.fetch_check.specs.Bundles.{Bundled, bundle_text}
use Rattle.fetch_check.specs.Keeping.{IsBegun, IsLeft, IsLoaded, IsNoBundle, IsRead, saved}
use Rattle.fetch_check.specs.Reading.{IsBundle, bundle_of}
use Rattle.fetch_check.proofs.Saved.{left, read_saved}
use Rattle.fetch_check.proofs.Unique.{one_bundle, refused_bundle}

same_tree : (t u : Tree) → ◌≡◌ {A = Option Tree} (Some u) (Some t) → u ≡ t
same_tree t u e = cc

pub begun_left : (before now : Option Tree) (path text : List ℕ) → IsBegun before now path text → IsLeft before now path
begun_left None now path text begun = tt
begun_left (Some t) None path text begun = tt
begun_left (Some t) (Some u) path text (inl same) = ap (λ (x : Tree). read_in x (parts_of path)) (same_tree t u same)
begun_left (Some t) (Some u) path text (inr written) = left t u path text written

loaded_by : (text : List ℕ) (b : Bundled) (found : Option Bundle) → IsBundle b → text ≡ bundle_text b → IfSome found IsRead → IsLoaded (Some (Some text)) found → option_map bundle_of found ≡ Some b
loaded_by text b None is same read loaded = absurd loaded
loaded_by text b (Some x) is same read loaded = ap (λ (y : Bundled). Some y) (sym (one_bundle text (bundle_of x) b read.bundle is loaded same))

pub is_loaded : (t u : Tree) (path : List ℕ) (b : Bundled) (found : Option Bundle) → IsBundle b → saved t path (bundle_text b) ≡ Some u → IfSome found IsRead → IsLoaded (read_in u (parts_of path)) found → option_map bundle_of found ≡ Some b
is_loaded t u path b found is done read loaded =
    loaded_by (bundle_text b) b found is refl read (subst (λ (o : Option (Option (List ℕ))). IsLoaded o found) (read_saved t u path (bundle_text b) done) loaded)

same_text : (a b : List ℕ) → ◌≡◌ {A = Option (Option (List ℕ))} (Some (Some a)) (Some (Some b)) → a ≡ b
same_text a b e = cc

pub not_refused : (t u : Tree) (path : List ℕ) (b : Bundled) (e : BundleError) → IsBundle b → saved t path (bundle_text b) ≡ Some u → IsNoBundle (read_in u (parts_of path)) e → ⊥
not_refused t u path b e is done none =
    refused_bundle none.text e b none.certain none.cause is (same_text none.text (bundle_text b) (sym none.there ∙ read_saved t u path (bundle_text b) done))
