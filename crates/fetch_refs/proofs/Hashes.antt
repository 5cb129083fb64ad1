-- Whether something has an id, as the places tell it.
use Rattle.std.proofs.Common.{◌≡◌, Bool, true, false, sym, ap, ◌∙◌}
use Rattle.std.specs.Prelude.{◌&&◌}
use Rattle.std.specs.List.{list_all}
use Rattle.std.specs.FinMap as map
use Rattle.fetch_refs.specs.Hashing.{has_no_ids, is_empty, leads}
use Rattle.fetch_refs.specs.Names.{RefsValue}

-- a direct reference
pub direct : (r : RefsValue) (a : Bool) → a ≡ list_all leads (map.entries r.names) → a ≡ false → a ≡ has_no_ids r
direct r a p f = f ∙ ap (λ (x : Bool). x && is_empty (map.entries r.logs)) (sym f ∙ p)

-- the lines alone decide
pub lined : (r : RefsValue) (a b : Bool) → a ≡ list_all leads (map.entries r.names) → a ≡ true → b ≡ is_empty (map.entries r.logs) → b ≡ has_no_ids r
lined r a b p t q = q ∙ ap (λ (x : Bool). x && is_empty (map.entries r.logs)) (sym t ∙ p)
