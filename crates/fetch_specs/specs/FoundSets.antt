-- The keys of the matches that were found.
use Rattle.std.specs.Prelude.{◌≡◌, Bool, List, ℕ}
use Rattle.std.specs.List.{list_any}
use Rattle.std.specs.Ordering.{is_eq}
use Rattle.fetch_specs.specs.declared.found.Match.{Match}
use Rattle.fetch_specs.specs.Matches.{key_cmp, key_of}

-- a set has the keys of these matches
abbrev pub HasKeys : Bool → List Match → List (List ℕ × List ℕ) → Type 0
HasKeys pairs ms keys = (q : List ℕ × List ℕ)
    → list_any (λ k. is_eq (key_cmp q k)) keys ≡ list_any (λ m. is_eq (key_cmp q (key_of pairs m))) ms

-- the matches found, and whether their destinations count
pub record FoundValue : Type 0 where
  pub pairs : Bool
  pub matches : List Match
