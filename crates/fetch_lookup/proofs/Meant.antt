-- Which name is the one that is meant.
use Rattle.std.proofs.Common.{ℕ, Bool, ◌||◌, List}
use Rattle.std.specs.Str.{bytes_eq}
use Rattle.fetch_lookup.specs.Names.{origin}

abbrev pub meant : Bool → List ℕ → Bool
meant single name = single || bytes_eq name origin
