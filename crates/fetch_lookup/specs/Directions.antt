-- Fetching or pushing.
use Rattle.std.specs.Prelude.{ℕ, List, codes}
use Rattle.fetch_lookup.specs.declared.direction.Direction.{Direction}
use Rattle.fetch_lookup.specs.declared.direction.Direction.TheVariants.{Push, Fetch}

-- the word for a direction
unfoldable pub word_of : Direction → List ℕ
word_of Push = codes "push"
word_of Fetch = codes "fetch"
