-- What the lines of a reply say.
use Rattle.std.specs.Prelude.{ℕ, ◌-◌, List, length, take, slice_index_or, Bool, nat_eq, ◌==◌, if◌then◌else◌, codes}
use Rattle.std.specs.List.{starts_with}

-- a text without the line feed at its end, if it has one
unfoldable pub without_lf : List ℕ → List ℕ
without_lf text = if slice_index_or text (length text - 1) 0 == 10 then take (length text - 1) text else text

-- `ERR ` and a text stands where the server fails
unfoldable pub is_error : List ℕ → Bool
is_error payload = starts_with nat_eq payload (codes "ERR ")
