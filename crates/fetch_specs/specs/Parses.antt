-- Reading and printing a refspec.
use Rattle.std.specs.Prelude.{◌≡◌, ℕ, ◌+◌, ◌==◌, nat_lt, Bool, true, false, not, ◌||◌, if◌then◌else◌, List, [], ◌∷◌, ◌++◌, length, take}
use Rattle.std.specs.Prelude.{drop, count_by, position, codes, Option, Some, None, is_some, Result, Ok, Err}
use Rattle.std.specs.List.{list_any}
use Rattle.std.specs.Str.{bytes_eq}
use Rattle.fetch_base.specs.Id.{id_in_hex}
use Rattle.fetch_base.specs.declared.id.Kind.TheVariants as kinds
use Rattle.fetch_base.specs.declared.id.ObjectId.{ObjectId}
use Rattle.fetch_specs.specs.declared.operation.Operation.{Operation}
use Rattle.fetch_specs.specs.declared.operation.Operation.TheVariants.{Push, Fetch}
use Rattle.fetch_specs.specs.declared.operation.Mode.{Mode}
use Rattle.fetch_specs.specs.declared.operation.Mode.TheVariants.{Normal, Force, Exclusion}
use Rattle.fetch_specs.specs.declared.error.SpecError.{SpecError}
use Rattle.fetch_specs.specs.declared.error.SpecError.TheVariants as errors
use Rattle.fetch_specs.specs.Names.{first_is, name_trouble}
use Rattle.fetch_specs.specs.Specs.{Spec}

-- the id that 40 or 64 hex digits spell
abbrev pub either_id : Option ObjectId → Option ObjectId → Option ObjectId
either_id (Some id) other = Some id
either_id None other = other

-- the id that a text is, of either hash
unfoldable pub id_named : List ℕ → Option ObjectId
id_named text = either_id (id_in_hex kinds.Sha1 text) (id_in_hex kinds.Sha256 text)

-- the name `HEAD`
unfoldable pub head : List ℕ
head = codes "HEAD"

-- `^` alone says nothing, and to push neither does nothing at all, nor `+` alone
abbrev pub is_blank : Operation → List ℕ → Bool
is_blank Push text = bytes_eq text (94 ∷ []) || bytes_eq text [] || bytes_eq text (43 ∷ [])
is_blank Fetch text = bytes_eq text (94 ∷ [])

-- a side that is written
abbrev pub side_of : List ℕ → Option (List ℕ)
side_of [] = None
side_of (b ∷ bs) = Some (b ∷ bs)

-- what is fetched where nothing is written is `HEAD`; what `@` says is `HEAD` too
abbrev pub source_of : Operation → List ℕ → Option (List ℕ)
source_of Fetch [] = Some head
source_of Push [] = None
source_of operation (b ∷ bs) = if bytes_eq (b ∷ bs) (64 ∷ []) then Some head else Some (b ∷ bs)

-- how many stars a side has
abbrev pub stars : Option (List ℕ) → ℕ
stars None = 0
stars (Some text) = count_by (λ b. b == 42) text

-- where both sides stand, the one has a star and the other has none (neither has two)
abbrev pub is_unbalanced : Option (List ℕ) → Option (List ℕ) → Bool
is_unbalanced (Some source) (Some destination) = not (stars (Some source) == stars (Some destination))
is_unbalanced (Some source) None = false
is_unbalanced None destination = false

-- the place of a source that is neither an id nor a name
abbrev pub source_trouble : Option (List ℕ) → Option ℕ
source_trouble None = None
source_trouble (Some text) = if is_some (id_named text) then None else name_trouble true text

-- where a destination stops being a name
abbrev pub destination_trouble : Option (List ℕ) → Option ℕ
destination_trouble None = None
destination_trouble (Some text) = name_trouble true text

-- the spec, unless the source or else the destination is refused, with the place from where the side stands
abbrev pub admitted : Spec → ℕ → ℕ → Option ℕ → Option ℕ → Result Spec SpecError
admitted spec mark at (Some place) other = Err (errors.InvalidName (mark + place))
admitted spec mark at None (Some place) = Err (errors.InvalidName (at + place))
admitted spec mark at None None = Ok spec

-- two sides, their stars tested first
abbrev pub judged : Spec → ℕ → ℕ → Result Spec SpecError
judged spec mark at =
    if nat_lt 1 (stars spec.source) || nat_lt 1 (stars spec.destination) then Err errors.PatternUnsupported
    else if is_unbalanced spec.source spec.destination then Err errors.PatternUnbalanced
    else admitted spec mark at (source_trouble spec.source) (destination_trouble spec.destination)

-- the sides that are written, the source from `mark` on and the destination from `at` on
abbrev pub sides : Operation → Mode → ℕ → List ℕ → ℕ → List ℕ → Result Spec SpecError
sides operation mode mark source at destination =
    judged (record { operation = operation; mode = mode; source = source_of operation source; destination = side_of destination }) mark at

-- the sides of a text that is cut at its colon, if it has one
abbrev pub cut : Operation → Mode → ℕ → List ℕ → Option ℕ → Result Spec SpecError
cut operation mode mark body None = sides operation mode mark body (mark + length body) []
cut operation mode mark body (Some i) = sides operation mode mark (take i body) (mark + i + 1) (drop (i + 1) body)

-- the first colon divides the sides
abbrev pub divided : Operation → Mode → ℕ → List ℕ → Result Spec SpecError
divided operation mode mark body = cut operation mode mark body (position (λ b. b == 58) body)

-- an exclusion has a name alone
abbrev pub excluded : Operation → List ℕ → Result Spec SpecError
excluded operation body =
    if list_any (λ b. b == 58) body then Err errors.NegativeWithDestination
    else if is_some (id_named body) then Err errors.NegativeObjectHash
    else sides operation Exclusion 1 body (1 + length body) []

-- what a text says
unfoldable pub parsed : Operation → List ℕ → Result Spec SpecError
parsed operation text =
    if is_blank operation text then Err errors.Empty
    else if first_is 94 text then excluded operation (drop 1 text)
    else if first_is 43 text then divided operation Force 1 (drop 1 text)
    else divided operation Normal 0 text

-- the mark of a mode
abbrev pub mark_of : Mode → List ℕ
mark_of Normal = []
mark_of Force = 43 ∷ []
mark_of Exclusion = 94 ∷ []

-- the sides with the colon between, which also stands before a destination alone and where there is no side at all
abbrev pub sides_text : Option (List ℕ) → Option (List ℕ) → List ℕ
sides_text (Some source) (Some destination) = source ++ 58 ∷ destination
sides_text (Some source) None = source
sides_text None (Some destination) = 58 ∷ destination
sides_text None None = 58 ∷ []

-- the text of a spec
abbrev pub printed : Spec → List ℕ
printed spec = mark_of spec.mode ++ sides_text spec.source spec.destination

-- the text of a spec says the spec
abbrev pub IsSpec : Spec → Type 0
IsSpec spec = parsed spec.operation (printed spec) ≡ Ok spec
