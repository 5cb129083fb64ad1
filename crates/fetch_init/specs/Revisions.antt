-- Which texts name one revision of a remote.
use Rattle.std.specs.Prelude.{◌≡◌, ℕ, Bool, true, false, not, ◌&&◌, ◌||◌, ◌==◌, if◌then◌else◌, List, Option, Some, None, is_some, is_none}
use Rattle.std.specs.Prelude.{Result, Ok, Err, codes, nat_eq}
use Rattle.std.specs.Bool.{OnFalse}
use Rattle.std.specs.List.{list_any, starts_with}
use Rattle.std.specs.Str.{bytes_eq}
use Rattle.fetch_base.specs.Id.{id_in_hex}
use Rattle.fetch_base.specs.declared.id.Kind.TheVariants as hashes
use Rattle.fetch_specs.specs.Parses.{parsed}
use Rattle.fetch_specs.specs.Specs.{Spec}
use Rattle.fetch_specs.specs.declared.error.SpecError.{SpecError}
use Rattle.fetch_specs.specs.declared.operation.Operation.TheVariants.{Fetch}
use Rattle.fetch_init.specs.declared.with_revision.Error.{Error}
use Rattle.fetch_init.specs.declared.with_revision.Error.TheVariants.{Parse, Invalid, NoMemory}

-- an id in hex digits
abbrev pub is_id : List ℕ → Bool
is_id text = is_some (id_in_hex hashes.Sha1 text) || is_some (id_in_hex hashes.Sha256 text)

-- `*`, `?`, `[`, `]` and a backslash
abbrev pub is_pattern_sign : ℕ → Bool
is_pattern_sign c = c == 42 || (c == 63 || (c == 91 || (c == 93 || c == 92)))

-- `HEAD`, an id, or a name under `refs/` that is no pattern
unfoldable pub names_one : List ℕ → Bool
names_one text = bytes_eq text (codes "HEAD")
    || (is_id text || (starts_with nat_eq text (codes "refs/") && not (list_any is_pattern_sign text)))

-- whether a side is this text
abbrev pub is_side : List ℕ → Option (List ℕ) → Bool
is_side text None = false
is_side text (Some source) = bytes_eq source text

-- the source alone, as it is
abbrev pub is_source_alone : List ℕ → Spec → Bool
is_source_alone text spec = is_none spec.destination && is_side text spec.source

-- the refspec of a revision, or why there is none
abbrev pub revision_in : List ℕ → Result Spec SpecError → Result Spec Error
revision_in text (Err e) = Err (Parse e)
revision_in text (Ok spec) = if is_source_alone text spec && names_one text then Ok spec else Err Invalid

-- what a text names: it has to be a refspec to fetch by, that is one source, and that names one thing
abbrev pub revision_of : List ℕ → Result Spec Error
revision_of text = revision_in text (parsed Fetch text)

-- out of memory
abbrev pub is_memory : Error → Bool
is_memory NoMemory = true
is_memory Invalid = false
is_memory (Parse e) = false

-- Why a revision is refused: what is said of its text. None is never refused.
abbrev pub IsRevisionRefusal : Option (List ℕ) → Error → Type 0
IsRevisionRefusal None e = ⊥
IsRevisionRefusal (Some text) e = OnFalse (is_memory e) (revision_of text ≡ Err e)
