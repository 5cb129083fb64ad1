-- The refspec that brings all tags.
use Rattle.std.specs.Prelude.{ℕ, Bool, true, false, ◌&&◌, List, codes, Option, Some, None}
use Rattle.std.specs.Str.{bytes_eq}
use Rattle.fetch_specs.specs.declared.operation.Operation.{Operation}
use Rattle.fetch_specs.specs.declared.operation.Operation.TheVariants.{Push, Fetch}
use Rattle.fetch_specs.specs.declared.operation.Mode.{Mode}
use Rattle.fetch_specs.specs.declared.operation.Mode.TheVariants.{Normal, Force, Exclusion}
use Rattle.fetch_specs.specs.declared.tags.Tags.{Tags}
use Rattle.fetch_specs.specs.declared.tags.Tags.TheVariants as wanted
use Rattle.fetch_specs.specs.Specs.{Spec}

-- the pattern of all tags
unfoldable pub all_tags : List ℕ
all_tags = codes "refs/tags/*"

-- each tag goes where it stands on the other side
abbrev pub tag_spec : Spec
tag_spec = record { operation = Fetch; mode = Normal; source = Some all_tags; destination = Some all_tags }

-- the refspec that brings tags, unless none are wanted
abbrev pub tag_spec_of : Tags → Option Spec
tag_spec_of wanted.All = Some tag_spec
tag_spec_of wanted.Included = Some tag_spec
tag_spec_of wanted.None = None

-- whether a refspec is for fetching
abbrev pub is_fetch : Operation → Bool
is_fetch Push = false
is_fetch Fetch = true

-- whether a refspec has no mark
abbrev pub is_normal : Mode → Bool
is_normal Normal = true
is_normal Force = false
is_normal Exclusion = false

-- whether a side is the pattern of all tags
abbrev pub is_all_tags : Option (List ℕ) → Bool
is_all_tags None = false
is_all_tags (Some text) = bytes_eq text all_tags

-- whether a spec is the one that brings all tags
abbrev pub is_tag_spec : Spec → Bool
is_tag_spec spec = is_fetch spec.operation && is_normal spec.mode && is_all_tags spec.source && is_all_tags spec.destination
