-- What a mirror asks its server for, and the names that it fetches.
use Rattle.std.specs.Prelude.{ℕ, ◌&&◌, Bool, true, List, [], ◌∷◌, ◌++◌, nat_eq, codes, Option, Some, None, is_some, if◌then◌else◌}
use Rattle.std.specs.List.{filter_map, starts_with}
use Rattle.fetch_specs.specs.Categories.{refs}
use Rattle.fetch_specs.specs.Names.{is_full_name}
use Rattle.fetch_specs.specs.Specs.{Spec}
use Rattle.fetch_specs.specs.declared.tags.Tags.TheVariants as tags
use Rattle.fetch_lines.specs.References.{id_in, name_in}
use Rattle.fetch_lines.specs.declared.listings.reference.Ref.{Ref}
use Rattle.fetch_conversation.specs.ListStage.{LsRefsValue}
use Rattle.fetch_conversation.specs.declared.ref_map.Options.{Options}
use Rattle.fetch_mirror.specs.Shares.{as_itself}

-- how references are listed: those that are asked for, without parameters
abbrev pub map_options : ℕ → Options
map_options bound = record {
  prefix_from_spec_as_filter_on_remote = true;
  handshake_parameters = [];
  extra_refspecs = [];
  max_reply_bytes = bound;
}

-- every name under `refs/`, as itself
abbrev pub everything : Spec
everything = as_itself (refs ++ codes "*")

-- what a server is asked for all its references, at its own place
abbrev pub inquiry_by : ℕ → LsRefsValue
inquiry_by bound = record {
  address = codes ".";
  agent = codes "oxide-0.87.1";
  specs = everything ∷ [];
  tags = tags.None;
  options = map_options bound;
}

-- whether it is a full name under `refs/`
abbrev pub is_own_name : List ℕ → Bool
is_own_name name = starts_with nat_eq name refs && is_full_name name

-- whether a reference has an id and such a name
abbrev pub is_own : Ref → Bool
is_own r = is_some (id_in r) && is_own_name (name_in r)

-- the name of such a one
abbrev pub own_name : Ref → Option (List ℕ)
own_name r = if is_own r then Some (name_in r) else None

-- the names that are fetched of these references, in their order
abbrev pub names_of : List Ref → List (List ℕ)
names_of listed = filter_map own_name listed
