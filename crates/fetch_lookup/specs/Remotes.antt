-- What a configuration says of a remote.
use Rattle.std.specs.Prelude.{ℕ, ◌-◌, ◌==◌, Bool, true, false, not, ◌||◌, if◌then◌else◌, List, [], ◌∷◌, codes, length, drop, Option, Some}
use Rattle.std.specs.Prelude.{None, Result, Ok, Err}
use Rattle.std.specs.List.{list_any, suffix_len}
use Rattle.std.specs.Result.{result_map_both}
use Rattle.std.specs.Str.{bytes_eq}
use Rattle.fetch_specs.specs.Parses.{parsed}
use Rattle.fetch_specs.specs.Specs.{Spec}
use Rattle.fetch_specs.specs.declared.operation.Operation.{Operation}
use Rattle.fetch_specs.specs.declared.operation.Operation.TheVariants as operations
use Rattle.fetch_specs.specs.declared.tags.Tags.{Tags}
use Rattle.fetch_specs.specs.declared.tags.Tags.TheVariants as choices
use Rattle.fetch_config.specs.Lookups.{is_meant, values_of, explicit}
use Rattle.fetch_config.specs.declared.section.Section.{Section}
use Rattle.fetch_lookup.specs.declared.direction.Direction.{Direction}
use Rattle.fetch_lookup.specs.declared.direction.Direction.TheVariants.{Push, Fetch}
use Rattle.fetch_lookup.specs.declared.find.Error.{Error}
use Rattle.fetch_lookup.specs.declared.find.Error.TheVariants.{TagOpt, Url, RefSpec, NoMemory}
use Rattle.fetch_lookup.specs.declared.remote.RemoteParts.{RemoteParts}
use Rattle.fetch_lookup.specs.Names.{is_place, name_of, remote, string_of}
use Rattle.fetch_lookup.specs.Ordered.{ascending}
use Rattle.fetch_lookup.specs.Results.{and_then, all_of}
use Rattle.fetch_lookup.specs.SpecOrder.{spec_cmp}

-- out of memory
abbrev pub is_memory : Error → Bool
is_memory NoMemory = true
is_memory _ = false

-- whether a trusted section `remote "<name>"` stands
abbrev pub is_remote : List Section → List ℕ → Bool
is_remote sections name = list_any (is_meant remote (Some name) true) sections

-- the values of a key of a remote, in trusted sections, but those of implicit entries
abbrev pub texts_of : List Section → List ℕ → List ℕ → List (List ℕ)
texts_of sections name key = explicit (values_of remote (Some name) key true sections)

-- The last `tagOpt` says which tags are fetched.
abbrev pub tags_said : Option (List ℕ) → Result Tags Error
tags_said None = Ok choices.Included
tags_said (Some text) =
    if bytes_eq text (codes "--tags") then Ok choices.All
    else if bytes_eq text (codes "--no-tags") then Ok choices.None
    else Err (TagOpt text)

-- what sections say of a remote's tags
unfoldable pub tags_in : List Section → List ℕ → Result Tags Error
tags_in sections name = tags_said (string_of sections remote (Some name) (codes "tagOpt") true)

-- whether a text isn't empty
abbrev pub has_bytes : List ℕ → Bool
has_bytes text = not (length text == 0)

-- An empty address clears those before it: the addresses after the last empty one.
abbrev pub uncleared : List (List ℕ) → List (List ℕ)
uncleared addresses = drop (length addresses - suffix_len has_bytes addresses) addresses

-- whether a remote's name is an address itself: it is a place, or has `:` after its first byte
abbrev pub is_address : List ℕ → Bool
is_address name = is_place name || list_any (λ b. b == 58) (drop 1 name)

-- where there is no address to fetch from, the name is one if it can be
abbrev pub or_itself : List ℕ → List (List ℕ) → List (List ℕ)
or_itself name [] = if is_address name then name ∷ [] else []
or_itself name (url ∷ urls) = url ∷ urls

-- the addresses of a remote for a direction
unfoldable pub addresses_of : List Section → List ℕ → Direction → List (List ℕ)
addresses_of sections name Fetch = or_itself name (uncleared (texts_of sections name (codes "url")))
addresses_of sections name Push = uncleared (texts_of sections name (codes "pushurl"))

-- whether a text has a line feed
abbrev pub has_feed : List ℕ → Bool
has_feed text = list_any (λ b. b == 10) text

-- No address may have a line feed.
unfoldable pub addresses_in : List Section → List ℕ → Direction → Result (List (List ℕ)) Error
addresses_in sections name direction =
    let urls = addresses_of sections name direction in
    if list_any has_feed urls then Err (Url direction name) else Ok urls

-- what refspecs of a direction are for
abbrev pub operation_of : Direction → Operation
operation_of Fetch = operations.Fetch
operation_of Push = operations.Push

-- the key of the refspecs
unfoldable pub spec_key : Direction → List ℕ
spec_key Fetch = codes "fetch"
spec_key Push = codes "push"

-- the refspecs in ascending order, each once, or why the first that doesn't parse is refused
unfoldable pub specs_in : List Section → List ℕ → Direction → Result (List Spec) Error
specs_in sections name direction =
    result_map_both (ascending spec_cmp) (RefSpec direction name)
    (all_of (parsed (operation_of direction)) (texts_of sections name (spec_key direction)))

-- What the trusted sections of a remote say: the first part that is refused refuses the whole.
unfoldable pub found_in : List Section → List ℕ → Result RemoteParts Error
found_in sections name =
    and_then (tags_in sections name) λ tags.
    and_then (addresses_in sections name Fetch) λ urls.
    and_then (addresses_in sections name Push) λ push_urls.
    and_then (specs_in sections name Fetch) λ fetch_specs.
    and_then (specs_in sections name Push) λ push_specs.
    Ok (record {
      name = name_of name;
      urls = urls;
      push_urls = push_urls;
      fetch_specs = fetch_specs;
      push_specs = push_specs;
      fetch_tags = tags;
    })
