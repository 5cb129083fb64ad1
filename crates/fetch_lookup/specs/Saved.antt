-- What a configuration is after a remote was saved into it.
use Rattle.std.specs.Prelude.{◌≡◌, ℕ, ◌==◌, Bool, true, false, not, ◌&&◌, ◌||◌, if◌then◌else◌, List, [], ◌∷◌, ◌++◌, codes, length, map}
use Rattle.std.specs.Prelude.{filter, position, slice_get, suc, option_to_list, option_map, Option, Some, None, Result, Ok, Err}
use Rattle.std.specs.List.{list_any, list_all, flat_map, filter_map}
use Rattle.std.specs.Option.{option_or}
use Rattle.fetch_specs.specs.Parses.{printed}
use Rattle.fetch_specs.specs.Specs.{Spec}
use Rattle.fetch_specs.specs.declared.tags.Tags.{Tags}
use Rattle.fetch_specs.specs.declared.tags.Tags.TheVariants as choices
use Rattle.fetch_config.specs.Contents.{Contents, with_sections, on_section}
use Rattle.fetch_config.specs.Kept.{is_nul, is_nul_or_feed}
use Rattle.fetch_config.specs.Lookups.{is_same_sub, values_at, explicit}
use Rattle.fetch_config.specs.Pieces.{is_same_name}
use Rattle.fetch_config.specs.Print.{is_same_origin}
use Rattle.fetch_config.specs.declared.meta.Meta.{Meta}
use Rattle.fetch_config.specs.declared.section.Section.{Section}
use Rattle.fetch_lookup.specs.declared.direction.Direction.{Direction}
use Rattle.fetch_lookup.specs.declared.direction.Direction.TheVariants.{Push, Fetch}
use Rattle.fetch_lookup.specs.declared.name.Error.TheVariants as name_errors
use Rattle.fetch_lookup.specs.declared.name.Name.{Name}
use Rattle.fetch_lookup.specs.declared.name.Name.TheVariants.{Symbol, Url}
use Rattle.fetch_lookup.specs.declared.remote.RemoteParts.{RemoteParts}
use Rattle.fetch_lookup.specs.declared.save.AsError.{AsError}
use Rattle.fetch_lookup.specs.declared.save.AsError.TheVariants as as_errors
use Rattle.fetch_lookup.specs.declared.save.Error.{Error}
use Rattle.fetch_lookup.specs.declared.save.Error.TheVariants.{NameMissing, Value, NoMemory}
use Rattle.fetch_lookup.specs.Names.{is_place, name_refusal, remote, text_of}
use Rattle.fetch_lookup.specs.Remotes.{spec_key}
use Rattle.fetch_lookup.specs.Results.{and_then}
use Rattle.fetch_specs.specs.declared.error.SpecError.{SpecError}

-- the key of the addresses
unfoldable pub address_key : Direction → List ℕ
address_key Fetch = codes "url"
address_key Push = codes "pushurl"

-- the key of the choice of tags
unfoldable pub tag_key : List ℕ
tag_key = codes "tagOpt"

-- whether a key is one that saving writes
abbrev pub is_saved_key : List ℕ → Bool
is_saved_key key =
    is_same_name key (address_key Fetch) || is_same_name key (address_key Push) || is_same_name key tag_key
    || is_same_name key (spec_key Fetch) || is_same_name key (spec_key Push)

-- a section `remote "<name>"`, trusted or not
abbrev pub is_of_remote : List ℕ → Section → Bool
is_of_remote name s = is_same_name s.name remote && is_same_sub s.sub (Some name)

-- a section without the keys that saving writes
unfoldable pub cleaned_section : Section → Section
cleaned_section s = record s { entries = filter (λ e. not (is_saved_key e.0)) s.entries }

-- a section that has entries, and none but those
abbrev pub is_emptied : Section → Bool
is_emptied s = not (length s.entries == 0) && list_all (λ e. is_saved_key e.0) s.entries

-- The keys go from the sections of the remote, and sections that this empties go too.
unfoldable pub cleaned_at : List ℕ → Section → List Section
cleaned_at name s = if not (is_of_remote name s) then s ∷ [] else if is_emptied s then [] else cleaned_section s ∷ []

-- sections without the keys of a remote
abbrev pub cleaned : List ℕ → List Section → List Section
cleaned name sections = flat_map (cleaned_at name) sections

-- all four parts are the same
abbrev pub is_same_meta : Meta → Meta → Bool
is_same_meta a b = is_same_origin a.source b.source && a.level == b.level && is_same_sub a.path b.path
    && (if a.trusted then b.trusted else not b.trusted)

-- whether a text is empty
abbrev pub is_empty : List ℕ → Bool
is_empty text = length text == 0

-- whether an address stands under a key, or, if not any one is meant, an empty one
unfoldable pub has_cleared : List ℕ → Bool → List (List ℕ × Option (List ℕ)) → Bool
has_cleared key any entries = list_any (λ address. any || is_empty address) (explicit (flat_map (values_at key) entries))

-- whether a section of the remote that comes from elsewhere has an address, or one of the file itself an empty address
abbrev pub clears_at : Meta → List ℕ → Direction → Section → Bool
clears_at meta name direction s = is_of_remote name s && has_cleared (address_key direction) (not (is_same_meta s.meta meta)) s.entries

-- Such addresses, or those of other files that the empty one cleared, are to be cleared again.
unfoldable pub clears : Contents → List ℕ → Direction → Bool
clears file name direction = list_any (clears_at file.meta name direction) file.sections

-- a key, and its value
abbrev pub KeyLine : Type 0
KeyLine = List ℕ × List ℕ

-- The addresses, after an empty one where that is asked.
abbrev pub address_lines : Bool → Direction → List (List ℕ) → List KeyLine
address_lines clears direction urls = map (λ url. (address_key direction, url)) (if clears then [] ∷ urls else urls)

-- how a choice of tags is written
abbrev pub tag_word : Tags → Option (List ℕ)
tag_word choices.All = Some (codes "--tags")
tag_word choices.Included = None
tag_word choices.None = Some (codes "--no-tags")

-- the line of a choice of tags, or none
unfoldable pub tag_lines : Tags → List KeyLine
tag_lines tags = option_to_list (option_map (λ word. (tag_key, word)) (tag_word tags))

-- a line for each refspec
abbrev pub spec_lines : Direction → List Spec → List KeyLine
spec_lines direction specs = map (λ s. (spec_key direction, printed s)) specs

-- what is written: addresses, the choice of tags, refspecs
unfoldable pub lines_of : Bool → Bool → RemoteParts → List KeyLine
lines_of clears_urls clears_push_urls parts =
    address_lines clears_urls Fetch parts.urls ++ (address_lines clears_push_urls Push parts.push_urls
    ++ (tag_lines parts.fetch_tags ++ (spec_lines Fetch parts.fetch_specs ++ spec_lines Push parts.push_specs)))

-- the lines that a remote is saved by
abbrev pub saved_lines : Contents → List ℕ → RemoteParts → List KeyLine
saved_lines file name parts = lines_of (clears file name Fetch) (clears file name Push) parts

-- a section with these lines at its end
abbrev pub with_lines : List KeyLine → Section → Section
with_lines lines s = record s { entries = s.entries ++ map (λ l. (l.0, Some l.1)) lines }

-- one place further, where there is one before, or the first here
abbrev pub further : Option ℕ → Bool → Option ℕ
further (Some i) here = Some (suc i)
further None true = Some 0
further None false = None

-- the place of the last element that passes
unfoldable pub last_place : {A : Type 0} → (A → Bool) → List A → Option ℕ
last_place p [] = None
last_place p (x ∷ xs) = further (last_place p xs) (p x)

-- whether a section is the file's own, and the remote's
abbrev pub is_own : Meta → List ℕ → Section → Bool
is_own meta name s = is_of_remote name s && is_same_meta s.meta meta

-- the last section of the file itself, unless a new one is asked
abbrev pub used_or_new : Bool → Meta → List ℕ → List Section → Option ℕ
used_or_new is_new meta name sections = if is_new then None else last_place (is_own meta name) sections

-- The last section of the file itself is used, unless addresses are to be cleared.
abbrev pub used_place : Contents → List ℕ → Option ℕ
used_place file name = used_or_new (clears file name Fetch || clears file name Push) file.meta name (cleaned name file.sections)

-- a section `remote "<name>"` without entries
abbrev pub new_section : Meta → List ℕ → Section
new_section meta name = record { name = remote; sub = Some name; meta = meta; entries = [] }

-- the lines at the end of the section that is used, or in a new one at the end
abbrev pub placed_in : Option ℕ → Section → List KeyLine → List Section → List Section
placed_in None new lines sections = sections ++ with_lines lines new ∷ []
placed_in (Some i) new lines sections = on_section i (with_lines lines) sections

-- The keys of the remote go, and what it is now is written into one section.
unfoldable pub saved : Contents → List ℕ → RemoteParts → Contents
saved file name parts =
    with_sections file (placed_in (used_place file name) (new_section file.meta name) (saved_lines file name parts)
    (cleaned name file.sections))

-- The lines at the end of this section are the lines in the place that is used.
abbrev pub IsUsedAt : Contents → List ℕ → Option ℕ → ℕ → Contents → Type 0
IsUsedAt file name used index new = (lines : List KeyLine) → with_sections new (on_section index (with_lines lines) new.sections)
    ≡ with_sections file (placed_in used (new_section file.meta name) lines file.sections)

-- out of memory
abbrev pub is_memory : Error → Bool
is_memory NoMemory = true
is_memory _ = false

-- where the first NUL of a line's value stands
abbrev pub nul_at : KeyLine → Option ℕ
nul_at line = position is_nul line.1

-- where the first NUL stands in the first of the texts that has one
abbrev pub nul_in : List (List ℕ) → Option ℕ
nul_in texts = slice_get (filter_map (position is_nul) texts) 0

-- the values that a remote is written by
abbrev pub values_of_parts : RemoteParts → List (List ℕ)
values_of_parts parts = parts.urls ++ (parts.push_urls ++ (map printed parts.fetch_specs ++ map printed parts.push_specs))

-- where the byte stands that can't be kept: a NUL or a line feed in the name, or else a NUL in the first value that has one
unfoldable pub unkept_place : List ℕ → RemoteParts → Option ℕ
unkept_place name parts = option_or (position is_nul_or_feed name) (nul_in (values_of_parts parts))

-- a refusal, where a text can't be kept
abbrev pub at_place : Option ℕ → Result (Unit {0}) Error
at_place None = Ok tt
at_place (Some place) = Err (Value place)

-- the first of them, or the empty text
abbrev pub first_or_empty : List (List ℕ) → List ℕ
first_or_empty [] = []
first_or_empty (url ∷ urls) = url

-- A remote without a name isn't saved, nor one that a configuration can't keep.
abbrev pub save_verdict : Option Name → RemoteParts → Result (Unit {0}) Error
save_verdict None parts = Err (NameMissing (first_or_empty parts.urls))
save_verdict (Some name) parts = at_place (unkept_place (text_of name) parts)

-- a valid name: a place, or else a symbol
abbrev pub valid_name : List ℕ → Name
valid_name text = if is_place text then Url text else Symbol text

-- out of memory
abbrev pub is_as_memory : AsError → Bool
is_as_memory as_errors.NoMemory = true
is_as_memory _ = false

-- a name, or why it isn't valid
abbrev pub name_or : List ℕ → Option SpecError → Result Name AsError
name_or name None = Ok (valid_name name)
name_or name (Some source) = Err (as_errors.Name (name_errors.Invalid source name))

-- the name, or why it isn't valid
abbrev pub name_verdict : List ℕ → Result Name AsError
name_verdict name = name_or name (name_refusal name)

-- a refusal of the saving, where a text can't be kept
abbrev pub save_place : Option ℕ → Result (Unit {0}) AsError
save_place None = Ok tt
save_place (Some place) = Err (as_errors.Save (Value place))

-- A name that isn't valid is told, and then what a configuration can't keep.
abbrev pub save_as_verdict : List ℕ → RemoteParts → Result (Unit {0}) AsError
save_as_verdict name parts = and_then (name_verdict name) (λ _. save_place (unkept_place name parts))

-- a remote with another name
abbrev pub renamed : Name → RemoteParts → RemoteParts
renamed name parts = record parts { name = Some name }
