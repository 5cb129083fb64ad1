-- What a server says first.
use Rattle.std.specs.Prelude.{ℕ, List, [], ◌∷◌, Bool, false, Option, Some, None, is_some, ◌||◌, not, if◌then◌else◌, codes, fold}
use Rattle.std.specs.List.{list_any}
use Rattle.std.specs.Option.{option_or, option_map_or, option_and_then}
use Rattle.std.specs.Str.{bytes_eq}
use Rattle.fetch_base.specs.Scan.{split_first}
use Rattle.fetch_base.specs.declared.id.Kind.{Kind}
use Rattle.fetch_base.specs.declared.id.Kind.TheVariants.{Sha1, Sha256}
use Rattle.fetch_lines.specs.declared.greetings.handshake.Capability.{Capability}
use Rattle.fetch_lines.specs.declared.greetings.handshake.Handshake.{Handshake}
use Rattle.fetch_lines.specs.declared.greetings.handshake.Version.TheVariants.{V2}
use Rattle.fetch_lines.specs.Words.{words}

-- a capability, whose key isn't empty
abbrev pub if_key : List ℕ → Option (List ℕ) → Option Capability
if_key [] value = None
if_key (c ∷ cs) value = Some (record { name = c ∷ cs; value = value })

-- `key`, or `key=value` with the key up to the first `=`
abbrev pub key_and_value : List ℕ → Option (List ℕ × List ℕ) → Option Capability
key_and_value text None = if_key text None
key_and_value text (Some parts) = if_key parts.0 (Some parts.1)

-- the capability of a text, where its key isn't empty
unfoldable pub capability_in : List ℕ → Option Capability
capability_in text = key_and_value text (split_first 61 text)

-- the hash that a format names
unfoldable pub format_in : List ℕ → Option Kind
format_in text = if bytes_eq text (codes "sha1") then Some Sha1 else (if bytes_eq text (codes "sha256") then Some Sha256 else None)

-- whether a capability names the hash
unfoldable pub is_format : Capability → Bool
is_format capability = bytes_eq capability.name (codes "object-format")

-- the hash that an `object-format` names
abbrev pub format_of : Capability → Option Kind
format_of capability = option_and_then format_in capability.value

-- an `object-format` names a hash that is known, wherever it stands
abbrev pub is_known : Capability → Bool
is_known capability = not (is_format capability) || is_some (format_of capability)

-- a capability, unless it names a hash that is unknown
abbrev pub if_known : Capability → Option Capability
if_known capability = if is_known capability then Some capability else None

-- the last capability of this name
abbrev pub last_named : List ℕ → List Capability → Option Capability
last_named name [] = None
last_named name (c ∷ cs) = option_or (last_named name cs) (if bytes_eq c.name name then Some c else None)

-- SHA-1 where no other hash is named
abbrev pub hash_after : Kind → Capability → Kind
hash_after kind capability = if is_format capability then option_map_or (λ k. k) (format_of capability) kind else kind

-- what these capabilities make
abbrev pub handshake_of : List Capability → Handshake
handshake_of capabilities = record { version = V2; capabilities = capabilities; object_hash = fold hash_after Sha1 capabilities }

-- whether a text names version 2
unfoldable pub is_version_2 : List ℕ → Bool
is_version_2 text = bytes_eq text (codes "version 2")

-- the value of the last capability of this name, where it has one
abbrev pub value_of : List ℕ → List Capability → Option (List ℕ)
value_of name capabilities = option_and_then (λ (c : Capability). c.value) (last_named name capabilities)

-- whether a word stands among others
abbrev pub has_word_in : List ℕ → List (List ℕ) → Bool
has_word_in word others = list_any (λ w. bytes_eq w word) others

-- whether a word stands among the space-divided words of a value
abbrev pub has_word : List ℕ → Option (List ℕ) → Bool
has_word word None = false
has_word word (Some value) = has_word_in word (words value)

-- whether a capability of this name is offered
abbrev pub offers : List ℕ → List Capability → Bool
offers name capabilities = is_some (last_named name capabilities)
