-- What a server of version 1 says first: its references, its capabilities, and its border.
use Rattle.std.specs.Prelude.{ℕ, ◌-◌, Bool, List, [], ◌∷◌, ◌++◌, length, take, drop, Option, Some, None, ◌==◌, if◌then◌else◌, codes, fold}
use Rattle.std.specs.List.{list_all}
use Rattle.std.specs.Option.{option_map, option_and_then, option_or}
use Rattle.std.specs.Str.{bytes_eq}
use Rattle.fetch_base.specs.Scan.{split_first}
use Rattle.fetch_base.specs.Id.{bytes_of, id_in_hex}
use Rattle.fetch_base.specs.declared.id.Kind.{Kind}
use Rattle.fetch_base.specs.declared.id.Kind.TheVariants.{Sha1}
use Rattle.fetch_base.specs.declared.id.ObjectId.{ObjectId}
use Rattle.fetch_replies.specs.declared.replies.reply.ParsedReply.{ParsedReply}
use Rattle.fetch_lines.specs.declared.greetings.handshake.Capability.{Capability}
use Rattle.fetch_lines.specs.declared.greetings.handshake.Handshake.{Handshake}
use Rattle.fetch_lines.specs.declared.greetings.handshake.Version.TheVariants.{V1}
use Rattle.fetch_replies.specs.declared.replies.parser.Advertised.{Advertised}
use Rattle.fetch_replies.specs.declared.replies.parser.Advertised.TheVariants as next
use Rattle.fetch_replies.specs.declared.replies.parser.ReplyParser.{ReplyParser}
use Rattle.fetch_replies.specs.declared.replies.parser.ReplyParser.TheVariants as reading
use Rattle.fetch_lines.specs.declared.listings.reference.Ref.{Ref}
use Rattle.fetch_lines.specs.declared.listings.reference.Ref.TheVariants.{Direct, Symbolic, Peeled, Unborn}
use Rattle.fetch_lines.specs.Greetings.{if_known, capability_in, hash_after}
use Rattle.fetch_replies.specs.Listings.{is_listed, ref_with}
use Rattle.fetch_lines.specs.References.{name_in}
use Rattle.fetch_replies.specs.FetchReplies.{shallow_in}
use Rattle.fetch_replies.specs.Stepping.{Step, goes, or_breaks}
use Rattle.fetch_lines.specs.Words.{words}

-- whether a text names version 1
unfoldable pub is_version_1 : List ℕ → Bool
is_version_1 text = bytes_eq text (codes "version 1")

-- one capability more: an empty word is none
abbrev pub with_word : List Capability → List ℕ → Option (List Capability)
with_word found [] = Some found
with_word found (c ∷ cs) = option_map (λ capability. found ++ capability ∷ []) (option_and_then if_known (capability_in (c ∷ cs)))

-- the capabilities of words, after those before them
abbrev pub with_words : List Capability → List (List ℕ) → Option (List Capability)
with_words found [] = Some found
with_words found (word ∷ others) = option_and_then (λ more. with_words more others) (with_word found word)

-- what these capabilities make
abbrev pub handshake_1 : List Capability → Handshake
handshake_1 capabilities = record { version = V1; capabilities = capabilities; object_hash = fold hash_after Sha1 capabilities }

-- whether a capability makes a name symbolic
unfoldable pub is_symref : Capability → Bool
is_symref capability = bytes_eq capability.name (codes "symref")

-- a target, which isn't empty
abbrev pub if_text : List ℕ → Option (List ℕ)
if_text [] = None
if_text (c ∷ cs) = Some (c ∷ cs)

-- the target of the two names that a colon divides, where the first is this one
abbrev pub target_if : List ℕ → List ℕ × List ℕ → Option (List ℕ)
target_if name names = if bytes_eq names.0 name then if_text names.1 else None

-- `symref=<name>:<target>` makes the name symbolic
unfoldable pub target_in : List ℕ → Capability → Option (List ℕ)
target_in name capability =
    if is_symref capability then option_and_then (target_if name) (option_and_then (split_first 58) capability.value) else None

-- the last target that capabilities tell of a name
abbrev pub target_among : List ℕ → List Capability → Option (List ℕ)
target_among name [] = None
target_among name (c ∷ cs) = option_or (target_among name cs) (target_in name c)

-- an id and a name, which a space divides
abbrev pub id_and_name : Kind → List ℕ → Option (ObjectId × List ℕ)
id_and_name kind text = option_and_then (λ parts. option_map (λ id. (id, parts.1)) (id_in_hex kind parts.0)) (split_first 32 text)

-- the name before `^{}`
unfoldable pub before_peel : List ℕ → Option (List ℕ)
before_peel name = if bytes_eq (drop (length name - 3) name) (codes "^{}") then Some (take (length name - 3) name) else None

-- whether a name is the one that stands for no reference
unfoldable pub is_no_name : List ℕ → Bool
is_no_name name = bytes_eq name (codes "capabilities^{}")

-- whether an id is the null id
unfoldable pub is_null : ObjectId → Bool
is_null id = list_all (λ b. b == 0) (bytes_of id)

-- a reference with this name, which isn't empty and wasn't listed before
abbrev pub advertised : Handshake → List Ref → ObjectId → List ℕ → Option Ref
advertised handshake before id [] = None
advertised handshake before id (c ∷ cs) =
    option_and_then (λ r. if is_listed before r then None else Some r)
    (ref_with (c ∷ cs) (Some id) (target_among (c ∷ cs) handshake.capabilities, None))

-- a reference whose id is that of a tag, which peels to this id
abbrev pub peeled_to : ObjectId → Ref → Ref
peeled_to id (Direct name object) = Peeled name object id
peeled_to id (Symbolic name target tag object) = Symbolic name target (Some object) id
peeled_to id (Peeled name tag object) = Peeled name tag object
peeled_to id (Unborn name target) = Unborn name target

-- the last reference has this name, and its tag peels to this id
abbrev pub with_peel : ObjectId → List ℕ → List Ref → Option (List Ref)
with_peel id name [] = None
with_peel id name (r ∷ []) = if bytes_eq (name_in r) name then Some (peeled_to id r ∷ []) else None
with_peel id name (r ∷ s ∷ others) = option_map (λ more. r ∷ more) (with_peel id name (s ∷ others))

-- a line `<id> <name>`, or `<id> <name>^{}` after the line of that name
abbrev pub at_name : Handshake → List Ref → Advertised → ObjectId → List ℕ → Option (List ℕ) → Option ReplyParser
at_name handshake before next.Reference id name None =
    option_map (λ r. reading.Advertisement handshake (before ++ r ∷ []) next.Reference) (advertised handshake before id name)
at_name handshake before next.Reference id name (Some short) =
    option_map (λ refs. reading.Advertisement handshake refs next.Peeled) (with_peel id short before)
at_name handshake before next.Peeled id name None =
    option_map (λ r. reading.Advertisement handshake (before ++ r ∷ []) next.Reference) (advertised handshake before id name)
at_name handshake before next.Peeled id name (Some short) = None
at_name handshake before next.Shallow id name short = None

-- the reading after the text of a reference
abbrev pub at_reference : Handshake → List Ref → Advertised → List ℕ → Option ReplyParser
at_reference handshake before allowed text =
    option_and_then (λ x. at_name handshake before allowed x.0 x.1 (before_peel x.1)) (id_and_name handshake.object_hash text)

-- `shallow <id>`, or a reference
abbrev pub at_advertised : Handshake → List Ref → Advertised → List ℕ → Step ReplyParser ParsedReply
at_advertised handshake before allowed text =
    or_breaks (option_or (option_map (λ id. reading.Advertisement handshake before next.Shallow) (shallow_in handshake.object_hash text))
    (at_reference handshake before allowed text)) (λ s. goes s)

-- The first reference. The null id of `capabilities^{}` stands where there is none.
abbrev pub first_named : Handshake → ObjectId × List ℕ → Option ReplyParser
first_named handshake (id, name) =
    if is_no_name name then (if is_null id then Some (reading.Advertisement handshake [] next.Shallow) else None)
    else at_name handshake [] next.Peeled id name (before_peel name)

-- `<id> <name>`, NUL, and the capabilities, which spaces divide
abbrev pub at_first : List ℕ → Option ReplyParser
at_first text =
    option_and_then (λ parts. option_and_then
    (λ capabilities. option_and_then (first_named (handshake_1 capabilities))
    (id_and_name (handshake_1 capabilities).object_hash parts.0)) (with_words [] (words parts.1))) (split_first 0 text)
