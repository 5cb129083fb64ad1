-- What a server says, line by line, as it is written.
use Rattle.std.specs.Prelude.{◌≡◌, ◌≢◌, ℕ, true, false, List, [], ◌∷◌, ◌++◌, map, length, Option, Some, None, IfSome, All, codes}
use Rattle.std.specs.List.{flat_map}
use Rattle.hex.specs.Hex.{IsBytes, encode_lower}
use Rattle.fetch_base.specs.Id.{byte_len, bytes_of, kind_of}
use Rattle.fetch_base.specs.Lines.{IsWithout}
use Rattle.fetch_base.specs.declared.id.Kind.{Kind}
use Rattle.fetch_base.specs.declared.id.ObjectId.{ObjectId}
use Rattle.fetch_lines.specs.declared.greetings.handshake.Capability.{Capability}
use Rattle.fetch_lines.specs.declared.lines.line.Line.{Line}
use Rattle.fetch_lines.specs.declared.lines.line.Line.TheVariants.{Flush, Delim}
use Rattle.fetch_lines.specs.declared.requests.records.FetchReply.{FetchReply}
use Rattle.fetch_lines.specs.declared.listings.reference.Ref.{Ref}
use Rattle.fetch_lines.specs.Bands.{Band, Piece, pack_lines, packed}
use Rattle.fetch_lines.specs.Cutting.{in_pieces}
use Rattle.fetch_lines.specs.FetchRecords.{no_reply}
use Rattle.fetch_lines.specs.KnownIds.{each_once}
use Rattle.fetch_lines.specs.Greetings.{is_known}
use Rattle.fetch_lines.specs.References.{name_in, id_in, peeled_in, target_in}
use Rattle.fetch_lines.specs.RequestLines.{id_lines}
use Rattle.fetch_lines.specs.Requests.{sent}
use Rattle.fetch_lines.specs.Texts.{is_error}

-- ---- a greeting of version 2

-- `name`, or `name=value`
abbrev pub with_value : List ℕ → Option (List ℕ) → List ℕ
with_value name None = name
with_value name (Some value) = name ++ 61 ∷ value

-- a capability as a server writes it
abbrev pub capability_text : Capability → List ℕ
capability_text c = with_value c.name c.value

-- `version 2`, a line for each capability, and the flush
abbrev pub greeting_lines : List Capability → List Line
greeting_lines capabilities = sent (codes "version 2" ∷ map capability_text capabilities) ++ Flush ∷ []

-- A capability that a line can tell: its name isn't empty and no `=` stands in it, a hash that it names is known, and the
-- line isn't that of a server that fails.
pub record IsTellable (c : Capability) : Type 0 where
  pub named : c.name ≢ []
  pub plain : IsWithout 61 c.name
  pub known : is_known c ≡ true
  pub no_error : is_error (capability_text c ++ 10 ∷ []) ≡ false

-- ---- a listing

-- `unborn`, or an id
abbrev pub id_text : Option ObjectId → List ℕ
id_text None = codes "unborn"
id_text (Some id) = encode_lower (bytes_of id)

-- the attribute of a name that is named
abbrev pub target_words : Option (List ℕ) → List (List ℕ)
target_words None = []
target_words (Some target) = (codes "symref-target:" ++ target) ∷ []

-- the attribute of what a tag peels to
abbrev pub peeled_words : Option ObjectId → List (List ℕ)
peeled_words None = []
peeled_words (Some id) = (codes "peeled:" ++ encode_lower (bytes_of id)) ∷ []

-- words, with a space before each
abbrev pub spaced : List (List ℕ) → List ℕ
spaced words = flat_map (λ word. 32 ∷ word) words

-- an id or `unborn`, the name, and what is told of it
abbrev pub ref_text : Ref → List ℕ
ref_text r = id_text (id_in r) ++ spaced (name_in r ∷ target_words (target_in r) ++ peeled_words (peeled_in r))

-- a line for each reference, and the flush
abbrev pub listing_lines_of : List Ref → List Line
listing_lines_of refs = sent (map ref_text refs) ++ Flush ∷ []

-- an id of this kind, which has as many bytes as the hash
pub record IsIdOf (kind : Kind) (id : ObjectId) : Type 0 where
  pub same : kind_of id ≡ kind
  pub len : length (bytes_of id) ≡ byte_len kind
  pub bytes : IsBytes (bytes_of id)

-- a word isn't empty, and no space divides it
pub record IsWord (text : List ℕ) : Type 0 where
  pub some : text ≢ []
  pub whole : IsWithout 32 text

-- A reference that a line can tell: its name and its target are words, and its ids are of this kind.
pub record IsListable (kind : Kind) (r : Ref) : Type 0 where
  pub name : IsWord (name_in r)
  pub target : IfSome (target_in r) IsWord
  pub id : IfSome (id_in r) (IsIdOf kind)
  pub peeled : IfSome (peeled_in r) (IsIdOf kind)

-- ---- the reply to a fetch request

-- `ACK <id>` for each of these, or `NAK` where there is none
abbrev pub acknowledged_texts : List ObjectId → List (List ℕ)
acknowledged_texts [] = codes "NAK" ∷ []
acknowledged_texts (id ∷ ids) = id_lines (codes "ACK ") (id ∷ ids)

-- a reply after which more haves may come
abbrev pub round_lines : List ObjectId → List Line
round_lines ids = sent (codes "acknowledgments" ∷ acknowledged_texts ids) ++ Flush ∷ []

-- what that reply tells
abbrev pub in_round : List ObjectId → FetchReply
in_round ids = record no_reply { acknowledged = each_once ids; last = false }

-- the commits that come to the border, and those that leave it
pub record BorderChange : Type 0 where
  pub shallow : List ObjectId
  pub unshallow : List ObjectId

-- the change that lists of these ids are: those that come, and those that leave
abbrev pub change_of : Option (List ObjectId × List ObjectId) → Option BorderChange
change_of None = None
change_of (Some (shallow, unshallow)) = Some (record { shallow = shallow; unshallow = unshallow })

-- its ids are of this kind
pub record IsChangeOf (kind : Kind) (change : BorderChange) : Type 0 where
  pub shallow : All (IsIdOf kind) change.shallow
  pub unshallow : All (IsIdOf kind) change.unshallow

-- The border's change, where it is told, before the pack.
abbrev pub change_lines : Option BorderChange → List Line
change_lines None = []
change_lines (Some change) =
    sent (codes "shallow-info" ∷ id_lines (codes "shallow ") change.shallow ++ id_lines (codes "unshallow ") change.unshallow) ++ Delim ∷ []

-- a reply to `done`
abbrev pub last_lines : Option BorderChange → List Band → List Line
last_lines change bands = change_lines change ++ pack_lines bands

-- a reply with the moves of the border, where there are any
abbrev pub with_change : Option BorderChange → FetchReply → FetchReply
with_change None reply = reply
with_change (Some change) reply = record reply { shallow = change.shallow; unshallow = change.unshallow }

-- what that reply tells
abbrev pub at_last : Option BorderChange → List Band → FetchReply
at_last change bands = with_change change (packed bands)

-- a reply that ends the rounds by itself
abbrev pub ready_lines : List ObjectId → Option BorderChange → List Band → List Line
ready_lines ids change bands = sent (codes "acknowledgments" ∷ acknowledged_texts ids ++ codes "ready" ∷ [])
    ++ Delim ∷ last_lines change bands

-- a pack in bands of 65,515 bytes, the last of which may be shorter
abbrev pub bands_of : List ℕ → List Band
bands_of pack = map Piece (in_pieces 65515 pack)
