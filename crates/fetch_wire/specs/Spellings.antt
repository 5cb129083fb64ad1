-- What a server says, line by line, in any spelling: digits of either case, texts with their line feed or without it, and words that tell
-- nothing.
use Rattle.std.specs.Prelude.{◌≡◌, ◌⊎◌, ℕ, true, false, ⊤, List, [], ◌∷◌, ◌++◌, map, Bool, Option, Some, None, IfSome, All, codes}
use Rattle.std.specs.Prelude.{if◌then◌else◌}
use Rattle.std.specs.List.{concat}
use Rattle.std.specs.Option.{option_or}
use Rattle.fetch_base.specs.Id.{id_in_hex}
use Rattle.fetch_base.specs.Lines.{IsWithout}
use Rattle.fetch_base.specs.Scan.{after}
use Rattle.fetch_base.specs.declared.id.Kind.{Kind}
use Rattle.fetch_base.specs.declared.id.ObjectId.{ObjectId}
use Rattle.fetch_replies.specs.declared.replies.reply.ReplyContext.{ReplyContext}
use Rattle.fetch_lines.specs.declared.greetings.handshake.Handshake.{Handshake}
use Rattle.fetch_lines.specs.declared.lines.line.Line.{Line}
use Rattle.fetch_lines.specs.declared.lines.line.Line.TheVariants.{Payload, Flush, Delim}
use Rattle.fetch_lines.specs.declared.requests.records.FetchReply.{FetchReply}
use Rattle.fetch_lines.specs.declared.listings.reference.Ref.{Ref}
use Rattle.fetch_lines.specs.Bands.{Band, band_line, pieces_of, texts_of}
use Rattle.fetch_lines.specs.FetchRecords.{no_reply}
use Rattle.fetch_lines.specs.KnownIds.{has_id, each_once}
use Rattle.fetch_lines.specs.Greetings.{handshake_of}
use Rattle.fetch_replies.specs.NamesTold.{AreNamedOnce}
use Rattle.fetch_lines.specs.References.{name_in, id_in, peeled_in, target_in}
use Rattle.fetch_lines.specs.ServerLines.{capability_text, IsTellable, spaced, IsWord}
use Rattle.fetch_lines.specs.Texts.{is_error, without_lf}

-- ---- texts and ids

-- A line is this text, with a line feed after it or without one. It isn't that of a server that fails.
pub record IsText (said : List ℕ) (line : Line) : Type 0 where
  pub payload : List ℕ
  pub is : line ≡ Payload payload
  pub text : without_lf payload ≡ said
  pub no_error : is_error payload ≡ false

-- lines are these texts, one line each
abbrev pub AreTexts : List (List ℕ) → List Line → Type 0
AreTexts [] [] = ⊤
AreTexts [] (line ∷ lines) = ⊥
AreTexts (text ∷ texts) [] = ⊥
AreTexts (text ∷ texts) (line ∷ lines) = IsText text line × AreTexts texts lines

-- lines are these texts, and a flush after them
abbrev pub AreFlushed : List (List ℕ) → List Line → Type 0
AreFlushed texts lines = (front : List Line) × (lines ≡ front ++ Flush ∷ []) × AreTexts texts front

-- hex digits of either case spell the id
abbrev pub Spells : Kind → List ℕ → ObjectId → Type 0
Spells kind digits id = id_in_hex kind digits ≡ Some id

-- ---- a greeting of version 2

-- `version 2`, a line for each capability, and the flush
pub record IsGreeting (handshake : Handshake) (lines : List Line) : Type 0 where
  pub made : handshake ≡ handshake_of handshake.capabilities
  pub tellable : All IsTellable handshake.capabilities
  pub texts : AreFlushed (codes "version 2" ∷ map capability_text handshake.capabilities) lines

-- ---- a listing

-- what follows a name: a target, digits of the id that a tag peels to, or a word that tells nothing
pub data Attribute : Type 0 where
  Target : List ℕ → Attribute
  Peels : List ℕ → ObjectId → Attribute
  Other : List ℕ → Attribute

-- an attribute as it is written
abbrev pub attribute_text : Attribute → List ℕ
attribute_text (Target target) = codes "symref-target:" ++ target
attribute_text (Peels digits id) = codes "peeled:" ++ digits
attribute_text (Other word) = word

-- no space divides it, a target isn't empty, digits spell the id, and another word begins with neither of the known ones
abbrev pub IsAttribute : Kind → Attribute → Type 0
IsAttribute kind (Target target) = IsWord target
IsAttribute kind (Peels digits id) = Spells kind digits id × IsWithout 32 digits
IsAttribute kind (Other word) = IsWithout 32 word × (after (codes "symref-target:") word ≡ None) × (after (codes "peeled:") word ≡ None)

-- the last target, if there is one
abbrev pub last_target : List Attribute → Option (List ℕ)
last_target [] = None
last_target (Target target ∷ others) = option_or (last_target others) (Some target)
last_target (Peels digits id ∷ others) = last_target others
last_target (Other word ∷ others) = last_target others

-- the last id that a tag peels to, if there is one
abbrev pub last_peeled : List Attribute → Option ObjectId
last_peeled [] = None
last_peeled (Target target ∷ others) = last_peeled others
last_peeled (Peels digits id ∷ others) = option_or (last_peeled others) (Some id)
last_peeled (Other word ∷ others) = last_peeled others

-- `unborn`, or digits of the id
abbrev pub SpellsBorn : Kind → List ℕ → Option ObjectId → Type 0
SpellsBorn kind digits None = digits ≡ codes "unborn"
SpellsBorn kind digits (Some id) = Spells kind digits id

-- A text is this reference: an id or `unborn`, the name, and attributes, of which the last of each kind count. Of an unborn
-- reference nothing is told of what it peels to.
pub record IsRef (kind : Kind) (reference : Ref) (said : List ℕ) : Type 0 where
  pub digits : List ℕ
  pub attributes : List Attribute
  pub text : said ≡ digits ++ spaced (name_in reference ∷ map attribute_text attributes)
  pub id : SpellsBorn kind digits (id_in reference)
  pub name : IsWord (name_in reference)
  pub each : All (IsAttribute kind) attributes
  pub target : target_in reference ≡ last_target attributes
  pub peeled : IfSome (id_in reference) (λ _. peeled_in reference ≡ last_peeled attributes)

-- texts are these references, one text each
abbrev pub AreRefs : Kind → List Ref → List (List ℕ) → Type 0
AreRefs kind [] [] = ⊤
AreRefs kind [] (text ∷ texts) = ⊥
AreRefs kind (r ∷ refs) [] = ⊥
AreRefs kind (r ∷ refs) (text ∷ texts) = IsRef kind r text × AreRefs kind refs texts

-- a line for each reference, no name of which stands twice, and the flush
pub record IsListing (kind : Kind) (refs : List Ref) (lines : List Line) : Type 0 where
  pub said : List (List ℕ)
  pub texts : AreFlushed said lines
  pub each : AreRefs kind refs said
  pub once : AreNamedOnce refs

-- ---- the reply to a fetch request

-- digits of an id that a word stands before, or the word `NAK`
pub data Acknowledgment : Type 0 where
  Nak : Acknowledgment
  Ack : List ℕ → ObjectId → Acknowledgment

-- an acknowledgment as it is written
abbrev pub acknowledgment_text : Acknowledgment → List ℕ
acknowledgment_text Nak = codes "NAK"
acknowledgment_text (Ack digits id) = codes "ACK " ++ digits

-- the digits spell an id that is a have of the request
abbrev pub IsAcknowledgment : ReplyContext → Acknowledgment → Type 0
IsAcknowledgment asked Nak = ⊤
IsAcknowledgment asked (Ack digits id) = Spells asked.kind digits id × (has_id id asked.haves ≡ true)

-- the ids that are acknowledged, in order
abbrev pub acknowledged_by : List Acknowledgment → List ObjectId
acknowledged_by [] = []
acknowledged_by (Nak ∷ others) = acknowledged_by others
acknowledged_by (Ack digits id ∷ others) = id ∷ acknowledged_by others

-- digits of a commit that comes to the border, or leaves it
pub data Move : Type 0 where
  Comes : List ℕ → ObjectId → Move
  Leaves : List ℕ → ObjectId → Move

-- a move of the border as it is written
abbrev pub move_text : Move → List ℕ
move_text (Comes digits id) = codes "shallow " ++ digits
move_text (Leaves digits id) = codes "unshallow " ++ digits

-- The digits of a move spell its id.
abbrev pub IsMove : Kind → Move → Type 0
IsMove kind (Comes digits id) = Spells kind digits id
IsMove kind (Leaves digits id) = Spells kind digits id

-- the commits that join the border, in order
abbrev pub coming : List Move → List ObjectId
coming [] = []
coming (Comes digits id ∷ others) = id ∷ coming others
coming (Leaves digits id ∷ others) = coming others

-- the commits that leave the border, in order
abbrev pub leaving : List Move → List ObjectId
leaving [] = []
leaving (Comes digits id ∷ others) = leaving others
leaving (Leaves digits id ∷ others) = id ∷ leaving others

-- bands and a flush, where the pack is read
abbrev pub AreBands : Bool → List Band → List Line → Type 0
AreBands true bands lines = lines ≡ map band_line bands ++ Flush ∷ []
AreBands false bands lines = (lines ≡ []) × (bands ≡ [])

-- `packfile`, and where the pack is read its bands and a flush
abbrev pub IsPack : ReplyContext → List Band → List Line → Type 0
IsPack asked bands [] = ⊥
IsPack asked bands (line ∷ lines) = IsText (codes "packfile") line × AreBands asked.read_pack bands lines

-- `shallow-info`, the moves of the border, and a delimiter, all where they are told
abbrev pub AreMoves : Kind → Option (List Move) → List Line → Type 0
AreMoves kind None lines = lines ≡ []
AreMoves kind (Some moves) lines =
    (front : List Line) × (lines ≡ front ++ Delim ∷ []) × AreTexts (codes "shallow-info" ∷ map move_text moves) front
    × All (IsMove kind) moves

-- the moves that are told, if any are
abbrev pub all_moves : Option (List Move) → List Move
all_moves None = []
all_moves (Some moves) = moves

-- what a pack that isn't read tells of itself is nothing
abbrev pub pack_in : Bool → List Band → Option (List ℕ)
pack_in reads bands = if reads then Some (concat (pieces_of bands)) else None

-- The rest of a reply after these acknowledgments: the moves of the border, and the pack.
pub record IsRest (asked : ReplyContext) (acknowledged : List ObjectId) (reply : FetchReply) (lines : List Line) : Type 0 where
  pub moves : Option (List Move)
  pub bands : List Band
  pub front : List Line
  pub behind : List Line
  pub is : lines ≡ front ++ behind
  pub border : AreMoves asked.kind moves front
  pub pack : IsPack asked bands behind
  pub told : reply ≡ record {
    acknowledged = acknowledged;
    shallow = coming (all_moves moves);
    unshallow = leaving (all_moves moves);
    pack = pack_in asked.read_pack bands;
    progress = texts_of bands;
    last = true;
  }

-- `acknowledgments` with these words after it
abbrev pub AreAcknowledged : ReplyContext → List Acknowledgment → List (List ℕ) → List Line → Type 0
AreAcknowledged asked acknowledgments more lines =
    AreTexts (codes "acknowledgments" ∷ map acknowledgment_text acknowledgments ++ more) lines
    × All (IsAcknowledgment asked) acknowledgments

-- A reply to a request without `done` that ends with its acknowledgments: more haves may come.
pub record IsRound (asked : ReplyContext) (reply : FetchReply) (lines : List Line) : Type 0 where
  pub acknowledgments : List Acknowledgment
  pub front : List Line
  pub is : lines ≡ front ++ Flush ∷ []
  pub acknowledged : AreAcknowledged asked acknowledgments [] front
  pub told : reply ≡ record no_reply { acknowledged = each_once (acknowledged_by acknowledgments); last = false }

-- A reply to a request without `done` that ends the rounds by `ready`: its rest stands after a delimiter.
pub record IsReady (asked : ReplyContext) (reply : FetchReply) (lines : List Line) : Type 0 where
  pub acknowledgments : List Acknowledgment
  pub front : List Line
  pub behind : List Line
  pub is : lines ≡ front ++ Delim ∷ behind
  pub acknowledged : AreAcknowledged asked acknowledgments (codes "ready" ∷ []) front
  pub rest : IsRest asked (each_once (acknowledged_by acknowledgments)) reply behind

-- the reply to a request with `done`, where the rest stands alone, or without
abbrev pub IsReplyTo : Bool → ReplyContext → FetchReply → List Line → Type 0
IsReplyTo true asked reply lines = IsRest asked [] reply lines
IsReplyTo false asked reply lines = IsRound asked reply lines ⊎ IsReady asked reply lines

-- the reply to this request
abbrev pub IsReply : ReplyContext → FetchReply → List Line → Type 0
IsReply asked reply lines = IsReplyTo asked.done asked reply lines
