-- Where a text leaves the grammar of its kind, in the words of the format: in front whole lines or entries, and then none that may stand
-- there.
use Rattle.std.specs.Prelude.{◌≡◌, ℕ, ◌^◌, ◌<◌, ◌≤◌, ◌⊎◌, List, [], ◌∷◌, ◌++◌, length, codes, IsTrue, false}
use Rattle.std.specs.List.{flat_map}
use Rattle.std.specs.Str.Parse.{digits_value}
use Rattle.fetch_base.specs.declared.id.Kind.{Kind}
use Rattle.fetch_base.specs.declared.object_kind.ObjectKind.{ObjectKind}
use Rattle.fetch_objects.specs.declared.grammar.Expected.{Expected}
use Rattle.fetch_objects.specs.declared.grammar.Expected.TheVariants as expect
use Rattle.fetch_base.specs.Hashing.{name_of}
use Rattle.fetch_base.specs.Scan.{is_decimal, is_offset}
use Rattle.fetch_base.specs.Lines.{IsWithout}
use Rattle.fetch_objects.specs.Objects.{first_of, may_end}
use Rattle.fetch_objects.specs.Texts.{IsHexId, line}
use Rattle.fetch_objects.specs.TreeTexts.{TreeEntry, IsEntry, entry_text}

-- `<name and email> SP <seconds> SP <offset>`
pub record Signature : Type 0 where
  pub who : List ℕ
  pub seconds : List ℕ
  pub offset : List ℕ

-- What a committer's line says: a name, seconds that fit, and an offset.
pub record IsSignature (s : Signature) : Type 0 where
  pub who : IsWithout 10 s.who
  pub decimal : IsTrue (is_decimal s.seconds)
  pub few : length s.seconds ≤ 19
  pub fits : digits_value 10 s.seconds < 2 ^ 63
  pub offset : IsTrue (is_offset s.offset)

-- a signature as it is written
abbrev pub signature_text : Signature → List ℕ
signature_text s = s.who ++ 32 ∷ (s.seconds ++ 32 ∷ s.offset)

-- a line of this word and an id
abbrev pub IsIdLine : Kind → List ℕ → List ℕ → Type 0
IsIdLine hash word piece = (id : List ℕ) × IsHexId hash id × (piece ≡ line (word ++ id))

-- a line `author`
abbrev pub IsAuthorLine : List ℕ → Type 0
IsAuthorLine piece = (author : List ℕ) × IsWithout 10 author × (piece ≡ line (codes "author " ++ author))

-- a line `committer`
abbrev pub IsCommitterLine : List ℕ → Type 0
IsCommitterLine piece = (s : Signature) × IsSignature s × (piece ≡ line (codes "committer " ++ signature_text s))

-- a line `type`
abbrev pub IsTypeLine : List ℕ → Type 0
IsTypeLine piece = (kind : ObjectKind) × (piece ≡ line (codes "type " ++ name_of kind))

-- an entry of a tree
abbrev pub IsEntryText : Kind → List ℕ → Type 0
IsEntryText hash piece = (e : TreeEntry) × IsEntry hash e × (piece ≡ entry_text e)

-- which line or entry may stand where something is expected, and what is expected after it
abbrev pub MayStand : Kind → Expected → List ℕ → Expected → Type 0
MayStand hash expect.TreeLine piece next = IsIdLine hash (codes "tree ") piece × (next ≡ expect.ParentOrAuthor)
MayStand hash expect.ParentOrAuthor piece next = (IsIdLine hash (codes "parent ") piece × (next ≡ expect.ParentOrAuthor))
    ⊎ (IsAuthorLine piece × (next ≡ expect.CommitterLine))
MayStand hash expect.CommitterLine piece next = IsCommitterLine piece × (next ≡ expect.Anything)
MayStand hash expect.TaggedLine piece next = IsIdLine hash (codes "object ") piece × (next ≡ expect.TypeLine)
MayStand hash expect.TypeLine piece next = IsTypeLine piece × (next ≡ expect.Anything)
MayStand hash expect.Entry piece next = IsEntryText hash piece × (next ≡ expect.Entry)
MayStand hash expect.Anything piece next = ⊥

-- whole lines or entries, each of which may stand after the one before
abbrev pub AreWhole : Kind → Expected → List (List ℕ) → Expected → Type 0
AreWhole hash e [] last = e ≡ last
AreWhole hash e (piece ∷ pieces) last = (next : Expected) × MayStand hash e piece next × AreWhole hash next pieces last

-- The text before the place is whole lines or entries, and what follows begins none that may stand there, nor may the text end there.
pub record BreaksAt (hash : Kind) (kind : ObjectKind) (bytes : List ℕ) (place : ℕ) : Type 0 where
  pub pieces : List (List ℕ)
  pub expected : Expected
  pub rest : List ℕ
  pub whole : AreWhole hash (first_of kind) pieces expected
  pub text : bytes ≡ flat_map (λ piece. piece) pieces ++ rest
  pub place_is : length (flat_map (λ piece. piece) pieces) ≡ place
  pub none : (piece more : List ℕ) (next : Expected) → MayStand hash expected piece next → rest ≡ piece ++ more → ⊥
  pub unended : may_end expected rest ≡ false
