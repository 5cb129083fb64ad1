-- What a server of version 1 says first, line by line, in any spelling.
use Rattle.std.specs.Prelude.{◌≡◌, ◌≢◌, ◌⊎◌, ℕ, true, ⊤, List, [], ◌∷◌, ◌++◌, map, Option, Some, None, All, codes}
use Rattle.fetch_base.specs.Lines.{IsWithout}
use Rattle.fetch_base.specs.declared.id.Kind.{Kind}
use Rattle.fetch_base.specs.declared.id.ObjectId.{ObjectId}
use Rattle.fetch_lines.specs.declared.greetings.handshake.Handshake.{Handshake}
use Rattle.fetch_lines.specs.declared.lines.line.Line.{Line}
use Rattle.fetch_lines.specs.declared.listings.reference.Ref.{Ref}
use Rattle.fetch_lines.specs.AdvertisementLines.{joined}
use Rattle.fetch_replies.specs.Advertisements.{handshake_1, before_peel, is_null, target_among}
use Rattle.fetch_replies.specs.NamesTold.{AreNamedOnce}
use Rattle.fetch_lines.specs.References.{name_in, id_in, peeled_in, target_in}
use Rattle.fetch_lines.specs.ServerLines.{capability_text, IsTellable}
use Rattle.fetch_wire.specs.Spellings.{AreFlushed, Spells}

-- the words that aren't empty
abbrev pub some_words : List (List ℕ) → List (List ℕ)
some_words [] = []
some_words ([] ∷ others) = some_words others
some_words ((b ∷ bytes) ∷ others) = (b ∷ bytes) ∷ some_words others

-- a text is these words, with one space or more between each two, and maybe before and after them
pub record AreWords (words : List (List ℕ)) (said : List ℕ) : Type 0 where
  pub all : List (List ℕ)
  pub text : said ≡ joined all
  pub whole : All (IsWithout 32) all
  pub some : words ≡ some_words all

-- digits of an id, a space, and a name
pub record IsNamed (kind : Kind) (id : ObjectId) (name said : List ℕ) : Type 0 where
  pub digits : List ℕ
  pub text : said ≡ digits ++ 32 ∷ name
  pub is : Spells kind digits id

-- the text of what a tag of this name peels to, where that is told
abbrev pub ArePeels : Kind → List ℕ → Option ObjectId → List (List ℕ) → Type 0
ArePeels kind name None said = said ≡ []
ArePeels kind name (Some id) [] = ⊥
ArePeels kind name (Some id) (text ∷ others) = IsNamed kind id (name ++ codes "^{}") text × (others ≡ [])

-- A text is this reference, with the one after it that tells what its tag peels to: the name isn't empty and doesn't end
-- in `^{}`, and the capabilities tell the target.
pub record IsAdvertised (handshake : Handshake) (reference : Ref) (own : List ℕ) (behind : List (List ℕ)) : Type 0 where
  pub id : ObjectId
  pub born : id_in reference ≡ Some id
  pub text : IsNamed handshake.object_hash id (name_in reference) own
  pub peel : ArePeels handshake.object_hash (name_in reference) (peeled_in reference) behind
  pub name : name_in reference ≢ []
  pub unpeeled : before_peel (name_in reference) ≡ None
  pub target : target_in reference ≡ target_among (name_in reference) handshake.capabilities

-- texts are these references, one after another
abbrev pub AreAdvertised : Handshake → List Ref → List (List ℕ) → Type 0
AreAdvertised handshake [] said = said ≡ []
AreAdvertised handshake (r ∷ refs) [] = ⊥
AreAdvertised handshake (r ∷ refs) (own ∷ said) =
    (behind : List (List ℕ)) × (others : List (List ℕ)) × (said ≡ behind ++ others) × IsAdvertised handshake r own behind
    × AreAdvertised handshake refs others

-- The first text without its capabilities, and the texts after it: the references, or a name that is none with the null id.
abbrev pub AreReferences : Handshake → List Ref → List ℕ → List (List ℕ) → Type 0
AreReferences handshake [] first others = ((id : ObjectId) × (is_null id ≡ true)
    × IsNamed handshake.object_hash id (codes "capabilities^{}") first) × (others ≡ [])
AreReferences handshake (r ∷ refs) first others = AreAdvertised handshake (r ∷ refs) (first ∷ others)

-- texts of commits of the border
abbrev pub AreShallow : Kind → List (List ℕ) → Type 0
AreShallow kind [] = ⊤
AreShallow kind (text ∷ texts) = ((digits : List ℕ) × (id : ObjectId) × (text ≡ codes "shallow " ++ digits) × Spells kind digits id)
    × AreShallow kind texts

-- `version 1`, which may be missing, the references, of which the first text tells the capabilities after a NUL, commits of
-- the border, and the flush. No name stands twice.
pub record IsAdvertisement (handshake : Handshake) (refs : List Ref) (lines : List Line) : Type 0 where
  pub made : handshake ≡ handshake_1 handshake.capabilities
  pub first : List ℕ
  pub capabilities : List ℕ
  pub others : List (List ℕ)
  pub border : List (List ℕ)
  pub lines_are : AreFlushed ((first ++ 0 ∷ capabilities) ∷ others ++ border) lines
      ⊎ AreFlushed (codes "version 1" ∷ (first ++ 0 ∷ capabilities) ∷ others ++ border) lines
  pub whole : IsWithout 0 first
  pub words : AreWords (map capability_text handshake.capabilities) capabilities
  pub tellable : All IsTellable handshake.capabilities
  pub references : AreReferences handshake refs first others
  pub shallow : AreShallow handshake.object_hash border
  pub once : AreNamedOnce refs
