-- What an object is, and what it says.
use Rattle.std.specs.Prelude.{ℕ, zero, suc, ◌-◌, Bool, ◌&&◌, true, false, List, [], ◌∷◌, length, Option, Some, None, IsTrue, if◌then◌else◌}
use Rattle.std.specs.List.{filter_map, slice_get}
use Rattle.std.specs.Option.{option_map_or}
use Rattle.std.specs.Str.{bytes_eq}
use Rattle.fetch_base.specs.declared.id.Kind.{Kind}
use Rattle.fetch_base.specs.declared.id.ObjectId.{ObjectId}
use Rattle.fetch_base.specs.declared.object_kind.ObjectKind.{ObjectKind}
use Rattle.fetch_base.specs.declared.object_kind.ObjectKind.TheVariants as objects
use Rattle.fetch_objects.specs.declared.grammar.Part.{Part}
use Rattle.fetch_objects.specs.declared.grammar.Part.TheVariants.{Tree, Parent, Committer, Entry, Tagged}
use Rattle.fetch_objects.specs.declared.grammar.Expected.{Expected}
use Rattle.fetch_objects.specs.declared.grammar.Expected.TheVariants as expect
use Rattle.fetch_objects.specs.Grammar.{Step, part_at}
use Rattle.fetch_base.specs.Kinds.{is_kind}

-- the parts of a text, what is expected after them, and the bytes there
pub record Reading : Type 0 where
  pub parts : List Part
  pub expected : Expected
  pub rest : List ℕ

-- with a part before those that are read
abbrev pub onto : Part → Reading → Reading
onto part r = record r { parts = part ∷ r.parts }

-- what is read in n parts at most
abbrev pub read : ℕ → Kind → Expected → List ℕ → Reading
read zero hash e bytes = record { parts = []; expected = e; rest = bytes }
read (suc n) hash e bytes =
    option_map_or (λ (s : Step). onto s.part (read n hash s.expected s.rest)) (part_at hash e bytes)
    (record { parts = []; expected = e; rest = bytes })

-- A part has one byte or more.
unfoldable pub reading : Kind → Expected → List ℕ → Reading
reading hash e bytes = read (length bytes) hash e bytes

-- what an object of this kind begins with
abbrev pub first_of : ObjectKind → Expected
first_of objects.Commit = expect.TreeLine
first_of objects.Tree = expect.Entry
first_of objects.Blob = expect.Anything
first_of objects.Tag = expect.TaggedLine

-- An object's text by its hash, its kind and its bytes.
abbrev pub reading_of : Kind → ObjectKind → List ℕ → Reading
reading_of hash kind bytes = reading hash (first_of kind) bytes

-- whether a text may end so
abbrev pub may_end : Expected → List ℕ → Bool
may_end expect.Anything rest = true
may_end expect.Entry [] = true
may_end expect.Entry (b ∷ rest) = false
may_end _ rest = false

-- whether the bytes are an object of this kind
abbrev pub is_object : Kind → ObjectKind → List ℕ → Bool
is_object hash kind bytes = let r = reading_of hash kind bytes in may_end r.expected r.rest

-- The bytes are an object of this kind.
abbrev pub IsObject : Kind → ObjectKind → List ℕ → Type 0
IsObject hash kind bytes = IsTrue (is_object hash kind bytes)

-- the start of the line or the entry that breaks the grammar, or the length where a line is missing
abbrev pub place_of : Kind → ObjectKind → List ℕ → ℕ
place_of hash kind bytes = length bytes - length (reading_of hash kind bytes).rest

-- the parent that a part names
abbrev pub parent_in : Part → Option ObjectId
parent_in (Parent id) = Some id
parent_in _ = None

-- the id that a part links to
abbrev pub link_in : Part → Option ObjectId
link_in (Tree id) = Some id
link_in (Parent id) = Some id
link_in (Entry id) = Some id
link_in (Tagged id) = Some id
link_in _ = None

-- a link that is no parent
abbrev pub other_link_in : Part → Option ObjectId
other_link_in (Parent id) = None
other_link_in part = link_in part

-- the committer's seconds that a part has
abbrev pub seconds_in : Part → Option ℕ
seconds_in (Committer seconds) = Some seconds
seconds_in _ = None

-- the ids that an object links to, in order
abbrev pub links_of : Kind → ObjectKind → List ℕ → List ObjectId
links_of hash kind bytes = filter_map link_in (reading_of hash kind bytes).parts

-- the parents that an object names, in order
abbrev pub parents_of : Kind → ObjectKind → List ℕ → List ObjectId
parents_of hash kind bytes = filter_map parent_in (reading_of hash kind bytes).parts

-- the links but a commit's parents
abbrev pub others_of : Kind → ObjectKind → List ℕ → List ObjectId
others_of hash kind bytes = filter_map other_link_in (reading_of hash kind bytes).parts

-- the committer's number
abbrev pub seconds_of : Kind → ObjectKind → List ℕ → Option ℕ
seconds_of hash kind bytes = slice_get (filter_map seconds_in (reading_of hash kind bytes).parts) 0

-- an object in a store
pub record Stored : Type 0 where
  pub hash : Kind
  pub kind : ObjectKind
  pub bytes : List ℕ

-- whether two objects have one kind and the same bytes
abbrev pub has_same_text : Stored → Stored → Bool
has_same_text a b = is_kind a.kind b.kind && bytes_eq a.bytes b.bytes

-- what a tag names
abbrev pub target_of : Stored → Option ObjectId
target_of o = if is_kind o.kind objects.Tag then slice_get (links_of o.hash o.kind o.bytes) 0 else None
