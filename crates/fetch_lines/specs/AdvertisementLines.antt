-- What a server of version 1 says first, line by line, as it is written.
use Rattle.std.specs.Prelude.{ℕ, List, [], ◌∷◌, ◌++◌, map, Option, Some, None, codes}
use Rattle.std.specs.List.{flat_map}
use Rattle.fetch_base.specs.declared.id.ObjectId.{ObjectId}
use Rattle.fetch_lines.specs.declared.greetings.handshake.Capability.{Capability}
use Rattle.fetch_lines.specs.declared.lines.line.Line.{Line}
use Rattle.fetch_lines.specs.declared.lines.line.Line.TheVariants.{Flush}
use Rattle.fetch_lines.specs.declared.listings.reference.Ref.{Ref}
use Rattle.fetch_lines.specs.References.{name_in, id_in, peeled_in}
use Rattle.fetch_lines.specs.RequestLines.{id_lines}
use Rattle.fetch_lines.specs.Requests.{sent}
use Rattle.fetch_lines.specs.ServerLines.{id_text, capability_text, spaced}

-- words that single spaces divide
abbrev pub joined : List (List ℕ) → List ℕ
joined [] = []
joined (word ∷ others) = word ++ spaced others

-- an id, a space, and a name
abbrev pub named_text : Option ObjectId → List ℕ → List ℕ
named_text id name = id_text id ++ 32 ∷ name

-- what a tag peels to, under its name with `^{}` after it
abbrev pub peel_texts : List ℕ → Option ObjectId → List (List ℕ)
peel_texts name None = []
peel_texts name (Some id) = named_text (Some id) (name ++ codes "^{}") ∷ []

-- the texts of a reference: its own, and that of what its tag peels to
abbrev pub advertised_texts : Ref → List (List ℕ)
advertised_texts r = named_text (id_in r) (name_in r) ∷ peel_texts (name_in r) (peeled_in r)

-- The first text tells the capabilities too. Where there is no reference, a name that is none stands with the null id.
abbrev pub first_texts : ObjectId → List Capability → List Ref → List (List ℕ)
first_texts null capabilities [] = (named_text (Some null) (codes "capabilities^{}") ++ 0 ∷ joined (map capability_text capabilities)) ∷ []
first_texts null capabilities (r ∷ refs) =
    (named_text (id_in r) (name_in r) ++ 0 ∷ joined (map capability_text capabilities)) ∷ peel_texts (name_in r) (peeled_in r)
    ++ flat_map advertised_texts refs

-- `version 1`, the references, the server's border, and the flush
abbrev pub advertisement_lines : ObjectId → List Capability → List Ref → List ObjectId → List Line
advertisement_lines null capabilities refs border =
    sent (codes "version 1" ∷ first_texts null capabilities refs ++ id_lines (codes "shallow ") border) ++ Flush ∷ []
