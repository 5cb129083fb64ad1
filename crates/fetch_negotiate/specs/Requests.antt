-- The request table: what a fetch request says, line by line.
use Rattle.std.specs.Prelude.{ℕ, Bool, true, false, List, [], ◌∷◌, ◌++◌, map, decimal, Option, codes, if◌then◌else◌}
use Rattle.std.specs.FinSet as set
use Rattle.std.specs.Option.{option_map_or}
use Rattle.fetch_base.specs.declared.id.ObjectId.{ObjectId}
use Rattle.fetch_store.specs.Borders.{ids_of}
use Rattle.fetch_base.specs.Id.{id_cmp}
use Rattle.fetch_specs.specs.declared.tags.Tags.{Tags}
use Rattle.fetch_specs.specs.declared.tags.Tags.TheVariants as tags
use Rattle.fetch_lines.specs.declared.greetings.handshake.Handshake.{Handshake}
use Rattle.fetch_lines.specs.declared.lines.line.Line.{Line}
use Rattle.fetch_lines.specs.declared.lines.line.Line.TheVariants.{Flush, Delim}
use Rattle.fetch_negotiate.specs.declared.algorithm.Shallow.{Shallow}
use Rattle.fetch_negotiate.specs.declared.algorithm.Shallow.TheVariants.{NoChange, DepthAtRemote, Deepen, Since, Exclude}
use Rattle.fetch_lines.specs.Greetings.{has_word, value_of}
use Rattle.fetch_lines.specs.RequestWords.{command_word, plain_pack, plain_pack_2, include_tag, shallow_word, deepen_word, relative_word}
use Rattle.fetch_lines.specs.RequestWords.{since_word, not_word, want_word, have_word, done_word}
use Rattle.fetch_lines.specs.Requests.{head_texts, sent, when}
use Rattle.fetch_lines.specs.RequestLines.{id_lines}

-- what a fetch request is made of, but for its haves
pub record Asked : Type 0 where
  pub handshake : Handshake
  pub agent : List ℕ
  pub tags : Tags
  pub shallow : Shallow
  pub border : set.FinSet id_cmp
  pub wants : List ObjectId

-- the lines before the delimiter
abbrev pub head_of : Handshake → List ℕ → List (List ℕ)
head_of handshake agent = command_word ∷ head_texts handshake agent

-- the line of a time, where there is one
abbrev pub since_lines : Option ℕ → List (List ℕ)
since_lines cutoff = option_map_or (λ seconds. (since_word ++ decimal seconds) ∷ []) cutoff []

-- how the depth of the history is to change
abbrev pub depth_lines : Shallow → List (List ℕ)
depth_lines NoChange = []
depth_lines (DepthAtRemote depth) = (deepen_word ++ decimal depth) ∷ []
depth_lines (Deepen depth) = (deepen_word ++ decimal depth) ∷ relative_word ∷ []
depth_lines (Since cutoff) = (since_word ++ decimal cutoff) ∷ []
depth_lines (Exclude names cutoff) = since_lines cutoff ++ map (λ name. not_word ++ name) names

-- whether tags come along with the history
abbrev pub is_included : Tags → Bool
is_included tags.All = false
is_included tags.Included = true
is_included tags.None = false

-- the word that asks for a plain pack, of version 2 where the server offers that
unfoldable pub pack_word : Handshake → List ℕ
pack_word handshake = if has_word plain_pack_2 (value_of (codes "fetch") handshake.capabilities) then plain_pack_2 else plain_pack

-- the lines after that word, but for the haves
abbrev pub details_of : Tags → Shallow → set.FinSet id_cmp → List ObjectId → List (List ℕ)
details_of tags shallow border wants =
    when (is_included tags) include_tag ++ id_lines shallow_word (ids_of border) ++ depth_lines shallow ++ id_lines want_word wants

-- the lines after the delimiter, but for the haves
abbrev pub asked_of : List ℕ → Tags → Shallow → set.FinSet id_cmp → List ObjectId → List (List ℕ)
asked_of word tags shallow border wants = word ∷ details_of tags shallow border wants

-- the text lines of a fetch request
abbrev pub text_lines : Asked → List (List ℕ)
text_lines a = head_of a.handshake a.agent ++ asked_of (pack_word a.handshake) a.tags a.shallow a.border a.wants

-- a whole fetch request
unfoldable pub fetch_request : Asked → List ObjectId → Bool → List Line
fetch_request a haves done =
    sent (head_of a.handshake a.agent) ++ Delim ∷ []
    ++ sent (asked_of (pack_word a.handshake) a.tags a.shallow a.border a.wants ++ id_lines have_word haves ++ when done done_word)
    ++ Flush ∷ []
