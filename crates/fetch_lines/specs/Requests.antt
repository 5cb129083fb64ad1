-- The requests of a fetch, as lists of lines.
use Rattle.std.specs.Prelude.{ℕ, List, [], ◌∷◌, ◌++◌, map, Bool, Option, Some, None, nat_eq, if◌then◌else◌, codes}
use Rattle.std.specs.List.{flat_map, starts_with}
use Rattle.fetch_base.specs.declared.id.Kind.{Kind}
use Rattle.fetch_base.specs.declared.id.Kind.TheVariants.{Sha1, Sha256}
use Rattle.fetch_lines.specs.declared.lines.line.Line.{Line}
use Rattle.fetch_lines.specs.declared.lines.line.Line.TheVariants.{Payload, Flush, Delim}
use Rattle.fetch_lines.specs.declared.greetings.handshake.Handshake.{Handshake}
use Rattle.fetch_lines.specs.Greetings.{offers, value_of, has_word}
use Rattle.fetch_lines.specs.RequestWords.{agent_word, agent_is, format_word, format_is}

-- a text line has a line feed
abbrev pub text_line : List ℕ → Line
text_line text = Payload (text ++ 10 ∷ [])

-- `name` or `name=value`, with a NUL after it
abbrev pub parameter_text : List ℕ × Option (List ℕ) → List ℕ
parameter_text (name, None) = name ++ 0 ∷ []
parameter_text (name, Some value) = name ++ 61 ∷ value ++ 0 ∷ []

-- parameters as they are sent
abbrev pub parameters_text : List (List ℕ × Option (List ℕ)) → List ℕ
parameters_text parameters = flat_map parameter_text parameters

-- The first line of a conversation names the repository and tells the version and the parameters.
unfoldable pub first_line : List ℕ → List (List ℕ × Option (List ℕ)) → Line
first_line address parameters = Payload (codes "git-upload-pack " ++ address ++ (0 ∷ 0 ∷ codes "version=2" ++ 0 ∷ [])
    ++ parameters_text parameters)

-- the agent begins with `git/`
unfoldable pub agent_text : List ℕ → List ℕ
agent_text agent = if starts_with nat_eq agent (codes "git/") then agent else codes "git/" ++ agent

-- texts as they are sent, each with a line feed
abbrev pub sent : List (List ℕ) → List Line
sent texts = map text_line texts

-- a text that stands only under a condition
abbrev pub when : Bool → List ℕ → List (List ℕ)
when condition text = if condition then text ∷ [] else []

-- Git's name of a hash
unfoldable pub kind_text : Kind → List ℕ
kind_text Sha1 = codes "sha1"
kind_text Sha256 = codes "sha256"

-- what each request tells of itself: agent and hash, where they are offered
abbrev pub head_texts : Handshake → List ℕ → List (List ℕ)
head_texts handshake agent =
    when (offers agent_word handshake.capabilities) (agent_is ++ agent_text agent)
    ++ when (offers format_word handshake.capabilities) (format_is ++ kind_text handshake.object_hash)

-- the command of a listing request
unfoldable pub listing_word : List ℕ
listing_word = codes "command=ls-refs"

-- Symbolic references and peeled ids are asked for, and unborn references where the server tells them.
unfoldable pub detail_texts : Handshake → List (List ℕ)
detail_texts handshake =
    codes "symrefs" ∷ codes "peel" ∷ when (has_word (codes "unborn") (value_of (codes "ls-refs") handshake.capabilities)) (codes "unborn")

-- the line of a prefix
unfoldable pub prefix_text : List ℕ → List ℕ
prefix_text prefix = codes "ref-prefix " ++ prefix

-- the request for the references, of these prefixes alone where there are some
abbrev pub listing_lines : Handshake → List ℕ → List (List ℕ) → List Line
listing_lines handshake agent prefixes =
    sent (listing_word ∷ head_texts handshake agent) ++ Delim ∷ [] ++ sent (detail_texts handshake ++ map prefix_text prefixes)
    ++ Flush ∷ []
