-- The words of requests.
use Rattle.std.specs.Prelude.{ℕ, List, codes}

-- the command of a fetch request
unfoldable pub command_word : List ℕ
command_word = codes "command=fetch"

-- the capability that asks for an agent
unfoldable pub agent_word : List ℕ
agent_word = codes "agent"

-- what stands before an agent
unfoldable pub agent_is : List ℕ
agent_is = codes "agent="

-- the capability that names the hash
unfoldable pub format_word : List ℕ
format_word = codes "object-format"

-- what stands before the hash
unfoldable pub format_is : List ℕ
format_is = codes "object-format="

-- the word for a plain pack
unfoldable pub plain_pack : List ℕ
plain_pack = codes "plain-pack"

-- the same, in its second version
unfoldable pub plain_pack_2 : List ℕ
plain_pack_2 = codes "plain-pack-2"

-- the word for tags that come along
unfoldable pub include_tag : List ℕ
include_tag = codes "include-tag"

-- what stands before a commit of the border
unfoldable pub shallow_word : List ℕ
shallow_word = codes "shallow "

-- what stands before a depth
unfoldable pub deepen_word : List ℕ
deepen_word = codes "deepen "

-- the word for a depth that is counted from the border
unfoldable pub relative_word : List ℕ
relative_word = codes "deepen-relative"

-- what stands before a time
unfoldable pub since_word : List ℕ
since_word = codes "deepen-since "

-- what stands before a reference that is left out
unfoldable pub not_word : List ℕ
not_word = codes "deepen-not "

-- what stands before an id that is wanted
unfoldable pub want_word : List ℕ
want_word = codes "want "

-- what stands before an id that is there
unfoldable pub have_word : List ℕ
have_word = codes "have "

-- the word that ends the rounds
unfoldable pub done_word : List ℕ
done_word = codes "done"
