-- `git/` stands before an agent once.
use Rattle.std.proofs.Common.{◌≡◌, Bool, true, false, if◌then◌else◌, List, ℕ, ◌++◌, codes, nat_eq, refl}
use Rattle.std.specs.List.{starts_with}
use Rattle.fetch_lines.specs.Requests.{agent_text}

by_test : (agent : List ℕ) (b : Bool) → starts_with nat_eq agent (codes "git/") ≡ b → agent_text (agent_text agent) ≡ agent_text agent
unfolding agent_text
by_test agent true is = rw is is_same
  where
    is_same : (if starts_with nat_eq agent (codes "git/") then agent else codes "git/" ++ agent) ≡ agent
    is_same = rw is refl
by_test agent false is = rw is refl

pub named_once : (agent : List ℕ) → agent_text (agent_text agent) ≡ agent_text agent
named_once agent = by_test agent (starts_with nat_eq agent (codes "git/")) refl
