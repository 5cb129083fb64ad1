use Rattle.std.proofs.Common.{◌≡◌, ◌++◌, take, map}
use Rattle.fetch_lines.specs.RequestWords.{not_word}
use Rattle.fetch_negotiate.proofs.request.push_names.Given as goal

abbrev pub invariant-loop-name : goal.invariant-loop-name
invariant-loop-name l = l.lines.items ≡ l.fn.lines.items ++ map (λ name. not_word ++ name) (take l.name-index l.names)
