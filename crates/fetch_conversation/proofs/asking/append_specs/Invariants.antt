use Rattle.std.proofs.Common.{◌≡◌, ◌++◌, take}
use Rattle.fetch_conversation.proofs.asking.append_specs.Given as goal

abbrev pub invariant-loop-spec : goal.invariant-loop-spec
invariant-loop-spec l = l.specs.items ≡ l.fn.specs.items ++ take l.spec-index l.others
