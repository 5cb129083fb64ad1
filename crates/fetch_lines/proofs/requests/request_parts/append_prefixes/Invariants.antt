use Rattle.std.proofs.Common.{◌≡◌, ◌++◌, take, map}
use Rattle.fetch_lines.specs.Requests.{prefix_text}
use Rattle.fetch_lines.proofs.requests.request_parts.append_prefixes.Given as goal

abbrev pub invariant-loop-prefix : goal.invariant-loop-prefix
invariant-loop-prefix l = l.texts.items ≡ l.fn.texts.items ++ map prefix_text (take l.prefix-index l.prefixes)
