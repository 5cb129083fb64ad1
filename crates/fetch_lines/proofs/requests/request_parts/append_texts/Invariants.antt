use Rattle.std.proofs.Common.{◌≡◌, ◌++◌, take}
use Rattle.fetch_lines.specs.Requests.{sent}
use Rattle.fetch_lines.proofs.requests.request_parts.append_texts.Given as goal

abbrev pub invariant-loop-text : goal.invariant-loop-text
invariant-loop-text l = l.lines.items ≡ l.fn.lines.items ++ sent (take l.text-index l.texts)
