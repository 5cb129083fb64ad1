use Rattle.std.proofs.Common.{◌≡◌, ◌++◌, drop, map}
use Rattle.fetch_lookup.proofs.lines.push_texts.Given as goal

abbrev pub invariant-loop-text : goal.invariant-loop-text
invariant-loop-text l = l.lines.items ++ map (λ text. (l.key, text)) (drop l.text-index l.texts) ≡ l.fn.lines.items ++ map (λ text. (l.key, text)) l.texts
