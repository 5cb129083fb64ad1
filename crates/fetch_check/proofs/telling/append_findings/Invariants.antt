use Rattle.std.proofs.Common.{◌≡◌, ◌++◌, take}
use Rattle.std.specs.List.{flat_map}
use Rattle.fetch_check.specs.Telling.{missing_line, broken_line, unreached_line}
use Rattle.fetch_check.proofs.telling.append_findings.Given as goal

abbrev pub invariant-loop-link : goal.invariant-loop-link
invariant-loop-link l = l.out.items ≡ l.fn.out.items ++ flat_map missing_line (take l.link-index l.findings.missing)

abbrev pub invariant-loop-reference : goal.invariant-loop-reference
invariant-loop-reference l = l.out.items ≡ l.fn.out.items ++ flat_map missing_line l.findings.missing ++ flat_map broken_line (take l.reference-index l.findings.broken)

abbrev pub invariant-loop-id : goal.invariant-loop-id
invariant-loop-id l =
    l.out.items ≡ l.fn.out.items ++ flat_map missing_line l.findings.missing ++ flat_map broken_line l.findings.broken ++ flat_map unreached_line (take l.id-index l.findings.unreached)
