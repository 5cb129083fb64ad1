use Rattle.std.proofs.Common.{◌≡◌, take, map}
use Rattle.fetch_cli.specs.Opened.{edit_of}
use Rattle.fetch_cli.proofs.reporting.fetch_case.edits_of.Given as goal

abbrev pub invariant-loop-reference : goal.invariant-loop-reference
invariant-loop-reference l = l.edits.items ≡ map edit_of (take l.reference-index l.references)
