use Rattle.std.proofs.Common.{arith}
use Rattle.std.proofs.lemmas.Grind.{common_steps}
use Rattle.race_cli.proofs.Outlines.{lines_are}
use Rattle.race_cli.proofs.reporting.state_lines.append_outline.Goals as goal

pub returns : goal.returns
returns c = let e = lines_are c.args.repo.now in grind (arith, common_steps)
