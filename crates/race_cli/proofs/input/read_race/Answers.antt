use Rattle.std.proofs.Common.{Err, ap, ◌∙◌}
use Rattle.race_cli.proofs.Inputs.{too_long}
use Rattle.race_cli.proofs.input.read_race.Goals as goal

pub returns-in-Err-TooLong-clause-malformed : goal.returns-in-Err-TooLong-clause-malformed
returns-in-Err-TooLong-clause-malformed g c = too_long _ (c.read_all.ensures.too_long (c.in-Err-TooLong.is ∙ ap Err c.in-Err-TooLong.field-0-is))
