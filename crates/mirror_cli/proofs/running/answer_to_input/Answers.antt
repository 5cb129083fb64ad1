use Rattle.std.proofs.Common.{Err, ap, ◌∙◌}
use Rattle.mirror_cli.proofs.Answering.{answers_too_long}
use Rattle.mirror_cli.proofs.running.answer_to_input.Goals as goal

pub returns-in_ok-malformed-in-Err-TooLong-clause-answer : goal.returns-in_ok-malformed-in-Err-TooLong-clause-answer
returns-in_ok-malformed-in-Err-TooLong-clause-answer g c =
    answers_too_long _ _ _ _ (c.read_all.ensures.too_long (c.in-Err-TooLong.is ∙ ap Err c.in-Err-TooLong.field-0-is)) c.in_ok-malformed-in-Err-TooLong.ensures
