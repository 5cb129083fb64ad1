use Rattle.std.proofs.Common.{subst}
use Rattle.fetch_update.specs.declared.mode.Mode.{Mode}
use Rattle.fetch_base.specs.Answers.{AnswersUnless}
use Rattle.fetch_update.specs.Policy.{is_memory, if_valid, written, place_in_code, value_in_code, change_unborn}
use Rattle.fetch_update.proofs.judging.at_unborn.Goals as goal

pub returns : goal.returns
unfolding change_unborn
returns c =
    subst (λ (m : Mode). AnswersUnless is_memory (if_valid (value_in_code c.args.place.new_target) (written c.args.judge.now.message.now (place_in_code c.args.place) m change_unborn)) c.write.result) c.unborn_mode-mode.ensures c.write.ensures
