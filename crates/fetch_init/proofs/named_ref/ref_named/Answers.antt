use Rattle.std.proofs.Common.{subst}
use Rattle.fetch_base.specs.Answers.{AnswersUnless}
use Rattle.fetch_init.specs.NamedRefs.{is_memory}
use Rattle.fetch_init.proofs.NamedRefs.{fall-back}
use Rattle.fetch_init.proofs.named_ref.ref_named.Goals as goal

pub returns-in_ok-taken-in-None : goal.returns-in_ok-taken-in-None
returns-in_ok-taken-in-None c =
    subst (λ e. AnswersUnless is_memory e c.only_one.result)
    (fall-back c.args.mappings.now c.args.wanted.now c.as_bytes.result.now c.in_ok-found.field-0 c.in_ok-taken-in-None.field-0.items c.as_bytes.ensures.bytes c.in-None.is c.in_ok-found.ensures c.in_ok-taken-in-None.ensures)
    c.only_one.ensures
