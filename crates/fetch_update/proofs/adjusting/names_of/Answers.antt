use Rattle.std.proofs.Common.{ap, ◌∙◌, List, ℕ}
use Rattle.std.specs.BTreeSet.{BTreeSet, contains}
use Rattle.fetch_refs.specs.Names.{name_cmp}
use Rattle.fetch_update.proofs.Lists.{named_none, named_some}
use Rattle.fetch_update.proofs.adjusting.names_of.Goals as goal
use Rattle.fetch_update.proofs.adjusting.names_of.Goals.{in-Some+in_ok-try_clone+in_ok-insert, in_default}

pub verdicts-preserved : goal.verdicts-preserved
verdicts-preserved c = λ name.
    elim c.match-verdict.branch [
      | in-Some+in_ok-try_clone+in_ok-insert w ↦
          ap (λ (s : BTreeSet (List ℕ)). contains name_cmp s name) w.names-is
          ∙ named_some name w.in_ok-try_clone.field-0 c.args.verdicts.now c.verdicts.verdict-index c.verdicts-item.result w.in-Some.edit (contains name_cmp c.verdicts.names name) (contains name_cmp w.insert.new.self name)
          c.verdicts-test.true c.verdicts-item.is w.in-Some.is w.in_ok-try_clone.ensures (c.verdicts.invariant name) (w.in_ok-insert.ensures.updates.0 name)
      | in_default w ↦
          ap (λ (s : BTreeSet (List ℕ)). contains name_cmp s name) w.names-is ∙ c.verdicts.invariant name
          ∙ named_none name c.args.verdicts.now c.verdicts.verdict-index c.verdicts-item.result c.verdicts-test.true c.verdicts-item.is w.in_default.is
    ]
