use Rattle.std.proofs.Common.{◌∙◌}
use Rattle.std.specs.FinMap.{insert}
use Rattle.fetch_refs.specs.Contents.{shown_in}
use Rattle.fetch_refs.specs.Names.{PackedList, RefsValue}
use Rattle.fetch_refs.specs.declared.target.Target.{Target}
use Rattle.fetch_refs.proofs.Undoing.{both_of}
use Rattle.fetch_refs.proofs.apply.update.Goals as goal

pub returns-clause-written : goal.returns-clause-written
returns-clause-written c =
    let r : RefsValue = shown_in c.args.contents.now in
    c.in_ok-write.ensures.written
    ∙ both_of (λ (v : Target) (p : PackedList). record { hash = r.hash; names = insert r.names c.args.name.now v; logs = r.logs; packed = p }) c.in_ok-value.ensures c.packed_for-packed.ensures
