use Rattle.fetch_create.proofs.Steps.{at-once}
use Rattle.fetch_create.proofs.create.into.Goals as goal

pub returns-in_err-path-clause-refused : goal.returns-in_err-path-clause-refused
returns-in_err-path-clause-refused g c =
    at-once (g.F.Files.may_fail c.args.files.now) (g.F.Files.told c.args.files.now) c.args.directory.now c.args.kind c.args.options c.from_residual.result c.from_residual.ensures.1

pub returns-in_err-steps-clause-refused : goal.returns-in_err-steps-clause-refused
returns-in_err-steps-clause-refused g c =
    at-once (g.F.Files.may_fail c.args.files.now) (g.F.Files.told c.args.files.now) c.args.directory.now c.args.kind c.args.options c.from_residual-in_err-steps.result c.from_residual-in_err-steps.ensures.1
