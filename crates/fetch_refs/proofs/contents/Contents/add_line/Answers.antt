use Rattle.std.proofs.Common.{ap, refl}
use Rattle.fetch_refs.specs.Names.{Logs}
use Rattle.fetch_refs.specs.Contents.{names_of, list_of}
use Rattle.fetch_refs.proofs.Undoing.{line_put, line_undone, logs_same, on_failure}
use Rattle.fetch_refs.proofs.contents.Contents.add_line.Goals as goal

pub returns-in_err-push_line-clause-err : goal.returns-in_err-push_line-clause-err
returns-in_err-push_line-clause-err c =
    on_failure c.from_residual-in_err-push_line.result
    (ap (λ (m : Logs). record { hash = c.args.self.now.hash; names = names_of c.args.self.now.names.entries; logs = m; packed = list_of c.args.self.now.names.entries })
    (logs_same c.args.self.now.logs.entries c.push_line.new.logs.entries c.in_err-push_line.ensures.err))

pub returns-clause-written : goal.returns-clause-written
returns-clause-written c =
    ap (λ (m : Logs). record { hash = c.args.self.now.hash; names = names_of c.args.self.now.names.entries; logs = m; packed = list_of c.args.self.now.names.entries })
    (line_put c.args.self.now.logs.entries c.push_line.new.logs.entries c.args.name.now c.args.line c.in_ok-push_line.ensures.ok)

pub returns-clause-undo : goal.returns-clause-undo
returns-clause-undo c = record {
  shown =
      ap (λ (m : Logs). record { hash = c.args.self.now.hash; names = names_of c.args.self.now.names.entries; logs = m; packed = list_of c.args.self.now.names.entries })
      (line_undone c.args.self.now.logs.entries c.push_line.new.logs.entries c.args.name.now c.in_ok-undo_name.undo_name c.args.line c.lines-left.result.now
      c.in_ok-undo_name.ensures c.lines-left.ensures c.in_ok-push_line.ensures.ok);
  place = refl;
}
