use Rattle.std.proofs.Common.{ap, sym, ◌∙◌}
use Rattle.fetch_refs.specs.Contents.{shown_in, undone, value_of, packed_of, names_of, list_of}
use Rattle.fetch_refs.specs.Names.{Names, Logs, PackedList}
use Rattle.fetch_refs.specs.Overlay.{logs_of}
use Rattle.fetch_refs.proofs.Overlays.{each-write, logs-write}
use Rattle.fetch_refs.proofs.Undoing.{both_of}
use Rattle.fetch_refs.proofs.contents.Contents.take_back.Goals as goal

pub returns-in-Target-clause-shown : goal.returns-in-Target-clause-shown
returns-in-Target-clause-shown c =
    both_of (λ (m : Names) (p : PackedList). record { hash = c.args.self.now.hash; names = m; logs = logs_of c.args.self.now.logs.entries; packed = p })
    (each-write value_of c.args.self.now.names.entries c.put.new.map.entries c.in-Target.name c.in-Target.old c.put.ensures)
    (each-write packed_of c.args.self.now.names.entries c.put.new.map.entries c.in-Target.name c.in-Target.old c.put.ensures)
    ∙ ap (λ u. undone u (shown_in c.args.self.now)) (sym c.in-Target.is)

pub returns-in-Lines-clause-shown : goal.returns-in-Lines-clause-shown
returns-in-Lines-clause-shown c =
    ap (λ (m : Logs). record { hash = c.args.self.now.hash; names = names_of c.args.self.now.names.entries; logs = m; packed = list_of c.args.self.now.names.entries })
    (logs-write c.args.self.now.logs.entries c.put-in-Lines.new.map.entries c.in-Lines.name c.in-Lines.old c.put-in-Lines.ensures)
    ∙ ap (λ u. undone u (shown_in c.args.self.now)) (sym c.in-Lines.is)
