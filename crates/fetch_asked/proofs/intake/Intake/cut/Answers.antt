use Rattle.std.proofs.Common.{ℕ, List, ap, ◌∙◌, drop}
use Rattle.std.proofs.lemmas.List.{drop-take}
use Rattle.fetch_asked.specs.Intakes.{Incoming}
use Rattle.fetch_asked.proofs.intake.Intake.cut.Goals as goal

pub returns : goal.returns
returns c =
    let start = c.self.inside.start in
    rw (← c.self.view_is)
    (ap (λ (p : List ℕ). let i : Incoming = record { hash = c.self.inside.hash; begun = c.self.inside.begun; pending = p } in i)
    (ap (drop start) c.truncate.ensures.items ∙ drop-take start c.args.len c.self.inside.bytes.items))
