use Rattle.std.proofs.Common.{List, [], ◌∷◌, ◌++◌, ap, ◌∙◌}
use Rattle.fetch_base.specs.declared.id.ObjectId.{ObjectId}
use Rattle.fetch_negotiate.specs.Reading.{read_in}
use Rattle.fetch_negotiate.proofs.Onces.{adds}
use Rattle.fetch_negotiate.proofs.Taking.{line_in_taken}
use Rattle.fetch_negotiate.proofs.frontier.take_one.Goals as goal

pub returns-clause-frontier : goal.returns-clause-frontier
returns-clause-frontier c =
    let x = c.args.frontier.now in
    let id = c.args.id.now in
    let links = c.links-links.result.now in
    line_in_taken (read_in c.args.table.now) c.args.border.now c.args.common.now.commits.items x c.insert.new.self links c.extend_from_slice.new.self.items c.push_reserved.new.self.items id
    (adds x.told c.insert.new.self id c.in_ok-insert.ensures.updates) c.links-links.ensures c.requires.read
    (c.in_ok-extend_from_slice.ensures.items ∙ ap (λ (l : List ObjectId). l ++ links) c.in_ok-reserve-2.ensures.items)
    (c.push_reserved.ensures.items ∙ ap (λ (l : List ObjectId). l ++ id ∷ []) c.in_ok-reserve.ensures.items) c.requires.frontier
