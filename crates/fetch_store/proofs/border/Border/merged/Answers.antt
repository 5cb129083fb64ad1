use Rattle.std.proofs.Common.{◌≡◌, ◌++◌, List, filter, not, ap, ◌∙◌}
use Rattle.std.specs.FinSet as set
use Rattle.fetch_base.specs.declared.id.ObjectId.{ObjectId}
use Rattle.fetch_store.specs.Borders.{IdSet, set_of}
use Rattle.fetch_store.proofs.Borders.{kept_merged}
use Rattle.fetch_store.proofs.border.Border.merged.Goals as goal

pub returns-clause-border : goal.returns-clause-border
returns-clause-border c =
    let kept : IdSet → List ObjectId → List ObjectId = λ left ids. filter (λ q. not (set.contains left q)) ids in
    let ids = c.commits.result.now in
    let shallow = c.args.shallow.now in
    let left = c.in_ok-left.left in
    let first : c.keep.new.into.items ≡ kept left ids = c.in_ok-keep.ensures ∙ ap (λ x. x ++ kept left ids) c.new-ids.ensures.items in
    let all : c.keep-2.new.into.items ≡ kept left ids ++ kept left shallow = c.in_ok-keep-2.ensures ∙ ap (λ x. x ++ kept left shallow) first in
    c.border_of.ensures ∙ ap set_of (all ∙ ap (λ s. kept s ids ++ kept s shallow) c.in_ok-left.ensures.border)
    ∙ kept_merged c.args.self.now ids shallow c.args.unshallow.now c.commits.ensures.set
