use Rattle.std.proofs.Common.{◌≡◌, not, ◌&&◌, ◌||◌, sym, ap, ◌∙◌}
use Rattle.std.specs.FinSet as set
use Rattle.fetch_store.specs.Borders.{IdSet}
use Rattle.fetch_store.proofs.Merges.{contains-within}
use Rattle.fetch_store.proofs.take.MergedBorder.contains.Goals as goal
use Rattle.fetch_store.proofs.take.MergedBorder.contains.Goals.{then-contains, else-contains}

pub returns-then-contains-2 : goal.returns-then-contains-2
returns-then-contains-2 c =
    let q = c.args.id.now in
    let b = c.self.inside.found.now in
    let s = c.self.inside.shallow in
    let u = c.self.inside.unshallow in
    let among : c.if-contains.value ≡ (set.contains b q || set.contains s q) =
    elim c.if-contains.branch [
      | then-contains w ↦ w.value-is ∙ w.if-contains.true ∙ ap (λ x. x || set.contains s q) (sym w.if-contains.true ∙ c.contains.ensures)
      | else-contains w ↦ w.value-is ∙ w.contains-else-contains.ensures ∙ ap (λ x. x || set.contains s q) (sym w.if-contains.false ∙ c.contains.ensures)
    ] in
    ap not c.contains-then-contains-2.ensures ∙ ap (λ x. x && not (set.contains u q)) (sym c.if-contains-2.true)
    ∙ contains-within b s u q c.if-contains.value among ∙ ap (λ (m : IdSet). set.contains m q) c.self.view_is

pub returns-else-contains-2 : goal.returns-else-contains-2
returns-else-contains-2 c =
    let q = c.args.id.now in
    let b = c.self.inside.found.now in
    let s = c.self.inside.shallow in
    let u = c.self.inside.unshallow in
    let among : c.if-contains.value ≡ (set.contains b q || set.contains s q) =
    elim c.if-contains.branch [
      | then-contains w ↦ w.value-is ∙ w.if-contains.true ∙ ap (λ x. x || set.contains s q) (sym w.if-contains.true ∙ c.contains.ensures)
      | else-contains w ↦ w.value-is ∙ w.contains-else-contains.ensures ∙ ap (λ x. x || set.contains s q) (sym w.if-contains.false ∙ c.contains.ensures)
    ] in
    c.if-contains-2.false ∙ ap (λ x. x && not (set.contains u q)) (sym c.if-contains-2.false)
    ∙ contains-within b s u q c.if-contains.value among ∙ ap (λ (m : IdSet). set.contains m q) c.self.view_is
