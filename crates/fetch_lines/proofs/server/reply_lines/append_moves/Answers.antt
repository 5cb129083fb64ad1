use Rattle.std.proofs.Common.{◌≡◌, ℕ, List, [], ◌∷◌, ◌++◌, Some, ap, ap₂, ◌∙◌, append_assoc, codes}
use Rattle.fetch_base.specs.declared.id.ObjectId.{ObjectId}
use Rattle.fetch_lines.specs.declared.lines.line.Line.{Line}
use Rattle.fetch_lines.specs.declared.lines.line.Line.TheVariants.{Delim}
use Rattle.fetch_lines.specs.RequestLines.{id_lines}
use Rattle.fetch_lines.specs.Requests.{sent}
use Rattle.fetch_lines.specs.ServerLines.{change_lines}
use Rattle.fetch_lines.proofs.server.reply_lines.append_moves.Goals as goal

abbrev texts_of : List ObjectId → List ObjectId → List (List ℕ)
texts_of shallow unshallow = codes "shallow-info" ∷ (id_lines (codes "shallow ") shallow ++ id_lines (codes "unshallow ") unshallow)

written : (before lines now : List Line) (texts : List (List ℕ)) (shallow unshallow : List ObjectId) → texts ≡ texts_of shallow unshallow → lines ≡ before ++ sent texts → now ≡ lines ++ Delim ∷ []
    → now ≡ before ++ change_lines (Some (record { shallow = shallow; unshallow = unshallow }))
written before lines now texts shallow unshallow are sends ends =
    ends ∙ ap (λ (l : List Line). l ++ Delim ∷ []) (sends ∙ ap (λ (ts : List (List ℕ)). before ++ sent ts) are) ∙ append_assoc before (sent (texts_of shallow unshallow)) (Delim ∷ [])

pub returns : goal.returns
returns c =
    written c.args.lines.now.items c.append_texts.new.lines.items c.push-2.new.self.items c.append_ids-2.new.texts.items c.args.shallow.now c.args.unshallow.now
    (c.in_ok-append_ids-2.ensures
    ∙ ap (λ (l : List (List ℕ)). l ++ id_lines (codes "unshallow ") c.args.unshallow.now) (c.in_ok-append_ids.ensures
    ∙ ap (λ (l : List (List ℕ)). l ++ id_lines (codes "shallow ") c.args.shallow.now) (c.in_ok-push.ensures.items ∙ ap₂ (λ (l : List (List ℕ)) (t : List ℕ). l ++ t ∷ []) c.new-texts.ensures.items c.in_ok-new.ensures)))
    (c.in_ok-append_texts.ensures ∙ ap (λ (ts : List (List ℕ)). c.args.lines.now.items ++ sent ts) c.deref.ensures.value) c.in_ok-push-2.ensures.items
