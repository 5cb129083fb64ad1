-- What a reflog holds after edits: what stood, or nothing since the last deletion, and then a line for each edit that gets one.
use Rattle.std.proofs.Common.{◌≡◌, ℕ, Bool, true, false, cond, List, [], ◌∷◌, ◌++◌, Option, Some, None, unwrap_or, refl, sym, ap, ◌∙◌, append-nil, append_assoc}
use Rattle.std.specs.Prelude.{◌&&◌, ◌||◌, if◌then◌else◌}
use Rattle.std.specs.Cmp.{Equal-is}
use Rattle.std.specs.Cmp.Lexicographic.{texts_ties}
use Rattle.std.specs.FinMap.{get, insert, remove, get-insert, get-remove}
use Rattle.std.specs.List.{list_any}
use Rattle.std.specs.Str.{bytes_eq}
use Rattle.fetch_refs.specs.declared.edit.Change.{Change}
use Rattle.fetch_refs.specs.declared.edit.Change.TheVariants.{Update, Delete}
use Rattle.fetch_refs.specs.declared.edit.LogChange.{LogChange}
use Rattle.fetch_refs.specs.declared.edit.RefEdit.{RefEdit}
use Rattle.fetch_refs.specs.declared.log.LogLine.{LogLine}
use Rattle.fetch_refs.specs.declared.target.Target.{Target}
use Rattle.fetch_refs.specs.declared.target.Target.TheVariants.{Object, Symbolic}
use Rattle.fetch_refs.specs.Edits.{changed, refs_after}
use Rattle.fetch_refs.specs.Gained.{is_deletion, deletes, line_for, line_of_change, line_by, gained}
use Rattle.fetch_refs.specs.Logs.{Logging, gets_line, old_id, lines_of, with_line, updated, logged, logs_after}
use Rattle.fetch_refs.specs.Names.{Names, Logs, name_cmp}
use Rattle.fetch_refs.proofs.Names.{name_cmp_total, name_cmp_exact}

module _ (logs : Logs) (key name : List ℕ) where
  -- the same name
  here : bytes_eq name key ≡ true → name ≡ key
  here is = name_cmp_exact name key ((Equal-is (name_cmp name key)).0 (sym (texts_ties name key) ∙ is))

  inserted : (ls : List LogLine) (b : Bool) → bytes_eq name key ≡ b → lines_of (insert logs key ls) name ≡ unwrap_or (cond b (Some ls) (get logs name)) []
  inserted ls b is =
      ap (λ (o : Option (List LogLine)). unwrap_or o []) (get-insert name_cmp_total logs key ls name ∙ ap (λ (t : Bool). cond t (Some ls) (get logs name)) (sym (texts_ties name key) ∙ is))

  removed : (b : Bool) → bytes_eq name key ≡ b → lines_of (remove logs key) name ≡ unwrap_or (cond b None (get logs name)) []
  removed b is = ap (λ (o : Option (List LogLine)). unwrap_or o []) (get-remove name_cmp_total logs key name ∙ ap (λ (t : Bool). cond t None (get logs name)) (sym (texts_ties name key) ∙ is))

  one_more : (gets : Bool) (line : LogLine) → bytes_eq name key ≡ true → lines_of (if gets then with_line logs key line else logs) name ≡ lines_of logs name ++ (if gets then line ∷ [] else [])
  one_more true line is = inserted (lines_of logs key ++ line ∷ []) true is ∙ ap (λ (n : List ℕ). lines_of logs n ++ line ∷ []) (sym (here is))
  one_more false line is = sym (append-nil (lines_of logs name))

  no_more : (gets : Bool) (line : LogLine) → bytes_eq name key ≡ false → lines_of (if gets then with_line logs key line else logs) name ≡ lines_of logs name
  no_more true line is = inserted (lines_of logs key ++ line ∷ []) false is
  no_more false line is = refl

  module _ (how : Logging) (found : Option Target) where
    updated_here : (log : LogChange) (new : Target) → bytes_eq name key ≡ true → lines_of (updated how logs key log found new) name ≡ lines_of logs name ++ line_for how key log found new
    updated_here log (Symbolic target) is = sym (append-nil (lines_of logs name))
    updated_here log (Object id) is = one_more (gets_line how.enabled key log found (Object id)) (record { old = old_id how.hash found; new = id; committer = how.committer; message = log.message }) is

    updated_there : (log : LogChange) (new : Target) → bytes_eq name key ≡ false → lines_of (updated how logs key log found new) name ≡ lines_of logs name
    updated_there log (Symbolic target) is = refl
    updated_there log (Object id) is = no_more (gets_line how.enabled key log found (Object id)) (record { old = old_id how.hash found; new = id; committer = how.committer; message = log.message }) is

    by_change : (c : Change) (b : Bool) → bytes_eq name key ≡ b → (b && is_deletion c) ≡ false
        → lines_of (logged how logs key found c) name ≡ lines_of logs name ++ (if b then line_of_change how key found c else [])
    by_change (Update log expected new) true is kept = updated_here log new is
    by_change (Update log expected new) false is kept = updated_there log new is ∙ sym (append-nil (lines_of logs name))
    by_change (Delete expected log) true is kept = absurd cc
    by_change (Delete expected log) false is kept = removed false is ∙ sym (append-nil (lines_of logs name))

    cleared : (c : Change) (b : Bool) → bytes_eq name key ≡ b → (b && is_deletion c) ≡ true → lines_of (logged how logs key found c) name ≡ []
    cleared (Delete expected log) true is gone = removed true is
    cleared (Delete expected log) false is gone = absurd cc
    cleared (Update log expected new) true is gone = absurd cc
    cleared (Update log expected new) false is gone = absurd cc

neither : (a b : Bool) → (a || b) ≡ false → (a ≡ false) × (b ≡ false)
neither true b p = absurd cc
neither false b p = (refl, p)

pub gained_lines : (how : Logging) (names : Names) (logs : Logs) (edits : List RefEdit) (name : List ℕ) → list_any (deletes name) edits ≡ false
    → lines_of (logs_after how names logs edits) name ≡ lines_of logs name ++ gained how names name edits
gained_lines how names logs [] name kept = sym (append-nil (lines_of logs name))
gained_lines how names logs (e ∷ es) name kept =
    let n = neither (deletes name e) (list_any (deletes name) es) kept in
    gained_lines how (changed names e) (logged how logs e.name (get names e.name) e.change) es name n.1
    ∙ ap (λ (ls : List LogLine). ls ++ gained how (changed names e) name es) (by_change logs e.name name how (get names e.name) e.change (bytes_eq name e.name) refl n.0)
    ∙ append_assoc (lines_of logs name) (line_by how names name e) (gained how (changed names e) name es)

logs-append : (how : Logging) (names : Names) (logs : Logs) (xs ys : List RefEdit) → logs_after how names logs (xs ++ ys) ≡ logs_after how (refs_after names xs) (logs_after how names logs xs) ys
logs-append how names logs [] ys = refl
logs-append how names logs (e ∷ es) ys = logs-append how (changed names e) (logged how logs e.name (get names e.name) e.change) es ys

refs-append : (names : Names) (xs ys : List RefEdit) → refs_after names (xs ++ ys) ≡ refs_after (refs_after names xs) ys
refs-append names [] ys = refl
refs-append names (e ∷ es) ys = refs-append (changed names e) es ys

pub lines_since : (how : Logging) (names : Names) (logs : Logs) (front : List RefEdit) (deletion : RefEdit) (since : List RefEdit) (name : List ℕ)
    → deletes name deletion ≡ true → list_any (deletes name) since ≡ false
    → lines_of (logs_after how names logs (front ++ deletion ∷ since)) name ≡ gained how (refs_after names (front ++ deletion ∷ [])) name since
lines_since how names logs front deletion since name gone kept =
    ap (λ (l : Logs). lines_of l name) (logs-append how names logs front (deletion ∷ since))
    ∙ gained_lines how (changed (refs_after names front) deletion) (logged how (logs_after how names logs front) deletion.name (get (refs_after names front) deletion.name) deletion.change) since name kept
    ∙ ap (λ (ls : List LogLine). ls ++ gained how (changed (refs_after names front) deletion) name since)
    (cleared (logs_after how names logs front) deletion.name name how (get (refs_after names front) deletion.name) deletion.change (bytes_eq name deletion.name) refl gone)
    ∙ ap (λ (n : Names). gained how n name since) (sym (refs-append names front (deletion ∷ [])))
