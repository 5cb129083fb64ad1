-- What the last edit that writes a name leaves there.
use Rattle.std.proofs.Common.{◌≡◌, ℕ, Bool, true, false, cond, List, [], ◌∷◌, Option, Some, None, refl, sym, ap, ◌∙◌}
use Rattle.std.specs.Prelude.{◌&&◌, if◌then◌else◌}
use Rattle.std.specs.Option.{option_or}
use Rattle.std.specs.Str.{bytes_eq}
use Rattle.std.specs.Cmp.Lexicographic.{texts_ties}
use Rattle.std.specs.FinMap.{get, insert, remove, get-insert, get-remove}
use Rattle.fetch_refs.specs.declared.edit.Change.{Change}
use Rattle.fetch_refs.specs.declared.edit.Change.TheVariants.{Update, Delete}
use Rattle.fetch_refs.specs.declared.edit.RefEdit.{RefEdit}
use Rattle.fetch_refs.specs.declared.edit.RefLog.{RefLog}
use Rattle.fetch_refs.specs.declared.edit.RefLog.TheVariants.{AndReference, Only}
use Rattle.fetch_refs.specs.declared.target.Target.{Target}
use Rattle.fetch_refs.specs.Edits.{changed, put, written, written_in, refs_after}
use Rattle.fetch_refs.specs.Laws.{last_that, writes, left_by, touches_reference, mode_of, new_value}
use Rattle.fetch_refs.specs.Names.{Names}
use Rattle.fetch_refs.proofs.Names.{name_cmp_total}

-- what an edit of one name leaves at any name
module _ (names : Names) (key name : List ℕ) where
  with_some : (v : Target) → get (insert names key v) name ≡ cond (bytes_eq name key) (Some v) (get names name)
  with_some v = get-insert name_cmp_total names key v name ∙ ap (λ b. cond b (Some v) (get names name)) (sym (texts_ties name key))

  with_none : get (remove names key) name ≡ cond (bytes_eq name key) None (get names name)
  with_none = get-remove name_cmp_total names key name ∙ ap (λ b. cond b None (get names name)) (sym (texts_ties name key))

  pub put_at : (m : RefLog) (value : Option Target) → get (put names key (written_in m value)) name ≡ cond (bytes_eq name key && touches_reference m) value (get names name)
  put_at AndReference (Some v) = with_some v ∙ tested (bytes_eq name key) (Some v)
    where
      tested : (b : Bool) (v' : Option Target) → cond b v' (get names name) ≡ cond (b && true) v' (get names name)
      tested true v' = refl
      tested false v' = refl
  put_at AndReference None = with_none ∙ tested (bytes_eq name key) None
    where
      tested : (b : Bool) (v' : Option Target) → cond b v' (get names name) ≡ cond (b && true) v' (get names name)
      tested true v' = refl
      tested false v' = refl
  put_at Only value = kept (bytes_eq name key)
    where
      kept : (b : Bool) → get names name ≡ cond (b && false) value (get names name)
      kept true = refl
      kept false = refl

changed_by : (names : Names) (c : Change) (key name : List ℕ) → get (put names key (written c)) name ≡ cond (bytes_eq name key && touches_reference (mode_of c)) (new_value c) (get names name)
changed_by names (Update log expected new) key name = put_at names key name log.mode (Some new)
changed_by names (Delete expected log) key name = put_at names key name log None

chosen : (o : Option RefEdit) (e : RefEdit) (b : Bool) (found : Option Target) → left_by (cond b (new_value e.change) found) o ≡ left_by found (option_or o (if b then Some e else None))
chosen None e true found = refl
chosen None e false found = refl
chosen (Some x) e b found = refl

pub last_edit : (names : Names) (edits : List RefEdit) (name : List ℕ) → get (refs_after names edits) name ≡ left_by (get names name) (last_that (writes name) edits)
last_edit names [] name = refl
last_edit names (e ∷ es) name =
    last_edit (changed names e) es name
    ∙ ap (λ (o : Option Target). left_by o (last_that (writes name) es)) (changed_by names e.change e.name name)
    ∙ chosen (last_that (writes name) es) e (writes name e) (get names name)
