-- Lists that are made one by one.
use Rattle.std.proofs.Common.{◌≡◌, ℕ, ◌+◌, ◌<◌, Bool, true, false, cond, List, [], ◌∷◌, ◌++◌, map, length, get_or, take, Option, Some, None, refl, sym, ap, ◌∙◌, append_assoc}
use Rattle.std.specs.Prelude.{option_to_list, ◌||◌}
use Rattle.std.specs.List.{list_any, cons_option}
use Rattle.std.specs.Ordering.{is_eq}
use Rattle.std.specs.Str.{bytes_eq}
use Rattle.std.specs.Cmp.Lexicographic.{texts_ties}
use Rattle.std.proofs.lemmas.List.Elements.{filter_map-append}
use Rattle.std.proofs.lemmas.List.Folds.{list_any-append}
use Rattle.fetch_refs.specs.Names.{name_cmp}
use Rattle.fetch_refs.specs.declared.edit.RefEdit.{RefEdit}
use Rattle.fetch_update.specs.declared.verdict.Verdict.{Verdict}
use Rattle.fetch_update.specs.Outcomes.{Verdicts, edits_of}
use Rattle.std.proofs.lemmas.List.{take_more, append-nil}

-- one element more that a function makes
pub mapped_more : {A B : Type 0} (f : A → B) (all it rest : List A) (out more : List B) (x : A) (y : B) → it ≡ x ∷ rest → more ≡ out ++ y ∷ [] → y ≡ f x → out ++ map f it ≡ map f all → more ++ map f rest ≡ map f all
mapped_more f all it rest out more x y next is same so_far =
    ap (λ ys. ys ++ map f rest) is ∙ append_assoc out (y ∷ []) (map f rest) ∙ ap (λ z. out ++ z ∷ map f rest) same ∙ ap (λ xs. out ++ map f xs) (sym next) ∙ so_far

pub mapped_all : {A B : Type 0} (f : A → B) (all it : List A) (out : List B) → it ≡ [] → out ++ map f it ≡ map f all → out ≡ map f all
mapped_all f all it out end so_far = sym (append-nil out) ∙ ap (λ xs. out ++ map f xs) (sym end) ∙ so_far

-- ---- the names of edits

edit_list : (v : ℕ × Verdict) → edits_of (v ∷ []) ≡ option_to_list v.1.edit
edit_list v = one v.1.edit
  where
    one : (o : Option RefEdit) → cons_option o [] ≡ option_to_list o
    one None = refl
    one (Some e) = refl

-- whether an edit of this name stands among those of the first verdicts
abbrev pub is_named : List ℕ → Verdicts → Bool
is_named name vs = list_any (λ e. bytes_eq e.name name) (edits_of vs)

named_more : (name : List ℕ) (vs : Verdicts) (i : ℕ) (v : ℕ × Verdict) → i < length vs → v ≡ get_or vs i v → is_named name (take (i + 1) vs) ≡ (is_named name (take i vs) || list_any (λ e. bytes_eq e.name name) (option_to_list v.1.edit))
named_more name vs i v lt is =
    ap (is_named name) (take_more vs i v lt ∙ ap (λ (x : ℕ × Verdict). take i vs ++ x ∷ []) (sym is))
    ∙ ap (list_any (λ e. bytes_eq e.name name)) (filter_map-append (λ (x : ℕ × Verdict). x.1.edit) (take i vs) (v ∷ []) ∙ ap (λ (es : List RefEdit). edits_of (take i vs) ++ es) (edit_list v))
    ∙ list_any-append (λ e. bytes_eq e.name name) (edits_of (take i vs)) (option_to_list v.1.edit)

or_false : (b : Bool) → b ≡ (b || false)
or_false true = refl
or_false false = refl

either_way : (t b : Bool) → cond t true b ≡ (b || (t || false))
either_way true true = refl
either_way true false = refl
either_way false true = refl
either_way false false = refl

pub named_none : (name : List ℕ) (vs : Verdicts) (i : ℕ) (v : ℕ × Verdict) → i < length vs → v ≡ get_or vs i v → v.1.edit ≡ None → is_named name (take i vs) ≡ is_named name (take (i + 1) vs)
named_none name vs i v lt is none =
    or_false (is_named name (take i vs)) ∙ ap (λ (o : Option RefEdit). is_named name (take i vs) || list_any (λ e. bytes_eq e.name name) (option_to_list o)) (sym none) ∙ sym (named_more name vs i v lt is)

pub named_some : (name key : List ℕ) (vs : Verdicts) (i : ℕ) (v : ℕ × Verdict) (e : RefEdit) (before after : Bool) → i < length vs → v ≡ get_or vs i v → v.1.edit ≡ Some e → key ≡ e.name
    → before ≡ is_named name (take i vs) → after ≡ cond (is_eq (name_cmp key name)) true before → after ≡ is_named name (take (i + 1) vs)
named_some name key vs i v e before after lt is some same so_far step =
    step ∙ ap (λ b. cond b true before) (sym (texts_ties key name)) ∙ ap (λ (k : List ℕ). cond (bytes_eq k name) true before) same ∙ ap (cond (bytes_eq e.name name) true) so_far
    ∙ either_way (bytes_eq e.name name) (is_named name (take i vs))
    ∙ ap (λ (o : Option RefEdit). is_named name (take i vs) || list_any (λ x. bytes_eq x.name name) (option_to_list o)) (sym some) ∙ sym (named_more name vs i v lt is)
