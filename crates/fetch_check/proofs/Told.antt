-- What is told, in other words.
use Rattle.std.proofs.Common.{◌≡◌, ℕ, Bool, true, false, not, List, [], ◌∷◌, filter, Option, Some, Ok, Contains, ⊎_elim, inl, inr, refl, sym, ap, subst, ◌∙◌}
use Rattle.std.specs.Prelude.{◌↔◌, ◌⊎◌}
use Rattle.std.specs.FinMap as map
use Rattle.fetch_store.specs.declared.missing.Missing.{Missing}
use Rattle.fetch_store.specs.Closed.{Holding, IsClosed}
use Rattle.fetch_store.specs.Graph.{Graph}
use Rattle.fetch_store.specs.Missing.{unclosed}
use Rattle.fetch_store.proofs.Members.{first_in, later_in, cases_in, kept_in, passed_in}
use Rattle.fetch_store.proofs.Unclosed.{closed_none, none_closed}
use Rattle.fetch_refs.specs.declared.target.Target.{Target}
use Rattle.fetch_refs.specs.declared.target.Target.TheVariants.{Symbolic}
use Rattle.fetch_refs.specs.Names.{Names}
use Rattle.fetch_refs.specs.Peeled.{follow, read, and_then, through, peeled}
use Rattle.fetch_check.specs.Finding.{end_of, missing_pairs}
use Rattle.fetch_check.specs.Pairs.{is_same_link, firsts_of}
use Rattle.fetch_check.proofs.Firsts.{exact}

no_firsts : (xs : List Missing) → firsts_of xs ≡ [] → xs ≡ []
no_firsts [] e = refl
no_firsts (x ∷ xs) e = absurd cc

pub none_told : (h : Holding) → (missing_pairs h ≡ []) ↔ IsClosed h
none_told h = (λ none. none_closed h (no_firsts (unclosed h) none), λ closed. ap firsts_of (closed_none h closed))

-- a link is the first of its pair or another one
either_link : (x y : Missing) (b : Bool) → is_same_link y x ≡ b → (x ≡ y) ⊎ (not (is_same_link y x) ≡ true)
either_link x y true e = inl (sym (exact y x e))
either_link x y false e = inr (ap not e)

pub all_told : (xs : List Missing) (link : Missing) → Contains xs link → Contains (firsts_of xs) link
all_told [] link here = here
all_told (x ∷ xs) link here =
    ⊎_elim (λ first. subst (λ y. Contains (firsts_of (x ∷ xs)) y) first (first_in x (filter (λ y. not (is_same_link y x)) (firsts_of xs))))
    (λ later.
    ⊎_elim (λ same. subst (λ y. Contains (firsts_of (x ∷ xs)) y) same (first_in x (filter (λ y. not (is_same_link y x)) (firsts_of xs))))
    (λ other. later_in link x (filter (λ y. not (is_same_link y x)) (firsts_of xs)) (kept_in (λ y. not (is_same_link y x)) (firsts_of xs) link other (all_told xs link later)))
    (either_link x link (is_same_link link x) refl))
    (cases_in link x xs here)

pub only_told : (xs : List Missing) (link : Missing) → Contains (firsts_of xs) link → Contains xs link
only_told [] link here = here
only_told (x ∷ xs) link here =
    ⊎_elim (λ first. subst (λ y. Contains (x ∷ xs) y) first (first_in x xs)) (λ later. later_in link x xs (only_told xs link (passed_in (λ y. not (is_same_link y x)) (firsts_of xs) link later).0))
    (cases_in link x (filter (λ y. not (is_same_link y x)) (firsts_of xs)) here)

-- a symbolic reference is followed from its own name
pub ends_peeled : (names : Names) (graph : Graph) (name target : List ℕ) → map.get names name ≡ Some (Symbolic target) → end_of names graph (name, Symbolic target) ≡ peeled names graph name
unfolding peeled follow
ends_peeled names graph name target is =
    sym (ap (λ o. read name o (λ id. Ok id) (λ _. and_then (follow names 5 [] name) (through graph (map.len graph) []))) is
    ∙ ap (λ (o : Option Target). and_then (read name o (λ id. Ok id) (λ next. follow names 4 (name ∷ []) next)) (through graph (map.len graph) [])) is)
