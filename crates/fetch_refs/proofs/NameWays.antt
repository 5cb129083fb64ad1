-- Where symbolic references end, by lists of names.
use Rattle.std.proofs.Common.{◌≡◌, ℕ, suc, ◌-◌, ◌<◌, ◌≤◌, Bool, true, false, inl, inr, List, [], ◌∷◌, ◌++◌, length, Option, Some, None, Result, Ok, Err, refl, sym, ap, subst, ◌∙◌, arith}
use Rattle.std.specs.Prelude.{◌↔◌}
use Rattle.std.specs.FinMap as finmap
use Rattle.std.specs.List.{Contains, IsDistinct}
use Rattle.std.specs.Option.{option_and_then}
use Rattle.std.specs.Str.{bytes_eq}
use Rattle.std.proofs.lemmas.Slice.Eq.{bytes_eq-Decides}
use Rattle.fetch_store.specs.Graph.{Graph}
use Rattle.fetch_base.specs.declared.id.ObjectId.{ObjectId}
use Rattle.fetch_refs.specs.declared.error.RefError.{RefError}
use Rattle.fetch_refs.specs.declared.error.RefError.TheVariants as errors
use Rattle.fetch_refs.specs.declared.target.Target.{Target}
use Rattle.fetch_refs.specs.declared.target.Target.TheVariants.{Object, Symbolic}
use Rattle.fetch_refs.specs.Leading.{name_in, next_name, IsNameWay, EndsNames, IsPeeledTo}
use Rattle.fetch_refs.specs.Names.{Names}
use Rattle.fetch_refs.specs.Peeled.{read, follow, resolved, through, and_then, peeled}
use Rattle.fetch_refs.proofs.TagWays.{tags_end}
use Rattle.fetch_refs.proofs.Walks.{met, is_in, was_met, unmet, Trace, trace, IsWalk, at_met, at_stop, at_last}
use Rattle.fetch_refs.proofs.Ways.{follow-cycle, follow-depth, follow-first, follow-read}

abbrev Text : Type 0
Text = List ℕ

self : (a : Text) → bytes_eq a a ≡ true
self a = (bytes_eq-Decides a a).1 refl

exact : (a b : Text) → bytes_eq a b ≡ true → a ≡ b
exact a b h = (bytes_eq-Decides a b).0 h

-- the end of names: an id, or nothing
abbrev stopped : Text → Option Target → Result ObjectId RefError
stopped name None = Err (errors.Unborn name)
stopped name (Some (Object id)) = Ok id
stopped name (Some (Symbolic to)) = Err (errors.Depth name)

read_stop : (name : Text) (o : Option Target) (f : Text → Result ObjectId RefError) → option_and_then name_in o ≡ None → read name o (λ id. Ok id) f ≡ stopped name o
read_stop name None f none = refl
read_stop name (Some (Object id)) f none = refl
read_stop name (Some (Symbolic to)) f none = absurd cc

read_next : (name to : Text) (o : Option Target) (f : Text → Result ObjectId RefError) → option_and_then name_in o ≡ Some to → read name o (λ id. Ok id) f ≡ f to
read_next name to None f some = absurd cc
read_next name to (Some (Object id)) f some = absurd cc
read_next name to (Some (Symbolic n)) f some = let same : n ≡ to = cc in ap f same

module _ (names : Names) where
  abbrev next : Text → Option Text
  next = next_name names

  abbrev stop : Text → Result ObjectId RefError
  stop name = stopped name (finmap.get names name)

  abbrev again : Text → Result ObjectId RefError
  again name = Err (errors.Cycle name)

  abbrev over : Text → Result ObjectId RefError
  over name = Err (errors.Depth name)

  walks : IsWalk bytes_eq next (follow names) stop again over
  walks = record {
    cycle = λ left ms x is. follow-cycle names ms x left is;
    short = λ ms x new. follow-depth names ms x 0 (λ less. absurd (omega arith)) new;
    stops = λ left ms x new none some. follow-read names ms x left some new ∙ read_stop x (finmap.get names x) (λ target. follow names (left - 1) (ms ++ x ∷ []) target) none;
    goes = λ left ms x y new some.
        let one : suc left - 1 ≡ left = omega arith in
        follow-read names ms x (suc left) (omega arith) new ∙ read_next x y (finmap.get names x) (λ target. follow names (suc left - 1) (ms ++ x ∷ []) target) some
        ∙ ap (λ (n : ℕ). follow names n (ms ++ x ∷ []) y) one;
  }

  -- ---- what is answered ends the names
  ends_stop : (first end : Text) (way : List Text) (o : Option Target) → IsNameWay names first way end → length way < 5 → finmap.get names end ≡ o → next end ≡ None → EndsNames names first (stopped end o)
  ends_stop first end way None h few at none = (way, h, few, at)
  ends_stop first end way (Some (Object id)) h few at none = (way, end, h, few, at)
  ends_stop first end way (Some (Symbolic to)) h few at none = absurd (let x : Some to ≡ None = sym (ap (option_and_then name_in) at) ∙ none in cc)

  unlike : (b : Bool) → b ≡ true → b ≡ false → ⊥
  unlike b t f = absurd cc

  answered : (first : Text) → Trace bytes_eq next 5 [] first → EndsNames names first (follow names 5 [] first)
  answered first t =
      let way : IsNameWay names first t.way t.end = record { leads = t.leads; distinct = t.apart } in
      let count = t.count in
      elim t.ends [
        | inl is ↦
            let few : length t.way ≤ 5 = omega (arith, count) in
            subst (EndsNames names first) (sym (at_met bytes_eq next (follow names) stop again over walks 5 t.way first t.end t.leads t.apart few is))
            (t.way, way, few, is_in bytes_eq exact t.way t.end is)
        | inr rest ↦
            elim rest [
              | inl is ↦
                  let some = is.2 in
                  let few : length t.way < 5 = omega (arith, count, some) in
                  subst (EndsNames names first) (sym (at_stop bytes_eq next (follow names) stop again over walks 5 t.way first t.end t.leads t.apart few is.0 is.1))
                  (ends_stop first t.end t.way (finmap.get names t.end) way few refl is.1)
              | inr is ↦
                  let none = is.1 in
                  let full : length t.way ≡ 5 = omega (arith, count, none) in
                  subst (EndsNames names first) (sym (at_last bytes_eq next (follow names) stop again over walks 5 t.way first t.end t.leads t.apart full is.0))
                  (t.way, way, full, λ has. unlike (met bytes_eq t.way t.end) (was_met bytes_eq self t.way t.end has) is.0)
            ]
      ]

  start : IsDistinct bytes_eq []
  unfolding IsDistinct
  start = tt

  -- ---- what ends the names is answered
  not_met : (way : List Text) (end : Text) (b : Bool) → met bytes_eq way end ≡ b → (Contains way end → ⊥) → b ≡ false
  not_met way end true is none = absurd (none (is_in bytes_eq exact way end is))
  not_met way end false is none = refl

  ended : (first : Text) (answer : Result ObjectId RefError) → EndsNames names first answer → follow names 5 [] first ≡ answer
  ended first (Ok id) (way, end, h, few, at) =
      let nowhere : next end ≡ None = ap (option_and_then name_in) at in
      at_stop bytes_eq next (follow names) stop again over walks 5 way first end h.leads h.distinct few (unmet bytes_eq next exact way first end end h.leads nowhere) nowhere ∙ ap (stopped end) at
  ended first (Err (errors.Unborn end)) (way, h, few, at) =
      let nowhere : next end ≡ None = ap (option_and_then name_in) at in
      at_stop bytes_eq next (follow names) stop again over walks 5 way first end h.leads h.distinct few (unmet bytes_eq next exact way first end end h.leads nowhere) nowhere ∙ ap (stopped end) at
  ended first (Err (errors.Cycle end)) (way, h, few, has) =
      at_met bytes_eq next (follow names) stop again over walks 5 way first end h.leads h.distinct few (was_met bytes_eq self way end has)
  ended first (Err (errors.Depth end)) (way, h, full, none) =
      at_last bytes_eq next (follow names) stop again over walks 5 way first end h.leads h.distinct full (not_met way end (met bytes_eq way end) refl none)
  ended first (Err (errors.Expectation index found)) h = absurd h
  ended first (Err (errors.MissingObject id)) h = absurd h
  ended first (Err (errors.TagCycle id)) h = absurd h
  ended first (Err errors.NoMemory) h = absurd h

  pub names_end : (first : Text) (answer : Result ObjectId RefError) → (follow names 5 [] first ≡ answer) ↔ EndsNames names first answer
  names_end first answer = (λ e. subst (EndsNames names first) e (answered first (trace bytes_eq next 5 [] first start)), ended first answer)

  direct_here : (name : Text) (id : ObjectId) → finmap.get names name ≡ Some (Object id) → EndsNames names name (Ok id)
  direct_here name id at = ([], name, record { leads = refl; distinct = start }, omega arith, at)

  resolved-follow : (name : Text) (target : Target) → finmap.get names name ≡ Some target → resolved names name target ≡ follow names 5 [] name
  resolved-follow name (Object id) at = sym (ended name (Ok id) (direct_here name id at))
  resolved-follow name (Symbolic to) at = sym (follow-first names name to at)

  module _ (graph : Graph) (name : Text) where
    abbrev behind : ObjectId → Result ObjectId RefError
    behind id = through graph (finmap.len graph) [] id

    peeled-read : (o : Option Target) → finmap.get names name ≡ o → peeled names graph name ≡ read name o (λ id. Ok id) (λ _. and_then (follow names 5 [] name) behind)
    unfolding peeled
    peeled-read o at = ap (λ (x : Option Target). read name x (λ id. Ok id) (λ _. and_then (follow names 5 [] name) behind)) at

    none_here : finmap.get names name ≡ None → EndsNames names name (Err (errors.Unborn name))
    none_here at = ([], record { leads = refl; distinct = start }, omega arith, at)

    by_names : (to : Text) (r : Result ObjectId RefError) → finmap.get names name ≡ Some (Symbolic to) → follow names 5 [] name ≡ r → (answer : Result ObjectId RefError) → and_then r behind ≡ answer → IsPeeledTo names graph name answer
    by_names to (Ok id) at is answer e = inr (inl (to, id, at, (names_end name (Ok id)).0 is, (tags_end graph id answer).0 e))
    by_names to (Err x) at is answer e = inr (inr (x, (names_end name (Err x)).0 is, sym e))

    told : (o : Option Target) → finmap.get names name ≡ o → (answer : Result ObjectId RefError) → peeled names graph name ≡ answer → IsPeeledTo names graph name answer
    told None at answer e = inr (inr (errors.Unborn name, none_here at, sym e ∙ peeled-read None at))
    told (Some (Object id)) at answer e = inl (id, at, sym e ∙ peeled-read (Some (Object id)) at)
    told (Some (Symbolic to)) at answer e = by_names to (follow names 5 [] name) at refl answer (sym (peeled-read (Some (Symbolic to)) at) ∙ e)

    refused : (o : Option Target) (x : RefError) → finmap.get names name ≡ o → follow names 5 [] name ≡ Err x → peeled names graph name ≡ Err x
    refused None x at is = peeled-read None at ∙ sym (ended name (Err (errors.Unborn name)) (none_here at)) ∙ is
    refused (Some (Object id)) x at is = absurd (let h : Ok id ≡ Err x = sym (ended name (Ok id) (direct_here name id at)) ∙ is in cc)
    refused (Some (Symbolic to)) x at is = peeled-read (Some (Symbolic to)) at ∙ ap (λ (r : Result ObjectId RefError). and_then r behind) is

    given : (answer : Result ObjectId RefError) → IsPeeledTo names graph name answer → peeled names graph name ≡ answer
    given answer (inl (id, at, is)) = peeled-read (Some (Object id)) at ∙ sym is
    given answer (inr (inl (to, id, at, ends, tags))) =
        peeled-read (Some (Symbolic to)) at ∙ ap (λ (r : Result ObjectId RefError). and_then r behind) (ended name (Ok id) ends) ∙ (tags_end graph id answer).1 tags
    given answer (inr (inr (x, ends, is))) = refused (finmap.get names name) x refl (ended name (Err x) ends) ∙ sym is

    pub peeled_to : (answer : Result ObjectId RefError) → (peeled names graph name ≡ answer) ↔ IsPeeledTo names graph name answer
    peeled_to answer = (told (finmap.get names name) refl answer, given answer)

pub resolved_to : (names : Names) (name : Text) (target : Target) (answer : Result ObjectId RefError) → finmap.get names name ≡ Some target → (resolved names name target ≡ answer) ↔ EndsNames names name answer
resolved_to names name target answer at =
    let same = resolved-follow names name target at in
    (λ e. (names_end names name answer).0 (sym same ∙ e), λ h. same ∙ (names_end names name answer).1 h)
