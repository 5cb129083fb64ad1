-- A walk from one to the next, that ends where one was met before, where none is next, or where no step is left.
use Rattle.std.proofs.Common.{◌≡◌, ℕ, zero, suc, ◌+◌, ◌-◌, ◌<◌, ◌≤◌, Bool, true, false, ◌||◌, ◌⊎◌, inl, inr, List, [], ◌∷◌, ◌++◌, length, Option, Some, None, refl, sym, ap, subst, ◌∙◌, arith, append_assoc, append-nil}
use Rattle.std.specs.List.{AllByRecursion, Contains, IsDistinct, list_any}
use Rattle.fetch_specs.proofs.Members.{none_in, first_in, first_or_rest, in_rest}
use Rattle.fetch_refs.specs.Leading.{Leads}

or_parts : (t u : Bool) → (t || u) ≡ false → (t ≡ false) × (u ≡ false)
or_parts true u h = absurd cc
or_parts false u h = (refl, h)

module _ {A : Type 0} (eq : A → A → Bool) where
  -- whether one was met
  abbrev pub met : List A → A → Bool
  met ms x = list_any (λ m. eq m x) ms

  apart_from : (m : A) (ms ws : List A) (w : A) → AllByRecursion (λ y. eq m y ≡ false) (ms ++ w ∷ ws) → eq m w ≡ false
  apart_from m [] ws w all = all.0
  apart_from m (k ∷ ms) ws w all = apart_from m ms ws w all.1

  pub fresh : (ms ws : List A) (w : A) → IsDistinct eq (ms ++ w ∷ ws) → met ms w ≡ false
  unfolding IsDistinct
  fresh [] ws w apart = refl
  fresh (m ∷ ms) ws w apart = ap (λ (t : Bool). t || met ms w) (apart_from m ms ws w apart.0) ∙ fresh ms ws w apart.1

  all_and : (m : A) (ms : List A) (x : A) → AllByRecursion (λ y. eq m y ≡ false) ms → eq m x ≡ false → AllByRecursion (λ y. eq m y ≡ false) (ms ++ x ∷ [])
  all_and m [] x all one = (one, tt)
  all_and m (k ∷ ms) x all one = (all.0, all_and m ms x all.1 one)

  pub distinct_more : (ms : List A) (x : A) → IsDistinct eq ms → met ms x ≡ false → IsDistinct eq (ms ++ x ∷ [])
  unfolding IsDistinct
  distinct_more [] x apart new = (tt, tt)
  distinct_more (m ∷ ms) x apart new =
      let parts = or_parts (eq m x) (met ms x) new in
      (all_and m ms x apart.0 parts.0, distinct_more ms x apart.1 parts.1)

  pub is_in : ((a b : A) → eq a b ≡ true → a ≡ b) → (ms : List A) (x : A) → met ms x ≡ true → Contains ms x
  is_in exact [] x h = absurd cc
  is_in exact (m ∷ ms) x h = step (eq m x) refl h (is_in exact ms x)
    where
      step : (t : Bool) → eq m x ≡ t → (t || met ms x) ≡ true → (met ms x ≡ true → Contains ms x) → Contains (m ∷ ms) x
      step true is h rest = subst (λ (a : A). Contains (m ∷ ms) a) (exact m x is) (first_in m ms)
      step false is h rest = in_rest m ms x (rest h)

  or_true : (t : Bool) → (t || true) ≡ true
  or_true true = refl
  or_true false = refl

  pub was_met : ((a : A) → eq a a ≡ true) → (ms : List A) (x : A) → Contains ms x → met ms x ≡ true
  was_met self [] x has = absurd (none_in x has)
  was_met self (m ∷ ms) x has =
      elim (first_or_rest m ms x has) [
        | inl same ↦ ap (λ (t : Bool). t || met ms x) (ap (λ (a : A). eq a x) same ∙ self x)
        | inr rest ↦ ap (λ (t : Bool). eq m x || t) (was_met self ms x rest) ∙ or_true (eq m x)
      ]

  module _ (next : A → Option A) where
    -- where a walk of that many steps ends
    pub record Trace (left : ℕ) (ms : List A) (x : A) : Type 0 where
      pub way : List A
      pub end : A
      pub more : ℕ
      pub leads : Leads next x way end
      pub apart : IsDistinct eq (ms ++ way)
      pub count : left ≡ length way + more
      pub ends : (met (ms ++ way) end ≡ true) ⊎ ((met (ms ++ way) end ≡ false) × (next end ≡ None) × (0 < more)) ⊎ ((met (ms ++ way) end ≡ false) × (more ≡ 0))

    ended : (left : ℕ) (ms : List A) (x : A) → IsDistinct eq ms → (met ms x ≡ true) ⊎ ((met ms x ≡ false) × (next x ≡ None) × (0 < left)) ⊎ ((met ms x ≡ false) × (left ≡ 0)) → Trace left ms x
    ended left ms x apart ends =
        let same : ms ++ [] ≡ ms = append-nil ms in
        record {
          way = [];
          end = x;
          more = left;
          leads = refl;
          apart = subst (IsDistinct eq) (sym same) apart;
          count = omega arith;
          ends = subst (λ (k : List A). (met k x ≡ true) ⊎ ((met k x ≡ false) × (next x ≡ None) × (0 < left)) ⊎ ((met k x ≡ false) × (left ≡ 0))) (sym same) ends;
        }

    went_on : (left : ℕ) (ms : List A) (x y : A) → next x ≡ Some y → Trace left (ms ++ x ∷ []) y → Trace (suc left) ms x
    went_on left ms x y is t =
        let same : (ms ++ x ∷ []) ++ t.way ≡ ms ++ x ∷ t.way = append_assoc ms (x ∷ []) t.way in
        record {
          way = x ∷ t.way;
          end = t.end;
          more = t.more;
          leads = (refl, (y, is, t.leads));
          apart = subst (IsDistinct eq) same t.apart;
          count = let n = t.count in omega (arith, n);
          ends = subst (λ (k : List A). (met k t.end ≡ true) ⊎ ((met k t.end ≡ false) × (next t.end ≡ None) × (0 < t.more)) ⊎ ((met k t.end ≡ false) × (t.more ≡ 0))) same t.ends;
        }

    pub trace : (left : ℕ) (ms : List A) (x : A) → IsDistinct eq ms → Trace left ms x
    trace zero ms x apart = by_test (met ms x) refl
      where
        by_test : (t : Bool) → met ms x ≡ t → Trace 0 ms x
        by_test true is = ended 0 ms x apart (inl is)
        by_test false is = ended 0 ms x apart (inr (inr (is, refl)))
    trace (suc left) ms x apart = by_test (met ms x) (next x) refl refl (λ y. trace left (ms ++ x ∷ []) y)
      where
        by_test : (t : Bool) (o : Option A) → met ms x ≡ t → next x ≡ o → ((y : A) → IsDistinct eq (ms ++ x ∷ []) → Trace left (ms ++ x ∷ []) y) → Trace (suc left) ms x
        by_test true o is at on = ended (suc left) ms x apart (inl is)
        by_test false None is at on = ended (suc left) ms x apart (inr (inl (is, at, omega arith)))
        by_test false (Some y) is at on = went_on left ms x y at (on y (distinct_more ms x apart is))

    -- What a walk answers: at one that was met, where no step is left, where none is next, and else what the rest of it answers.
    pub record IsWalk {R : Type 0} (walk : ℕ → List A → A → R) (stop met_again over : A → R) : Type 0 where
      pub cycle : (left : ℕ) (ms : List A) (x : A) → met ms x ≡ true → walk left ms x ≡ met_again x
      pub short : (ms : List A) (x : A) → met ms x ≡ false → walk 0 ms x ≡ over x
      pub stops : (left : ℕ) (ms : List A) (x : A) → met ms x ≡ false → next x ≡ None → 0 < left → walk left ms x ≡ stop x
      pub goes : (left : ℕ) (ms : List A) (x y : A) → met ms x ≡ false → next x ≡ Some y → walk (suc left) ms x ≡ walk left (ms ++ x ∷ []) y

    module _ {R : Type 0} (walk : ℕ → List A → A → R) (stop met_again over : A → R) (is : IsWalk walk stop met_again over) where
      -- a walk along a way
      pub along : (way ms : List A) (left more : ℕ) (x end : A) → Leads next x way end → IsDistinct eq (ms ++ way) → left ≡ length way + more → walk left ms x ≡ walk more (ms ++ way) end
      along [] ms left more x end leads apart count =
          let same : left ≡ more = omega (arith, count) in
          ap (λ (n : ℕ). walk n ms x) same ∙ ap (walk more ms) leads ∙ ap (λ (k : List A). walk more k end) (sym (append-nil ms))
      along (w ∷ ws) ms zero more x end leads apart count = absurd (omega (arith, count))
      along (w ∷ ws) ms (suc left) more x end leads apart count =
          let same : (ms ++ w ∷ []) ++ ws ≡ ms ++ w ∷ ws = append_assoc ms (w ∷ []) ws in
          let fewer : left ≡ length ws + more = omega (arith, count) in
          ap (walk (suc left) ms) leads.0 ∙ is.goes left ms w leads.1.0 (fresh ms ws w apart) leads.1.1
          ∙ along ws (ms ++ w ∷ []) left more leads.1.0 end leads.1.2 (subst (IsDistinct eq) (sym same) apart) fewer ∙ ap (λ (k : List A). walk more k end) same

      -- what a walk from its start answers
      pub at_met : (left : ℕ) (way : List A) (x end : A) → Leads next x way end → IsDistinct eq way → length way ≤ left → met way end ≡ true → walk left [] x ≡ met_again end
      at_met left way x end leads apart within again = along way [] left (left - length way) x end leads apart (omega arith) ∙ is.cycle (left - length way) way end again

      pub at_stop : (left : ℕ) (way : List A) (x end : A) → Leads next x way end → IsDistinct eq way → length way < left → met way end ≡ false → next end ≡ None → walk left [] x ≡ stop end
      at_stop left way x end leads apart within new none = along way [] left (left - length way) x end leads apart (omega arith) ∙ is.stops (left - length way) way end new none (omega arith)

      pub at_last : (left : ℕ) (way : List A) (x end : A) → Leads next x way end → IsDistinct eq way → length way ≡ left → met way end ≡ false → walk left [] x ≡ over end
      at_last left way x end leads apart count new = along way [] left 0 x end leads apart (omega (arith, count)) ∙ is.short way end new

    -- one that leads nowhere isn't on the way
    pub unmet : ((a b : A) → eq a b ≡ true → a ≡ b) → (way : List A) (x end q : A) → Leads next x way end → next q ≡ None → met way q ≡ false
    unmet exact [] x end q leads none = refl
    unmet exact (w ∷ ws) x end q leads none = step (eq w q) refl (unmet exact ws leads.1.0 end q leads.1.2 none)
      where
        step : (t : Bool) → eq w q ≡ t → met ws q ≡ false → (t || met ws q) ≡ false
        step true is rest = absurd (let h : Some leads.1.0 ≡ None = sym leads.1.1 ∙ ap next (exact w q is) ∙ none in cc)
        step false is rest = rest

    -- ---- a way to one that leads nowhere

    -- two such ways from one start are as long
    alike : (way other : List A) (x end last : A) → Leads next x way end → Leads next x other last → next end ≡ None → next last ≡ None → length way ≡ length other
    alike [] [] x end last leads also stops here = refl
    alike [] (o ∷ os) x end last leads also stops here = absurd (let h : Some also.1.0 ≡ None = sym also.1.1 ∙ ap next (sym also.0 ∙ leads) ∙ stops in cc)
    alike (w ∷ ws) [] x end last leads also stops here = absurd (let h : Some leads.1.0 ≡ None = sym leads.1.1 ∙ ap next (sym leads.0 ∙ also) ∙ here in cc)
    alike (w ∷ ws) (o ∷ os) x end last leads also stops here =
        let same : Some leads.1.0 ≡ Some also.1.0 = sym leads.1.1 ∙ ap next (sym leads.0 ∙ also.0) ∙ also.1.1 in
        let one : leads.1.0 ≡ also.1.0 = cc in
        let rest = alike ws os leads.1.0 end last leads.1.2 (subst (λ (a : A). Leads next a os last) (sym one) also.1.2) stops here in
        omega (arith, rest)

    -- from one of a way on
    pub record Tail (ws : List A) (x end : A) : Type 0 where
      pub rest : List A
      pub leads : Leads next x rest end
      pub within : length rest ≤ length ws

    tail_from : ((a b : A) → eq a b ≡ true → a ≡ b) → (ws : List A) (y end x : A) → Leads next y ws end → met ws x ≡ true → Tail ws x end
    tail_from exact [] y end x leads has = absurd cc
    tail_from exact (w ∷ ws) y end x leads has = step (eq w x) refl has (tail_from exact ws leads.1.0 end x leads.1.2)
      where
        step : (t : Bool) → eq w x ≡ t → (t || met ws x) ≡ true → (met ws x ≡ true → Tail ws x end) → Tail (w ∷ ws) x end
        step true is h on = record { rest = w ∷ ws; leads = (sym (exact w x is), leads.1); within = omega arith }
        step false is h on =
            let t = on h in
            let n = t.within in
            record { rest = t.rest; leads = t.leads; within = omega (arith, n) }

    none_of : ((a b : A) → eq a b ≡ true → a ≡ b) → ((a : A) → eq a a ≡ true) → (x : A) (ms : List A) → met ms x ≡ false → AllByRecursion (λ y. eq x y ≡ false) ms
    none_of exact self x [] new = tt
    none_of exact self x (m ∷ ms) new =
        let parts = or_parts (eq m x) (met ms x) new in
        (by_test (eq x m) refl parts.0, none_of exact self x ms parts.1)
      where
        by_test : (t : Bool) → eq x m ≡ t → eq m x ≡ false → eq x m ≡ false
        by_test true is not_so = absurd (let h : true ≡ false = sym (self m) ∙ ap (eq m) (sym (exact x m is)) ∙ not_so in cc)
        by_test false is not_so = is

    -- such a way has no name twice
    pub apart_way : ((a b : A) → eq a b ≡ true → a ≡ b) → ((a : A) → eq a a ≡ true) → (way : List A) (x end : A) → Leads next x way end → next end ≡ None → IsDistinct eq way
    unfolding IsDistinct
    apart_way exact self [] x end leads none = tt
    apart_way exact self (w ∷ ws) x end leads none = (none_of exact self w ws (by_test (met ws w) refl), apart_way exact self ws leads.1.0 end leads.1.2 none)
      where
        by_test : (t : Bool) → met ws w ≡ t → met ws w ≡ false
        by_test true is =
            let t = tail_from exact ws leads.1.0 end w leads.1.2 is in
            let n = t.within in
            let m = alike (w ∷ ws) t.rest w end end (refl, leads.1) t.leads none none in
            absurd (omega (arith, n, m))
        by_test false is = is

    -- one step more of a way
    pub leads_on : (way : List A) (x end y : A) → Leads next x way end → next end ≡ Some y → Leads next x (way ++ end ∷ []) y
    leads_on [] x end y leads is = (leads, (y, is, refl))
    leads_on (w ∷ ws) x end y leads is = (leads.0, (leads.1.0, leads.1.1, leads_on ws leads.1.0 end y leads.1.2 is))

    -- The rest of a way from one on has another exactly where the way has it.
    pub record IsRest (way : List A) (end at : A) (left : ℕ) (q : A) : Type 0 where
      pub rest : List A
      pub leads : Leads next at rest end
      pub count : length rest ≡ left
      pub same : met way q ≡ met rest q

    pub whole_rest : (way : List A) (x end q : A) (left : ℕ) → Leads next x way end → length way ≡ left → IsRest way end x left q
    whole_rest way x end q left leads count = record { rest = way; leads = leads; count = count; same = refl }

    module _ (way : List A) (end at : A) (left : ℕ) (q : A) (r : IsRest way end at left q) where
      -- it stands here
      pub rest-here : 0 < left → eq at q ≡ true → true ≡ met way q
      rest-here some is = go r.rest r.leads r.count ∙ sym r.same
        where
          go : (rest : List A) → Leads next at rest end → length rest ≡ left → true ≡ met rest q
          go [] leads count = absurd (omega (arith, count, some))
          go (x ∷ xs) leads count = ap (λ (t : Bool). t || met xs q) (sym (ap (λ (a : A). eq a q) (sym leads.0) ∙ is))

      -- it may stand further on
      pub rest-next : (target : A) → 0 < left → eq at q ≡ false → next at ≡ Some target → IsRest way end target (left - 1) q
      rest-next target some other is = go r.rest r.leads r.count r.same
        where
          go : (rest : List A) → Leads next at rest end → length rest ≡ left → met way q ≡ met rest q → IsRest way end target (left - 1) q
          go [] leads count same = absurd (omega (arith, count, some))
          go (x ∷ xs) leads count same =
              let two : Some leads.1.0 ≡ Some target = sym leads.1.1 ∙ ap next (sym leads.0) ∙ is in
              let one : leads.1.0 ≡ target = cc in
              record {
                rest = xs;
                leads = subst (λ (a : A). Leads next a xs end) one leads.1.2;
                count = omega (arith, count);
                same = same ∙ ap (λ (t : Bool). t || met xs q) (ap (λ (a : A). eq a q) (sym leads.0) ∙ other);
              }

      -- the way goes on
      pub rest-none : next at ≡ None → (0 < left → ⊥)
      rest-none none some = go r.rest r.leads r.count
        where
          go : (rest : List A) → Leads next at rest end → length rest ≡ left → ⊥
          go [] leads count = absurd (omega (arith, count, some))
          go (x ∷ xs) leads count = absurd (let h : Some leads.1.0 ≡ None = sym leads.1.1 ∙ ap next (sym leads.0) ∙ none in cc)

      -- the way is over
      pub rest-over : (0 < left → ⊥) → false ≡ met way q
      rest-over none = go r.rest r.count ∙ sym r.same
        where
          go : (rest : List A) → length rest ≡ left → false ≡ met rest q
          go [] count = refl
          go (x ∷ xs) count = absurd (none (omega (arith, count)))
