-- Trying, loading, recording and releasing keep the rule of the table.
use Rattle.std.proofs.Common.{◌≡◌, ◌≢◌, ℕ, ◌+◌, ◌%◌, ◌^◌, ◌<◌, ◌≤◌, ◌==◌, List, [], ◌∷◌, ◌++◌, length, get_or, set, sym, refl, ap, ◌∙◌, subst, arith, eq-eqb, ne_eqb, Option, Some, length-append}
use Rattle.std.specs.Option.{unwrap_or}
use Rattle.std.proofs.Math.Nat.{mod-eq_of_lt}
use Rattle.std.proofs.lemmas.List.Elements.{All-append}
use mathlib.Core.Logic.{dite}
use mathlib.Core.Option.{some, none}
use native.Mathlib.Decide.{ℕ_discrete}
use lib.ListN.{get_elem?}
use lib.Seq.{set-get_or}
use prog.Atomic.{either}
use Rattle.atomic_table.specs.Table.{step, keeps, takes, gives, put_back, rest, stepped, Allows}
use Rattle.fetch_journal.specs.declared.entry.Entry.{Entry}
use Rattle.fetch_shared.specs.declared.view.Span.{Span}
use Rattle.fetch_shared.specs.declared.view.View.{View}
use Rattle.fetch_shared.specs.declared.view.Stage.{Stage}
use Rattle.fetch_shared.specs.declared.view.Stage.TheVariants.{Resting, Turn}
use Rattle.fetch_journal.specs.Journals.{Begins, entries_of, pass_of}
use Rattle.fetch_shared.specs.Numbers.{span, times_in, times_held, Holds}
use Rattle.fetch_shared.specs.LockRule.{own_at, own, joined_at, held_by, NUMBERS, AtStage, IsLive, turning, resting, Tries, Finds, Loads, Records, Releases}
use Rattle.fetch_journal.proofs.Journals.{begins_self, entries_of-other, all_one}
use Rattle.fetch_shared.proofs.Held.{times_in-here, in_range, times_held-append, one_of, two_of}
use Rattle.fetch_shared.proofs.Views.{St, Seated, Rule, Homes, turn_moves, journal_grows, once, turn_is, knows_at, changes, unchanged}
use Rattle.fetch_remote.specs.RepositoryValues.{RepositoryValue}
use Rattle.fetch_journal.specs.Shared.{SharedValue}

module _ (start : RepositoryValue) where
  pub tries : (slots id : ℕ) (me : Seated) → me.0.stage ≡ Resting → Allows (Rule start) slots id me 0 (λ n. either (n == 0) 1 n) (Tries (step slots 0 0 1 none) me)
  tries slots id me is s r _ at _ =
      let v : View = me.0 in let found : get_or s.words 0 0 ≡ r.turn = ap (λ (ws : List ℕ). get_or ws 0 0) r.stands.words_are in
      dite (ℕ_discrete (get_or s.words 0 0) 0)
      (λ free. let home = r.stands.home (sym found ∙ free) in
      let a : SharedValue = home.0 in
      let w : View = record v { stage = Turn a.journal } in
      let k = r.each_seat id v at in
      let own_is : own v ≡ own w = ap (own_at v) is in
      let live : IsLive v.stage = subst IsLive (sym is) tt in
      let opened : v.opening ≡ start = k.opened live in (
        w,
        takes 0 (Some a),
        ap (λ (hs : Homes). get_elem? hs 0) home.1,
        subst (λ b. Rule start (stepped s 0 (either b 1 (get_or s.words 0 0)) id me.1 w (takes 0 (Some a)))) (sym (eq-eqb (get_or s.words 0 0) 0 free))
            (changes start s r id v w (set s.words 0 1) (set s.homes 0 none) r.journal 1 id at
            (record {
              words_are = ap (λ (ws : List ℕ). set ws 0 1) r.stands.words_are;
              turns = omega arith;
              home = λ z. absurd (omega arith);
              away = λ _. ap (λ (hs : Homes). set hs 0 none) home.1;
            })
            (λ _. turn_is s.views r.journal id id v w at refl (ap Turn home.2))
            (sym (ap (λ (st : Stage). own_at v st ++ joined_at st) is))
            (knows_at start r.journal r.turn r.holder 1 id id v w live own_is refl refl refl k (refl, refl, home.2))
            (λ seat u other there. turn_moves start r.journal r.turn r.holder 1 id seat u (λ one. absurd (omega arith)) (r.each_seat seat u there))
            r.numbered),
        ((λ _. (a, refl, home.3 ∙ sym opened)), λ busy. absurd (busy free)),
      ))
      (λ busy. (
        v,
        keeps,
        tt,
        subst (λ b. Rule start (stepped s 0 (either b 1 (get_or s.words 0 0)) id me.1 v keeps)) (sym (ne_eqb (get_or s.words 0 0) 0 busy)) (unchanged start s r id 0 v me.1 at),
        ((λ free. absurd (busy free)), λ _. refl),
      ))

  -- a seat that has the turn keeps the journal
  has_turn : (s : St) (r : Rule start s) (id : ℕ) (v : View) (kept : List Entry) → get_elem? s.views id ≡ some v → v.stage ≡ Turn kept → (r.turn ≡ 1) × (id ≡ r.holder) × (kept ≡ r.journal)
  has_turn s r id v kept at is = subst (AtStage r.journal r.turn r.holder id) is (r.each_seat id v at).stage

  pub loads : (slots id : ℕ) (me : Seated) (kept : List Entry) → me.0.stage ≡ Turn kept → Allows (Rule start) slots id me 1 (λ n. n) (Loads (step slots 1 0 0 none) me)
  loads slots id me kept is s r _ at _ =
      let v : View = me.0 in let w : View = turning v r.journal in let k = r.each_seat id v at in let t = has_turn s r id v kept at is in
      let found : get_or s.words 1 0 ≡ length r.journal = ap (λ (ws : List ℕ). get_or ws 1 0) r.stands.words_are in
      let own_is : own v ≡ own w = ap (own_at v) is in (
        w,
        keeps,
        tt,
        changes start s r id v w (set s.words 1 (get_or s.words 1 0)) s.homes r.journal r.turn r.holder at
            (record { words_are = set-get_or s.words 1 0 ∙ r.stands.words_are; turns = r.stands.turns; home = r.stands.home; away = r.stands.away })
            (λ _. turn_is s.views r.journal r.holder id v w at t.1 refl)
            (sym (ap (λ (st : Stage). own_at v st ++ joined_at st) is))
            (record {
              opened = λ _. k.opened (subst IsLive (sym is) tt);
              sees = record { begins = begins_self r.journal; complete = λ n h. refl };
              unused = λ n h. k.unused n (subst (λ (held : List Span). Holds held n) (sym own_is) h);
              stage = (t.0, t.1, refl);
            })
            (λ seat u other there. r.each_seat seat u there) r.numbered,
        λ kept' is'. let same : r.journal ≡ kept' = sym (has_turn s r id v kept' at is').2 in
            (ap (λ (j : List Entry). (turning v j, me.1)) same, found ∙ ap length same, subst (Finds v) same (record { sees = k.sees; numbered = r.numbered })),
      )

  -- the state in a seat's hand, or d
  abbrev in_hand : SharedValue → List (ℕ × Option SharedValue) → SharedValue
  in_hand d [] = d
  in_hand d (x ∷ xs) = unwrap_or x.1 d

  pub records : (slots id : ℕ) (me : Seated) (a : SharedValue) (e : Entry) → me.0.stage ≡ Turn me.0.front → me.1 ≡ (0, Some a) ∷ [] → a.journal ≡ me.0.front ++ e ∷ [] → pass_of e ≡ me.0.number
      → length a.journal < 2 ^ 64 → Allows (Rule start) slots id me 1 (λ n. (n + 1) % 2 ^ 64) (Records (step slots 1 1 0 none) me)
  records slots id me a e is carried grown named room s r _ at _ =
      let v : View = me.0 in let p : ℕ = pass_of e in let w : View = turning v a.journal in let k = r.each_seat id v at in
      let t = has_turn s r id v v.front at is in let journal : List Entry = r.journal ++ e ∷ [] in
      let all : a.journal ≡ journal = grown ∙ ap (λ (j : List Entry). j ++ e ∷ []) t.2 in
      let found : get_or s.words 1 0 ≡ length r.journal = ap (λ (ws : List ℕ). get_or ws 1 0) r.stands.words_are in
      let longer : length journal ≡ length r.journal + 1 = length-append r.journal (e ∷ []) in
      let fits : length journal < 2 ^ 64 = subst (λ (j : List Entry). length j < 2 ^ 64) all room in
      let next : (get_or s.words 1 0 + 1) % 2 ^ 64 ≡ length journal = ap (λ (n : ℕ). (n + 1) % 2 ^ 64) found ∙ (ap (λ (n : ℕ). n % 2 ^ 64) (sym longer) ∙ mod-eq_of_lt fits) in
      let own_is : own v ≡ own w = ap (own_at v) is in let held_is : held_by v ≡ held_by w = ap (λ (st : Stage). own_at v st ++ joined_at st) is in
      let here : times_in p (span v.number (v.number + 1)) ≡ 1 = subst (λ (n : ℕ). times_in n (span v.number (v.number + 1)) ≡ 1) (sym named) (times_in-here v.number) in
      let mine : 1 ≤ times_held p (held_by v) = subst (λ (held : List Span). 1 ≤ times_held p held) (sym held_is) (omega (arith, times_held-append p (own w) [])) in
      let one = once start s r p in let mine_alone : times_held p (held_by v) ≤ 1 = omega (arith, one_of p s.views id v at) in
      let is_number = r.numbers p in let inside = one_of p s.views id v at in let low = (in_range p NUMBERS (omega arith)).1 in (
        w,
        keeps,
        tt,
        changes start s r id v w (set s.words 1 ((get_or s.words 1 0 + 1) % 2 ^ 64)) s.homes journal r.turn r.holder at
            (record {
              words_are = ap (λ (ws : List ℕ). set ws 1 ((get_or s.words 1 0 + 1) % 2 ^ 64)) r.stands.words_are ∙ ap (λ (n : ℕ). r.turn ∷ n ∷ []) next;
              turns = r.stands.turns;
              home = λ free. absurd (omega arith);
              away = r.stands.away;
            })
            (λ _. turn_is s.views journal r.holder id v w at t.1 (ap Turn all))
            (sym held_is)
            (record {
              opened = λ _. k.opened (subst IsLive (sym is) tt);
              sees = record { begins = subst (λ (j : List Entry). Begins j journal) (sym all) (begins_self journal); complete = λ n h. ap (entries_of n) (sym all) };
              unused = λ n h u. let other : p ≢ n = λ same. let in_both : times_in p v.unused ≡ times_in n v.unused = ap (λ (k : ℕ). times_in k v.unused) same in
                  let alone : times_held p (held_by w) ≤ 1 = subst (λ (held : List Span). times_held p held ≤ 1) held_is mine_alone in omega (arith, times_held-append p (own w) []) in
                  entries_of-other n e r.journal other ∙ k.unused n (subst (λ (held : List Span). Holds held n) (sym own_is) h) u;
              stage = (t.0, t.1, all);
            })
            (λ seat u other there. let two = two_of p s.views seat id u v other there at in
            journal_grows start r.journal e r.turn r.holder seat u (λ _ same. other (same ∙ sym t.1)) (omega arith) (r.each_seat seat u there))
            (All-append (λ e. pass_of e < 18446744073709551615) r.journal (e ∷ []) r.numbered (all_one e 18446744073709551615 low)),
        λ b carried'. let same : a ≡ b = ap (in_hand a) (sym carried ∙ carried') in (ap (λ (c : SharedValue). (turning v c.journal, me.1)) same, found ∙ ap length (sym t.2)),
      )

  pub releases : (slots id : ℕ) (me : Seated) (a : SharedValue) → me.0.stage ≡ Turn a.journal → me.1 ≡ (0, Some a) ∷ [] → a.opening ≡ me.0.opening → Allows (Rule start) slots id me 0 (λ _. 0) (Releases (step slots 0 0 0 none) me)
  releases slots id me a is carried same_opening s r _ at _ =
      let v : View = me.0 in let w : View = resting v in let k = r.each_seat id v at in let t = has_turn s r id v a.journal at is in
      let live : IsLive v.stage = subst IsLive (sym is) tt in
      let own_is : own v ≡ own w = ap (own_at v) is in (
        w,
        gives,
        tt,
        changes start s r id v w (set s.words 0 0) (put_back s.homes me.1) r.journal 0 id at
            (record {
              words_are = ap (λ (ws : List ℕ). set ws 0 0) r.stands.words_are;
              turns = omega arith;
              home = λ _. (a, ap (λ (cs : List (ℕ × Option SharedValue)). put_back s.homes cs) carried ∙ ap (λ (hs : Homes). set hs 0 (some (Some a))) (r.stands.away t.0), t.2, same_opening ∙ k.opened live);
              away = λ one. absurd (omega arith);
            })
            (λ one. absurd (omega arith))
            (sym (ap (λ (st : Stage). own_at v st ++ joined_at st) is))
            (knows_at start r.journal r.turn r.holder 0 id id v w live own_is refl refl refl k tt)
            (λ seat u other there. turn_moves start r.journal r.turn r.holder 0 id seat u (λ _ same. other (same ∙ sym t.1)) (r.each_seat seat u there)) r.numbered,
        ap (λ (cs : List (ℕ × Option SharedValue)). (w, rest cs)) carried,
      )
