-- Learning, settling, splitting and joining keep the rule of the table.
use Rattle.std.proofs.Common.{◌≡◌, ℕ, ◌+◌, ◌≤◌, List, [], ◌∷◌, ◌++◌, length, get_or, set, sym, refl, ap, ◌∙◌, subst, ⊎_elim, inl, inr, ◌⊎◌, arith, Option}
use Rattle.std.proofs.lemmas.List.{append-nil}
use mathlib.Core.Logic.{dite}
use mathlib.Core.Option.{some, none}
use native.Mathlib.Decide.{ℕ_discrete, dec_le}
use lib.ListN.{get_elem?}
use lib.Seq.{set-get_or}
use Rattle.atomic_table.specs.Table.{step, Act, keeps, Valid, carried_after, stepped, Allows, Splits, Joins}
use Rattle.atomic_table.proofs.Lists.{at_snoc, at_longer, set_else}
use Rattle.fetch_journal.specs.declared.entry.Entry.{Entry}
use Rattle.fetch_shared.specs.declared.view.Span.{Span}
use Rattle.fetch_shared.specs.declared.view.View.{View}
use Rattle.fetch_shared.specs.declared.view.Stage.{Stage}
use Rattle.fetch_shared.specs.declared.view.Stage.TheVariants.{Resting, Joined}
use Rattle.fetch_journal.specs.Journals.{Begins, entries_of}
use Rattle.fetch_shared.specs.Numbers.{times_in, times_held, Holds}
use Rattle.fetch_shared.specs.LockRule.{own_at, own, joined_at, held_by, Sees, AtStage, IsLive, Knows, IsClear, Learns, Extends, settled, AreJoined, Settles, left_part, right_part, both_parts, spent}
use Rattle.fetch_journal.proofs.Journals.{begins_self, begins_shorter, begins_none, entries_between}
use Rattle.fetch_shared.proofs.Held.{times_in-cut, times_over-append, times_held-append, times_over-set, one_of}
use Rattle.fetch_shared.proofs.Views.{St, Seated, Rule, seats_stay, once, turn_stays, knows_at, changes, unchanged}
use Rattle.fetch_remote.specs.RepositoryValues.{RepositoryValue}
use Rattle.fetch_journal.specs.Shared.{SharedValue}

module _ (start : RepositoryValue) where
  -- what the rule knows of a view by itself, told without a change
  clear : (s : St) (r : Rule start s) (id : ℕ) (v : View) → get_elem? s.views id ≡ some v → IsClear v
  clear s r id v at = let k = r.each_seat id v at in record {
    once = λ n. let one = once start s r n in let mine = one_of n s.views id v at in omega (arith, times_held-append n (own v) (joined_at v.stage));
    unused = λ n h u. begins_none n v.front r.journal k.sees.begins (k.unused n h u);
  }

  pub learns : (slots id : ℕ) (me : Seated) → Allows (Rule start) slots id me 0 (λ n. n) (Learns (step slots 0 0 0 none) me)
  learns slots id me s r _ at _ = (me.0, keeps, tt, unchanged start s r id 0 me.0 me.1 at, (refl, clear s r id me.0 at))

  -- a journal with all entries of either numbers has those of both
  sees_both : (journal : List Entry) (xs ys : List Span) (front left right : List Entry) → Begins left front → Begins right front → Begins front journal → Sees journal xs left → Sees journal ys right
      → Sees journal (xs ++ ys) front × Extends xs left front × Extends ys right front
  sees_both journal xs ys front left right p q all a b =
      let mine : (n : ℕ) → Holds xs n → entries_of n front ≡ entries_of n left = λ n h. entries_between n left front journal p all (a.complete n h) in
      let other : (n : ℕ) → Holds ys n → entries_of n front ≡ entries_of n right = λ n h. entries_between n right front journal q all (b.complete n h) in (
        record {
          begins = all;
          complete = λ n h. dite (ℕ_discrete (times_held n xs) 0)
              (λ zero_times. let there : Holds ys n = omega (arith, times_held-append n xs ys) in b.complete n there ∙ sym (other n there))
              (λ more. let here : Holds xs n = omega arith in a.complete n here ∙ sym (mine n here));
        },
        record { begins = p; same = mine },
        record { begins = q; same = other },
      )

  settle_at : (s : St) (r : Rule start s) (id : ℕ) (v : View) (held : List Span) (front longer : List Entry) → get_elem? s.views id ≡ some v → v.stage ≡ Joined held front
      → Begins v.front longer → Begins front longer → Begins longer r.journal
      → Rule start record { words = s.words; homes = s.homes; views = set s.views id (settled v held longer) } × Extends (own v) v.front longer × Extends held front longer
  settle_at s r id v held front longer at is p q all =
      let k = r.each_seat id v at in let w : View = settled v held longer in
      let own_is : own v ≡ own_at v Resting = ap (own_at v) is in
      let joined : Sees r.journal held front = subst (AtStage r.journal r.turn r.holder id) is k.stage in
      let both = sees_both r.journal (own v) held longer v.front front p q all k.sees joined in
      let own_both : own v ++ held ≡ own w = ap (λ (xs : List Span). xs ++ held) own_is in (
        changes start s r id v w s.words s.homes r.journal r.turn r.holder at r.stands
            (λ one. turn_stays s.views r.journal r.holder id v w at (λ kept e. cc (is, e)) (r.has_turn one))
            (append-nil (own w) ∙ (sym own_both ∙ ap (λ xs. own v ++ xs) (sym (ap joined_at is))))
            (record {
              opened = λ _. k.opened (subst IsLive (sym is) tt);
              sees = subst (λ (xs : List Span). Sees r.journal xs longer) own_both both.0;
              unused = λ n h u. k.unused n (subst (λ (xs : List Span). Holds xs n) (sym own_is) (omega arith)) u;
              stage = tt;
            })
            (λ seat u other there. r.each_seat seat u there) r.numbered,
        both.1,
        both.2,
      )

  -- what was taken in, or d
  abbrev joined_or : List Span × List Entry → Stage → List Span × List Entry
  joined_or d (Joined held front) = (held, front)
  joined_or d _ = d

  pub settles : (slots id : ℕ) (me : Seated) (held : List Span) (front : List Entry) → me.0.stage ≡ Joined held front → Allows (Rule start) slots id me 0 (λ n. n) (Settles (step slots 0 0 0 none) me)
  settles slots id me held front is s r _ at _ = let v : View = me.0 in let k = r.each_seat id v at in
      let joined : Sees r.journal held front = subst (AtStage r.journal r.turn r.holder id) is k.stage in
      let done : (longer : List Entry) → Begins v.front longer → Begins front longer → Begins longer r.journal → (longer ≡ v.front) ⊎ (longer ≡ front)
      → (w : View) × (a : Act (Option SharedValue)) × Valid s.homes me.1 a × Rule start (stepped s 0 (get_or s.words 0 0) id me.1 w a) × Settles (step slots 0 0 0 none) me (get_or s.words 0 0) (w, carried_after me.1 a)
      = λ longer p q all one. let t = settle_at s r id v held front longer at is p q all in (
        settled v held longer,
        keeps,
        tt,
        subst (λ (ws : List ℕ). Rule start record { words = ws; homes = s.homes; views = set s.views id (settled v held longer) }) (sym (set-get_or s.words 0 0)) t.0,
        λ held' front' is'. subst (λ (x : List Span × List Entry). AreJoined me (settled v held longer, me.1) x.0 x.1) (ap (joined_or (held, front)) (sym is ∙ is')) (longer, refl, t.1, t.2, one),
      ) in
      dite (dec_le (length v.front) (length front))
      (λ le. done front (begins_shorter v.front front r.journal k.sees.begins joined.begins le) (begins_self front) joined.begins (inr refl))
      (λ more. done v.front (begins_self v.front) (begins_shorter front v.front r.journal joined.begins k.sees.begins (omega arith)) k.sees.begins (inl refl))

  -- a seat without the turn holds its own numbers alone
  own_held : (n : ℕ) (v : View) → v.stage ≡ Resting → times_held n (held_by v) ≡ times_held n (own v)
  own_held n v is =
      let e : joined_at v.stage ≡ [] = ap joined_at is in ap (λ (held : List Span). times_held n (own v ++ held)) e ∙ ap (times_held n) (append-nil (own v))

  module _ (id : ℕ) (v : View) (count : ℕ) (is : v.stage ≡ Resting) (more : 1 ≤ count) (room : v.unused.first + count ≤ v.unused.end) where
    abbrev left : View
    left = left_part count v

    abbrev right : View
    right = right_part count v

    -- each number goes to one of the two
    pub parts : (n : ℕ) → times_held n (own left) + times_held n (own right) ≡ times_held n (own v)
    parts n = let cut = times_in-cut n v.unused.first count v.unused.end more room in
        let left_is : own left ≡ own_at left Resting = ap (own_at left) is in let own_is : own v ≡ own_at v Resting = ap (own_at v) is in
        let l : times_held n (own left) ≡ times_held n (own_at left Resting) = ap (times_held n) left_is in
        let o : times_held n (own v) ≡ times_held n (own_at v Resting) = ap (times_held n) own_is in omega arith

    -- what goes to the right was unused
    pub right_unused : (n : ℕ) → times_held n (own right) ≤ times_in n v.unused
    right_unused n = let cut = times_in-cut n v.unused.first count v.unused.end more room in omega arith

    pub splits : Splits (Rule start) id v left right
    splits s r at = let k = r.each_seat id v at in let K = Knows start r.journal r.turn r.holder in
        let none_yet : (n : ℕ) → Holds (own right) n → entries_of n r.journal ≡ [] = λ n h. let p = parts n in
        let u = right_unused n in k.unused n (omega arith) (omega arith) in record {
          journal = r.journal;
          turn = r.turn;
          holder = r.holder;
          stands = r.stands;
          has_turn = λ one. let h = turn_stays s.views r.journal r.holder id v left at (λ kept e. cc (is, e)) (r.has_turn one) in (h.0, at_longer (set s.views id left) (right ∷ []) r.holder h.0 h.1, h.2);
          each_seat = λ seat u there. ⊎_elim
              (seats_stay K s.views id left (record {
                opened = k.opened;
                sees = record { begins = k.sees.begins; complete = λ n h. let p = parts n in k.sees.complete n (omega arith) };
                unused = λ n h u. let p = parts n in
                    let cut = times_in-cut n v.unused.first count v.unused.end more room in k.unused n (omega arith) (omega arith);
                stage = k.stage;
              }) (λ j x _. r.each_seat j x) seat u)
              (λ (t : right ≡ u). subst (K seat) t (record {
                opened = λ _. k.opened (subst IsLive (sym is) tt);
                sees = record { begins = k.sees.begins; complete = λ n h. none_yet n h ∙ sym (begins_none n v.front r.journal k.sees.begins (none_yet n h)) };
                unused = λ n h u. none_yet n h;
                stage = tt;
              }))
              (at_snoc (set s.views id left) right u seat there);
          numbers = λ n. let p = parts n in
              let was = r.numbers n in omega (arith, times_over-append n (set s.views id left) right, times_over-set n s.views id v left at, own_held n v is, own_held n left is, own_held n right refl);
          numbered = r.numbered;
        }

  pub joins : (id : ℕ) (v : View) (other : ℕ) (w : View) → v.stage ≡ Resting → w.stage ≡ Resting → Joins (Rule start) id v other w (both_parts v w) spent
  joins id v other w is is' s r at apart there =
      let k = r.each_seat id v at in
      let K = Knows start r.journal r.turn r.holder in
      let both : View = both_parts v w in
      let vs : List View = set s.views id both in
      let there' : get_elem? s.views other ≡ some w = sym (set_else s.views id other both apart) ∙ there in
      let own_is : own v ≡ own both = ap (own_at v) is in record {
        journal = r.journal;
        turn = r.turn;
        holder = r.holder;
        stands = r.stands;
        has_turn = λ one. turn_stays vs r.journal r.holder other w spent there (λ kept e. cc (is', e)) (turn_stays s.views r.journal r.holder id v both at (λ kept e. cc (is, e)) (r.has_turn one));
        each_seat = seats_stay K vs other spent (record {
          opened = λ live. absurd live;
          sees = record { begins = record { rest = r.journal; is = refl }; complete = λ n h. absurd (omega arith) };
          unused = λ n h u. absurd (omega arith);
          stage = tt;
        }) (λ j x _. seats_stay K s.views id both
            (knows_at start r.journal r.turn r.holder r.turn r.holder id v both (subst IsLive (sym is) tt) own_is refl refl refl k (r.each_seat other w there').sees) (λ i y _. r.each_seat i y) j x);
        numbers = λ n. let was = r.numbers n in let same : times_held n (own v) ≡ times_held n (own both) = ap (times_held n) own_is in
            omega (arith, times_over-set n s.views id v both at, times_over-set n vs other w spent there, own_held n v is, own_held n w is', times_held-append n (own both) (own w));
        numbered = r.numbered;
      }
