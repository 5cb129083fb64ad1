-- The table as it is made keeps the rule, and its first view holds every number.
use Rattle.std.proofs.Common.{◌≡◌, ℕ, zero, suc, ◌<◌, List, [], ◌∷◌, map, Option, Some, refl, sym, ap, subst, arith}
use mathlib.Core.Option.{some, some-injective, some-ne-none}
use lib.ListN.{get_elem?}
use Rattle.atomic_table.specs.Table as table
use Rattle.fetch_remote.specs.RepositoryValues.{RepositoryValue}
use Rattle.fetch_shared.specs.declared.view.View.{View}
use Rattle.fetch_shared.specs.Numbers.{span, Holds}
use Rattle.fetch_journal.specs.Shared.{SharedValue}
use Rattle.fetch_shared.specs.LockRule.{own, Knows, IsOrdered, newcomer}
use Rattle.fetch_shared.proofs.Held.{times_in-first, times_in-yes}
use Rattle.fetch_journal.proofs.Journals.{begins_self}

module _ (start : RepositoryValue) where
  knows_first : (seat : ℕ) → Knows start [] 0 0 seat (newcomer start)
  knows_first seat = record {
    opened = λ _. refl;
    sees = record { begins = begins_self []; complete = λ n h. refl };
    unused = λ n h u. refl;
    stage = tt;
  }

  each_first : (seat : ℕ) (v : View) → get_elem? (newcomer start ∷ []) seat ≡ some v → Knows start [] 0 0 seat v
  each_first zero v at = subst (Knows start [] 0 0 0) (some-injective (newcomer start) v at) (knows_first 0)
  each_first (suc seat) v at = absurd (some-ne-none v (sym at))

  pub starts : (a : SharedValue) (items : List (Option SharedValue)) → items ≡ Some a ∷ [] → a.journal ≡ [] → a.opening ≡ start → IsOrdered start (table.opening (0 ∷ 0 ∷ []) items (newcomer start))
  starts a items is journal opening = record {
    journal = [];
    turn = 0;
    holder = 0;
    stands = record { words_are = refl; turns = omega arith; home = λ _. (a, ap (map some) is, journal, opening); away = λ one. absurd (omega arith) };
    has_turn = λ one. absurd (omega arith);
    each_seat = each_first;
    numbers = λ n. let all = times_in-first n 18446744073709551615 (omega arith) in omega arith;
    numbered = λ k e l. absurd (omega arith);
  }

  pub holds_all : (n : ℕ) → n < 18446744073709551615 → Holds (own (newcomer start)) n
  holds_all n low =
      let all = times_in-first n 18446744073709551615 (omega arith) in let one = times_in-yes n (span 0 18446744073709551615) (omega arith) low in
      omega arith
