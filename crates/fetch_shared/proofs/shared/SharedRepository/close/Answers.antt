use Rattle.std.proofs.Common.{◌≡◌, ℕ, ◌<◌, sym, ◌∙◌, subst}
use Rattle.fetch_shared.specs.Numbers.{Holds}
use Rattle.fetch_shared.specs.Passes.{Holder}
use Rattle.fetch_journal.proofs.Journals.{all_entries}
use Rattle.fetch_shared.proofs.shared.SharedRepository.close.Goals as goal

pub returns-clause-whole : goal.returns-clause-whole
returns-clause-whole g c = let found = c.take_turn.ensures.finds in
    let P : Holder → Type 0 = λ p. ((n : ℕ) → n < 18446744073709551615 → Holds p.held n) → c.into_parts.result.1.items ≡ p.front in
    subst P c.pass.view_is (λ all. c.into_parts.ensures.journal ∙ sym (all_entries _ _ 18446744073709551615 found.sees.begins found.numbered (λ n low. found.sees.complete n (all n low))))

pub returns-clause-numbered : goal.returns-clause-numbered
returns-clause-numbered g c = rw c.into_parts.ensures.journal c.take_turn.ensures.finds.numbered
