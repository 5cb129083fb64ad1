-- Receipts.
use Rattle.std.specs.Prelude.{◌≡◌, ◌≤◌, ◌<◌, length, IfSome}
use Rattle.fetch_shared.specs.declared.receipt.Receipt.{Receipt}
use Rattle.fetch_shared.specs.Passes.{Holder}

-- Its places are in order, between what the pass had seen before and what it has seen since.
pub record IsReceipt (before after : Holder) (r : Receipt) : Type 0 where
  pub pass : r.pass ≡ before.number
  pub planned : IfSome r.planned (λ n. (length before.front ≤ n) × (n ≤ length after.front))
  pub judged : IfSome r.judged (λ n. IfSome r.planned (λ m. m ≤ n) × (n ≤ length after.front))
  pub place : IfSome r.place (λ n. IfSome r.judged (λ m. m ≤ n) × (n < length after.front))
