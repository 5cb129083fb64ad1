-- Why a race as a whole is refused: as the repository is shared, or out of memory.
use Rattle.std.proofs.Common.{◌≡◌, Option, Some, None, Result, Ok, Err, ap, ◌∙◌}
use Rattle.std.specs.Prelude.{MatchOption, IsOkUnless}
use Rattle.fetch_store.specs.declared.missing.Missing.{Missing}
use Rattle.fetch_journal.specs.declared.error.SharedError.{SharedError}
use Rattle.fetch_journal.specs.declared.error.SharedError.TheVariants as errors

abbrev IsOf : {X : Type 0} → Option Missing → Result X SharedError → Type 0
IsOf {X} o r = MatchOption o (IsOkUnless r errors.NoMemory) (λ link. r ≡ Err (errors.NotClosed link))

abbrev err : {X : Type 0} → SharedError → Result X SharedError
err e = Err e

-- what was shared is closed
pub shared : {X Y : Type 0} (o : Option Missing) (x : X) (new : Result X SharedError) (r : Result Y SharedError) → new ≡ Ok x → IsOf o new → IsOkUnless r errors.NoMemory → IsOf o r
shared None x new r is h done = done
shared (Some link) x new r is h done = absurd (cc (is, h))

pub shared_ok : {X Y : Type 0} (o : Option Missing) (x : X) (y : Y) (new : Result X SharedError) → new ≡ Ok x → IsOf o new → IsOf {X = Y} o (Ok y)
shared_ok o x y new is h = shared o x new (Ok y) is h tt

-- what was refused is refused so
pub refused : {X Y : Type 0} (o : Option Missing) (e : SharedError) (new : Result X SharedError) (r : Result Y SharedError) → new ≡ Err e → r ≡ Err e → IsOf o new → IsOf o r
refused None e (Ok x) r is same h = absurd (cc (is))
refused None e (Err other) (Ok y) is same h = absurd (cc (same))
refused None e (Err other) (Err mine) is same h = let one : mine ≡ other = cc (is, same) in one ∙ h
refused {X} {Y} (Some link) e new r is same h = let it : e ≡ errors.NotClosed link = cc (is, h) in same ∙ ap (err {X = Y}) it
