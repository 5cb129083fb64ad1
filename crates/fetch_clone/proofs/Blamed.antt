-- Who is blamed by a part of a listing, and so by the whole.
use Rattle.std.proofs.Common.{◌≡◌, ◌≤◌, ◌+◌, ℕ, Result, Ok, Err, refl, ap, arith}
use Rattle.fetch_base.specs.Faults.{Faults, Counts, Rose, Counts-none, Counts-then}
use Rattle.fetch_conversation.specs.declared.prepare.Error.{Error as PrepareError}
use Rattle.fetch_conversation.specs.declared.prepare.Error.TheVariants as prepare
use Rattle.fetch_remote.specs.declared.connect.Error.{Error as ConnectError}
use Rattle.fetch_remote.specs.declared.connect.Error.TheVariants as connect
use Rattle.fetch_clone.specs.Blame.{BlamesMaker, BlamesStop, LentMaker}
use Rattle.fetch_init.specs.declared.clone.fetch.Error.{Error}
use Rattle.fetch_init.specs.declared.clone.fetch.Error.TheVariants as errors
use Rattle.fetch_init.specs.Refusals.{connecting, preparing}
use Rattle.fetch_clone.proofs.Heeded.{says-none}

-- ---- where nobody was asked

pub maker-still : {C T : Type 0} (seen : C → LentMaker) (m : C) (told : Error) (x : T) → BlamesMaker seen m m (seen m).out told (Ok x)
maker-still seen m told x = record { counts = Counts-none (seen m).faults; out_is = refl; lost = omega arith; cause = λ is. absurd (cc) }

pub stop-still : {I T : Type 0} (said : I → Faults) (will : I → ℕ → Type 0) (i : I) (told : Error) (x : T) → BlamesStop said will i i told (Ok x)
stop-still said will i told x = record { counts = Counts-none (said i); cause = λ is. absurd (cc); quiet = refl; noes = says-none (will i) }

pub maker-unlent : (T : Type 0) {C : Type 0} (seen : C → LentMaker) (m : C) (told e : Error) → (e ≡ told → ⊥) → BlamesMaker {T = T} seen m m (seen m).out told (Err e)
maker-unlent T seen m told e other = record { counts = Counts-none (seen m).faults; out_is = refl; lost = omega arith; cause = λ is. (let same : e ≡ told = cc in absurd (other same)) }

pub stop-unlent : (T : Type 0) {I : Type 0} (said : I → Faults) (will : I → ℕ → Type 0) (i : I) (told e : Error) → (e ≡ told → ⊥) → BlamesStop {T = T} said will i i told (Err e)
stop-unlent T said will i told e other = record { counts = Counts-none (said i); cause = λ is. (let same : e ≡ told = cc in absurd (other same)); quiet = tt; noes = tt }

-- ---- the same of another answer

pub maker-done : (U : Type 0) {C T : Type 0} (seen : C → LentMaker) (old new : C) (out : ℕ) (told : Error) (x : T) (y : U) → BlamesMaker seen old new out told (Ok x) → BlamesMaker seen old new out told (Ok y)
maker-done U seen old new out told x y h = record { counts = h.counts; out_is = h.out_is; lost = h.lost; cause = λ is. absurd (cc) }

pub stop-done : (U : Type 0) {I T : Type 0} (said : I → Faults) (will : I → ℕ → Type 0) (old new : I) (told : Error) (x : T) (y : U) → BlamesStop said will old new told (Ok x) → BlamesStop said will old new told (Ok y)
stop-done U said will old new told x y h = record { counts = h.counts; cause = λ is. absurd (cc); quiet = h.quiet; noes = h.noes }

pub maker-refused : (T U : Type 0) {C : Type 0} (seen : C → LentMaker) (old new : C) (out : ℕ) (told e : Error) → BlamesMaker {T = T} seen old new out told (Err e) → BlamesMaker {T = U} seen old new out told (Err e)
maker-refused T U seen old new out told e h = record { counts = h.counts; out_is = h.out_is; lost = h.lost; cause = λ is. (let same : e ≡ told = cc in h.cause (ap (λ x. Err x) same)) }

pub stop-refused : (T U : Type 0) {I : Type 0} (said : I → Faults) (will : I → ℕ → Type 0) (old new : I) (told e : Error) → BlamesStop {T = T} said will old new told (Err e) → BlamesStop {T = U} said will old new told (Err e)
stop-refused T U said will old new told e h = record { counts = h.counts; cause = λ is. (let same : e ≡ told = cc in h.cause (ap (λ x. Err x) same)); quiet = tt; noes = tt }

-- ---- what is told

pub is-preparing : (e cause : PrepareError) → preparing e ≡ errors.PrepareFetch cause → e ≡ cause
is-preparing prepare.MissingRefSpecs cause h = cc
is-preparing (prepare.RefMap x) cause h = cc
is-preparing prepare.NoMemory cause h = absurd cc

pub not-preparing : (e : ConnectError) (cause : PrepareError) → connecting e ≡ errors.PrepareFetch cause → ⊥
not-preparing (connect.MissingUrl x) cause h = cc
not-preparing connect.Connect cause h = cc
not-preparing connect.NoMemory cause h = cc
