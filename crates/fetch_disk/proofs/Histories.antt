-- How what a crash may leave goes on with a call.
use Rattle.std.proofs.Common.{◌≡◌, ◌⊎◌, inl, inr, ℕ, List, ◌∷◌, length, Some, cond, refl, sym, ap, subst, ◌∙◌, arith}
use Rattle.std.specs.Prelude.{Result, Ok, Err}
use Rattle.std.specs.FinMap as map
use Rattle.std.specs.FinMap.{get-insert, get-remove}
use Rattle.std.specs.Cmp.{eq_by_cmp_equiv}
use Rattle.fetch_base.specs.Faults.{Faults}
use Rattle.fetch_base.specs.declared.id.ObjectId.{ObjectId}
use Rattle.fetch_base.proofs.Ids.{id_cmp_total}
use Rattle.fetch_disk.specs.Directory.{Packs, Directory}
use Rattle.fetch_disk.specs.Disk.{After, Elapses, HasCause, IsKept}
use Rattle.fetch_disk.specs.History.{packs_of, pack_after, Leaves, MayLeave, LeftSince}
use Rattle.fetch_disk.specs.declared.call.Call.{Call}
use Rattle.fetch_disk.specs.declared.call.Call.TheVariants as calls
use Rattle.fetch_disk.specs.declared.disk_error.DiskError.{DiskError}
use Rattle.fetch_disk.specs.declared.disk_error.DiskError.TheVariants as errors

-- a call that isn't done takes no time
pub elapses_same : (h k : List Call) → k ≡ h → Elapses (length h) (length k) (LeftSince h) (LeftSince k) (MayLeave k)
elapses_same h k is = record {
  later = omega (arith, ap length is);
  either = λ t l le left. inl (subst (λ (x : List Call). LeftSince x t l) is left);
  keeps = λ t l le left. subst (λ (x : List Call). LeftSince x t l) (sym is) left;
}

either_of : (h : List Call) (call : Call) (t : ℕ) (l : Directory) → LeftSince (call ∷ h) t l → LeftSince h t l ⊎ MayLeave (call ∷ h) l
either_of h call t l (inl now) = inr now
either_of h call t l (inr was) = inl was.1

elapses_cons : (h : List Call) (call : Call) → Elapses (length h) (length (call ∷ h)) (LeftSince h) (LeftSince (call ∷ h)) (MayLeave (call ∷ h))
elapses_cons h call = record {
  later = omega arith;
  either = λ t l le left. either_of h call t l left;
  keeps = λ t l le left. inr (le, left);
}

pub elapses_call : (h k : List Call) (call : Call) → k ≡ call ∷ h → Elapses (length h) (length k) (LeftSince h) (LeftSince k) (MayLeave k)
elapses_call h k call is = subst (λ (x : List Call). Elapses (length h) (length x) (LeftSince h) (LeftSince x) (MayLeave x)) (sym is) (elapses_cons h call)

-- what may be left behind a call that is remembered
pub leaves : (h k : List Call) (call : Call) → k ≡ call ∷ h → (l : Directory) → MayLeave k l → After (Leaves call) (MayLeave h) l
leaves h k call is l left = subst (λ (x : List Call). MayLeave x l) is left

pub stayed : (h k : List Call) → k ≡ h → (l : Directory) → MayLeave k l → MayLeave h l
stayed h k is l left = subst (λ (x : List Call). MayLeave x l) is left

-- ---- faults

pub cause_ok : {T U : Type 0} (before now : Faults) (r : Result T DiskError) (x : U) → HasCause before now r → HasCause before now (Ok x)
cause_ok before now r x h = record { counts = h.counts; failed = λ e. absurd cc; full = λ e. absurd cc }

pub cause_memory : {T U : Type 0} (before now : Faults) (r : Result T DiskError) (s : Result U DiskError) → HasCause before now r → s ≡ Err errors.NoMemory → HasCause before now s
cause_memory before now r s h is = record { counts = h.counts; failed = λ e. absurd cc; full = λ e. absurd cc }

-- ---- packs

pub kept_after_put : (h k : List Call) (name : ObjectId) (bytes : List ℕ) → k ≡ calls.Put name bytes ∷ h → IsKept name bytes (MayLeave k)
kept_after_put h k name bytes is l left =
    let a = leaves h k (calls.Put name bytes) is l left in
    ap (λ (m : Packs). map.get m name) a.2.0 ∙ get-insert id_cmp_total a.0.packs name bytes name ∙ ap (λ b. cond b (Some bytes) (map.get a.0.packs name)) ((eq_by_cmp_equiv id_cmp_total).refl name)

pub get_after : (call : Call) (h : List Call) (name : ObjectId) → map.get (packs_of (call ∷ h)) name ≡ pack_after call name (map.get (packs_of h) name)
get_after (calls.Write at bytes) h name = refl
get_after (calls.Cut len) h name = refl
get_after (calls.Sync bytes) h name = refl
get_after (calls.Replace bytes) h name = refl
get_after (calls.Put put bytes) h name = get-insert id_cmp_total (packs_of h) put bytes name
get_after (calls.Remove removed) h name = get-remove id_cmp_total (packs_of h) removed name
