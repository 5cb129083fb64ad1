-- Comparing written ids one after the other, as a loop does.
use Rattle.std.proofs.Common.{◌≡◌, ℕ, suc, ◌-◌, ◌+◌, ◌<◌, ◌≤◌, Bool, true, false, cond, List, ◌∷◌, length, get_or, drop, drop-cons, add-one, Some, None, Result, Ok, Err, sym, ap, ◌∙◌, arith}
use Rattle.fetch_base.specs.declared.id.Kind.{Kind}
use Rattle.fetch_base.specs.declared.id.ObjectId.{ObjectId}
use Rattle.fetch_base.specs.Id.{id_of_bytes}
use Rattle.fetch_pack.specs.declared.error.PackError.{PackError}
use Rattle.fetch_pack.specs.declared.error.PackError.TheVariants.{IdMismatch}
use Rattle.fetch_pack.specs.declared.version.PackVersion.TheVariants.{V2}
use Rattle.fetch_pack.specs.Records.{Written, Records, records, record_at}
use Rattle.fetch_pack.specs.Reading.{is_id, compared}
use Rattle.fetch_pack.proofs.Steps.{records_step, records_end}

abbrev Answer : Type 0
Answer = Result (Unit {0}) PackError

-- the comparisons of the ids from one on
abbrev pub compared_from : Kind → ℕ → List ObjectId → List ℕ → Answer
compared_from hash i ids bytes = compared hash (records V2 hash (length ids - i) bytes).written (drop i ids)

from : (ids : List ObjectId) (i : ℕ) (id d : ObjectId) → i < length ids → id ≡ get_or ids i d → drop i ids ≡ id ∷ drop (i + 1) ids
from ids i id d lt is = rw (add-one) (drop-cons ids i d lt ∙ ap (λ (x : ObjectId). x ∷ drop (suc i) ids) (sym is))

step : (hash : Kind) (ids : List ObjectId) (i : ℕ) (id d : ObjectId) (bytes : List ℕ) (x : Written × List ℕ) → i < length ids → id ≡ get_or ids i d → record_at V2 hash bytes ≡ Some x
    → compared_from hash i ids bytes ≡ cond (is_id (id_of_bytes hash x.0.id) id) (compared_from hash (i + 1) ids x.1) (Err (IdMismatch (id_of_bytes hash x.0.id) id))
step hash ids i id d bytes x lt item is =
    ap (λ (r : Records). compared hash r.written (drop i ids)) (records_step V2 hash (length ids) i bytes x lt is)
    ∙ ap (compared hash (x.0 ∷ (records V2 hash (length ids - (i + 1)) x.1).written)) (from ids i id d lt item)

pub goes_on : (hash : Kind) (ids : List ObjectId) (i : ℕ) (id d : ObjectId) (bytes : List ℕ) (x : Written × List ℕ) (total : Answer) → i < length ids → id ≡ get_or ids i d → record_at V2 hash bytes ≡ Some x
    → is_id (id_of_bytes hash x.0.id) id ≡ true → compared_from hash i ids bytes ≡ total → compared_from hash (i + 1) ids x.1 ≡ total
goes_on hash ids i id d bytes x total lt item is same so_far =
    sym (step hash ids i id d bytes x lt item is ∙ ap (λ (b : Bool). cond b (compared_from hash (i + 1) ids x.1) (Err (IdMismatch (id_of_bytes hash x.0.id) id))) same) ∙ so_far

pub differs : (hash : Kind) (ids : List ObjectId) (i : ℕ) (id d : ObjectId) (bytes : List ℕ) (x : Written × List ℕ) (total : Answer) → i < length ids → id ≡ get_or ids i d → record_at V2 hash bytes ≡ Some x
    → is_id (id_of_bytes hash x.0.id) id ≡ false → compared_from hash i ids bytes ≡ total → total ≡ Err (IdMismatch (id_of_bytes hash x.0.id) id)
differs hash ids i id d bytes x total lt item is other so_far =
    sym so_far ∙ step hash ids i id d bytes x lt item is ∙ ap (λ (b : Bool). cond b (compared_from hash (i + 1) ids x.1) (Err (IdMismatch (id_of_bytes hash x.0.id) id))) other

pub is_short : (hash : Kind) (ids : List ObjectId) (i : ℕ) (bytes : List ℕ) (total : Answer) → i < length ids → record_at V2 hash bytes ≡ None → compared_from hash i ids bytes ≡ total → total ≡ Ok tt
is_short hash ids i bytes total lt is so_far = sym so_far ∙ ap (λ (r : Records). compared hash r.written (drop i ids)) (records_end V2 hash (length ids) i bytes lt is)

pub is_done : (hash : Kind) (ids : List ObjectId) (i : ℕ) (bytes : List ℕ) (total : Answer) → length ids ≤ i → compared_from hash i ids bytes ≡ total → total ≡ Ok tt
is_done hash ids i bytes total le so_far =
    let n : length ids - i ≡ 0 = omega arith in
    sym so_far ∙ ap (λ (m : ℕ). compared hash (records V2 hash m bytes).written (drop i ids)) n
