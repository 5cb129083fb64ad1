-- A record that is read is the record that was written, and what was written is read again.
use Rattle.std.proofs.Common.{◌≡◌, ℕ, zero, suc, ◌+◌, ◌^◌, ◌<◌, Bool, false, cond, ltb, List, [], ◌∷◌, ◌++◌, length, get_or, take, drop, Option, Some, None, refl, sym, ap, subst, ◌∙◌, append_assoc, arith, inl, inr}
use Rattle.std.specs.Int.{w32, w64, from_be_bytes, to_be_bytes}
use Rattle.std.specs.List.{flat_map, AllByRecursion}
use Rattle.std.specs.Option.{option_map_or}
use Rattle.std.proofs.lemmas.Bool.{cases_lt, le-ltb, lt-ltb}
use Rattle.std.proofs.lemmas.List.{take_at, drop_at, take-append-drop, length-append, length-take, get_or-drop, get_or-take, get_or_past}
use Rattle.std.proofs.lemmas.List.Concat.{flat_map-cons}
use Rattle.std.proofs.lemmas.Nat.{be_bytes_4, be_bytes_8, from_be_bytes-to_be_bytes_4, from_be_bytes-to_be_bytes_8}
use Rattle.fetch_base.specs.declared.id.Kind.{Kind}
use Rattle.fetch_base.specs.declared.object_kind.ObjectKind.{ObjectKind}
use Rattle.fetch_base.specs.declared.object_kind.ObjectKind.TheVariants.{Commit, Tree, Blob, Tag}
use Rattle.fetch_base.specs.Scan.{◌>>=◌}
use Rattle.fetch_pack.specs.declared.version.PackVersion.{PackVersion}
use Rattle.fetch_pack.specs.declared.version.PackVersion.TheVariants.{V1, V2}
use Rattle.fetch_pack.specs.Records.{Written, Records, onto, IsRecord, record_text, length_text, limit_of, id_len, code_of, kind_coded, cut, number_at, long_number_at, length_at, record_at, records}
use Rattle.fetch_pack.proofs.Steps.{IsCut, number_is, long_number_is, is_read, some_is}

abbrev pub IsBytes : List ℕ → Type 0
IsBytes bytes = (i : ℕ) → get_or bytes i 0 < 256

pub IsBytes-drop : (n : ℕ) (bytes : List ℕ) → IsBytes bytes → IsBytes (drop n bytes)
IsBytes-drop n bytes h i = rw get_or-drop (h (n + i))

IsBytes-take : (n : ℕ) (bytes : List ℕ) → IsBytes bytes → IsBytes (take n bytes)
IsBytes-take n bytes h i =
    elim (cases_lt i n) [
      | inl lt ↦ rw (get_or-take n bytes i 0 lt) (h i)
      | inr le ↦ rw (get_or_past (take n bytes) i 0 (omega (arith, length-take n bytes))) (omega arith)
    ]

IsBytes-rest : (b : ℕ) (bytes : List ℕ) → IsBytes (b ∷ bytes) → IsBytes bytes
IsBytes-rest b bytes h i = h (suc i)

-- what a reader took from the front
pub record Takes (bytes text rest : List ℕ) : Type 0 where
  pub parts : bytes ≡ text ++ rest
  pub rest_fits : IsBytes rest

pub Takes-then : (a x b y c : List ℕ) → Takes a x b → Takes b y c → Takes a (x ++ y) c
Takes-then a x b y c p q = record { parts = p.parts ∙ ap (λ (t : List ℕ). x ++ t) q.parts ∙ sym (append_assoc x y c); rest_fits = q.rest_fits }

cut_takes : (n : ℕ) (bytes front rest : List ℕ) → IsBytes bytes → IsCut n bytes (front, rest) → Takes bytes front rest
cut_takes n bytes front rest fits is = record {
  parts = sym (take-append-drop n bytes) ∙ ap (λ (t : List ℕ). t ++ drop n bytes) is.front ∙ ap (λ (t : List ℕ). front ++ t) is.rest;
  rest_fits = subst IsBytes is.rest (IsBytes-drop n bytes fits);
}

cut_again : (n : ℕ) (front rest : List ℕ) → n ≡ length front → cut n (front ++ rest) ≡ Some (front, rest)
cut_again n front rest is =
    let long : ltb (length (front ++ rest)) n ≡ false = le-ltb _ _ (omega (arith, is, length-append front rest)) in
    rw (long, take_at front rest n (sym is), drop_at front rest n (sym is)) refl

-- ---- numbers

pub number_takes : (bytes : List ℕ) (x : ℕ × List ℕ) → IsBytes bytes → number_at bytes ≡ Some x → Takes bytes (to_be_bytes w32 x.0) x.1 × (x.0 < 2 ^ 32)
number_takes bytes x fits e =
    let n = number_is bytes x e in
    let front : IsBytes n.front = subst IsBytes n.cuts.front (IsBytes-take 4 bytes fits) in
    let back : n.front ≡ to_be_bytes w32 x.0 = sym (be_bytes_4 n.front x.0 n.cuts.front_len front (sym n.number)) in
    let below : from_be_bytes w32 n.front < 2 ^ 32 = omega (arith, front 0, front 1, front 2, front 3) in
    (subst (λ (t : List ℕ). Takes bytes t x.1) back (cut_takes 4 bytes n.front x.1 fits n.cuts), rw (sym n.number) below)

long_number_takes : (bytes : List ℕ) (x : ℕ × List ℕ) → IsBytes bytes → long_number_at bytes ≡ Some x → Takes bytes (to_be_bytes w64 x.0) x.1 × (x.0 < 2 ^ 63)
long_number_takes bytes x fits e =
    let n = long_number_is bytes x e in
    let front : IsBytes n.0.front = subst IsBytes n.0.cuts.front (IsBytes-take 8 bytes fits) in
    let back : n.0.front ≡ to_be_bytes w64 x.0 = sym (be_bytes_8 n.0.front x.0 n.0.cuts.front_len front (sym n.0.number)) in
    (subst (λ (t : List ℕ). Takes bytes t x.1) back (cut_takes 8 bytes n.0.front x.1 fits n.0.cuts), n.1)

pub length_takes : (v : PackVersion) (bytes : List ℕ) (x : ℕ × List ℕ) → IsBytes bytes → length_at v bytes ≡ Some x → Takes bytes (length_text v x.0) x.1 × (x.0 < limit_of v)
length_takes V1 bytes x fits e = number_takes bytes x fits e
length_takes V2 bytes x fits e = long_number_takes bytes x fits e

pub number_again : (n : ℕ) (rest : List ℕ) → n < 2 ^ 32 → number_at (to_be_bytes w32 n ++ rest) ≡ Some (n, rest)
number_again n rest lt =
    ap (λ (o : Option (List ℕ × List ℕ)). o >>= λ front. Some (from_be_bytes w32 front.0, front.1)) (cut_again 4 (to_be_bytes w32 n) rest refl)
    ∙ ap (λ (m : ℕ). Some (m, rest)) (from_be_bytes-to_be_bytes_4 n lt)

long_number_again : (n : ℕ) (rest : List ℕ) → n < 2 ^ 63 → long_number_at (to_be_bytes w64 n ++ rest) ≡ Some (n, rest)
long_number_again n rest lt =
    ap (λ (o : Option (List ℕ × List ℕ)). o >>= λ front. cond (ltb (from_be_bytes w64 front.0) (2 ^ 63)) (Some (from_be_bytes w64 front.0, front.1)) None) (cut_again 8 (to_be_bytes w64 n) rest refl)
    ∙ ap (λ (m : ℕ). cond (ltb m (2 ^ 63)) (Some (m, rest)) None) (from_be_bytes-to_be_bytes_8 n (omega (arith, lt)))
    ∙ ap (λ (b : Bool). cond b (Some (n, rest)) None) (lt-ltb _ _ lt)

length_again : (v : PackVersion) (n : ℕ) (rest : List ℕ) → n < limit_of v → length_at v (length_text v n ++ rest) ≡ Some (n, rest)
length_again V1 n rest lt = number_again n rest lt
length_again V2 n rest lt = long_number_again n rest lt

-- ---- records

-- a kind's code, and the kind of a code
pub coded : (kind : ObjectKind) → kind_coded (code_of kind) ≡ Some kind
coded Commit = refl
coded Tree = refl
coded Blob = refl
coded Tag = refl

pub code_is : (code : ℕ) (kind : ObjectKind) → kind_coded code ≡ Some kind → code ≡ code_of kind
code_is zero kind e = absurd cc
code_is (suc zero) kind e = let same : Commit ≡ kind = some_is Commit kind e in ap code_of same
code_is (suc (suc zero)) kind e = let same : Tree ≡ kind = some_is Tree kind e in ap code_of same
code_is (suc (suc (suc zero))) kind e = let same : Blob ≡ kind = some_is Blob kind e in ap code_of same
code_is (suc (suc (suc (suc zero)))) kind e = let same : Tag ≡ kind = some_is Tag kind e in ap code_of same
code_is (suc (suc (suc (suc (suc n))))) kind e = absurd cc

pub record_takes : (v : PackVersion) (hash : Kind) (bytes : List ℕ) (x : Written × List ℕ) → IsBytes bytes → record_at v hash bytes ≡ Some x → Takes bytes (record_text v x.0) x.1 × IsRecord v hash x.0
record_takes v hash [] x fits e = absurd cc
record_takes v hash (code ∷ bytes) x fits e =
    let r = is_read v hash code bytes x e in
    let n = length_takes v bytes r.after_len (IsBytes-rest code bytes fits) r.len in
    let id = cut_takes (id_len v hash) r.after_len.1 x.0.id r.after_id n.0.rest_fits r.id in
    let payload = cut_takes r.after_len.0 r.after_id x.0.payload.bytes x.1 id.rest_fits r.payload in
    let len : r.after_len.0 ≡ length x.0.payload.bytes = sym r.payload.front_len in
    let before : Takes bytes (length_text v (length x.0.payload.bytes)) r.after_len.1 = subst (λ (k : ℕ). Takes bytes (length_text v k) r.after_len.1) len n.0 in
    let head = Takes-then bytes (length_text v (length x.0.payload.bytes)) r.after_len.1 x.0.id r.after_id before id in
    let both = Takes-then bytes (length_text v (length x.0.payload.bytes) ++ x.0.id) r.after_id x.0.payload.bytes x.1 head payload in
    let text : (code ∷ bytes) ≡ record_text v x.0 ++ x.1 =
    ap (λ (t : List ℕ). code ∷ t) both.parts ∙ ap (λ (c : ℕ). c ∷ (((length_text v (length x.0.payload.bytes) ++ x.0.id) ++ x.0.payload.bytes) ++ x.1)) (code_is code x.0.payload.kind r.kind) in
    (record { parts = text; rest_fits = payload.rest_fits }, (subst (λ (k : ℕ). k < limit_of v) len n.1, r.id.front_len))

pub record_again : (v : PackVersion) (hash : Kind) (w : Written) (rest : List ℕ) → IsRecord v hash w → record_at v hash (record_text v w ++ rest) ≡ Some (w, rest)
record_again v hash w rest is =
    let kind = w.payload.kind in
    let n = length w.payload.bytes in
    let after : List ℕ = w.id ++ (w.payload.bytes ++ rest) in
    let regrouped : record_text v w ++ rest ≡ code_of kind ∷ (length_text v n ++ after) =
    ap (λ (t : List ℕ). code_of kind ∷ t) (append_assoc (length_text v n ++ w.id) w.payload.bytes rest ∙ append_assoc (length_text v n) w.id (w.payload.bytes ++ rest)) in
    ap (record_at v hash) regrouped
    ∙ ap (λ (o : Option ObjectKind). o >>= λ k. length_at v (length_text v n ++ after) >>= λ len. cut (id_len v hash) len.1 >>= λ id. cut len.0 id.1 >>= λ payload. Some (record { id = id.0; payload = record { kind = k; bytes = payload.0 } }, payload.1)) (coded kind)
    ∙ ap (λ (o : Option (ℕ × List ℕ)). o >>= λ len. cut (id_len v hash) len.1 >>= λ id. cut len.0 id.1 >>= λ payload. Some (record { id = id.0; payload = record { kind = kind; bytes = payload.0 } }, payload.1)) (length_again v n after is.0)
    ∙ ap (λ (o : Option (List ℕ × List ℕ)). o >>= λ id. cut n id.1 >>= λ payload. Some (record { id = id.0; payload = record { kind = kind; bytes = payload.0 } }, payload.1)) (cut_again (id_len v hash) w.id (w.payload.bytes ++ rest) (sym is.1))
    ∙ ap (λ (o : Option (List ℕ × List ℕ)). o >>= λ payload. Some (record { id = w.id; payload = record { kind = kind; bytes = payload.0 } }, payload.1)) (cut_again n w.payload.bytes rest refl)

-- records, one after the other
pub record Runs (v : PackVersion) (hash : Kind) (bytes : List ℕ) (r : Records) : Type 0 where
  pub takes : Takes bytes (flat_map (record_text v) r.written) r.rest
  pub each : AllByRecursion (IsRecord v hash) r.written

runs_of : (v : PackVersion) (hash : Kind) (n : ℕ) (bytes : List ℕ) (o : Option (Written × List ℕ)) → IsBytes bytes → record_at v hash bytes ≡ o → ((x : Written × List ℕ) → IsBytes x.1 → Runs v hash x.1 (records v hash n x.1))
    → Runs v hash bytes (option_map_or (λ (x : Written × List ℕ). onto x.0 (records v hash n x.1)) o (record { written = []; rest = bytes }))
runs_of v hash n bytes None fits is more = record { takes = record { parts = refl; rest_fits = fits }; each = tt }
runs_of v hash n bytes (Some x) fits is more =
    let first = record_takes v hash bytes x fits is in
    let others = more x first.0.rest_fits in
    record {
      takes = rw flat_map-cons (Takes-then bytes (record_text v x.0) x.1 (flat_map (record_text v) (records v hash n x.1).written) (records v hash n x.1).rest first.0 others.takes);
      each = (first.1, others.each);
    }

pub records_take : (v : PackVersion) (hash : Kind) (n : ℕ) (bytes : List ℕ) → IsBytes bytes → Runs v hash bytes (records v hash n bytes)
records_take v hash zero bytes fits = record { takes = record { parts = refl; rest_fits = fits }; each = tt }
records_take v hash (suc n) bytes fits = runs_of v hash n bytes (record_at v hash bytes) fits refl (λ x h. records_take v hash n x.1 h)

pub records_again : (v : PackVersion) (hash : Kind) (ws : List Written) (rest : List ℕ) → AllByRecursion (IsRecord v hash) ws → records v hash (length ws) (flat_map (record_text v) ws ++ rest) ≡ record { written = ws; rest = rest }
records_again v hash [] rest each = refl
records_again v hash (w ∷ ws) rest each =
    let regrouped : flat_map (record_text v) (w ∷ ws) ++ rest ≡ record_text v w ++ (flat_map (record_text v) ws ++ rest) = ap (λ (t : List ℕ). t ++ rest) (flat_map-cons (record_text v) w ws) ∙ append_assoc (record_text v w) (flat_map (record_text v) ws) rest in
    ap (records v hash (suc (length ws))) regrouped
    ∙ ap (λ (o : Option (Written × List ℕ)). option_map_or (λ (x : Written × List ℕ). onto x.0 (records v hash (length ws) x.1)) o (record { written = []; rest = record_text v w ++ (flat_map (record_text v) ws ++ rest) })) (record_again v hash w (flat_map (record_text v) ws ++ rest) each.0)
    ∙ ap (onto w) (records_again v hash ws rest each.1)
