-- Records are read one by one, and each is one byte or more.
use Rattle.std.proofs.Common.{◌≡◌, ℕ, suc, ◌+◌, ◌-◌, ◌<◌, ◌≤◌, ◌^◌, Bool, true, false, cond, List, [], ◌∷◌, length, take, drop, Option, Some, None, refl, sym, ap, ◌∙◌, arith, length-drop}
use Rattle.std.proofs.lemmas.List.{length-take}
use Rattle.std.proofs.lemmas.Bool.{ltb-false, ltb-true}
use Rattle.std.specs.Prelude.{nat_lt}
use Rattle.std.specs.Option.{option_map_or}
use Rattle.std.specs.Int.{w32, w64, from_be_bytes}
use Rattle.fetch_base.specs.declared.id.Kind.{Kind}
use Rattle.fetch_base.specs.Scan.{◌>>=◌}
use Rattle.fetch_pack.specs.declared.version.PackVersion.{PackVersion}
use Rattle.fetch_pack.specs.declared.version.PackVersion.TheVariants.{V1, V2}
use Rattle.fetch_pack.specs.Reading.{head_len, record_len}
use Rattle.fetch_pack.specs.Records.{Written, Records, onto, records, record_at, kind_coded, cut, number_at, long_number_at, length_at, id_len}

-- a step that gave a value
pub bind_some : {A B : Type 0} (o : Option A) (f : A → Option B) (y : B) → (o >>= f) ≡ Some y → (x : A) × (o ≡ Some x) × (f x ≡ Some y)
bind_some (Some x) f y e = (x, refl, e)
bind_some None f y e = absurd cc

pub some_is : {A : Type 0} (a b : A) → Some a ≡ Some b → a ≡ b
some_is a b e = cc

-- a value after a test
pub tested : {A : Type 0} (b : Bool) (x y : A) → cond b None (Some x) ≡ Some y → (b ≡ false) × (x ≡ y)
tested true x y e = absurd cc
tested false x y e = (refl, cc)

pub passed : {A : Type 0} (b : Bool) (x y : A) → cond b (Some x) None ≡ Some y → (b ≡ true) × (x ≡ y)
passed true x y e = (refl, cc)
passed false x y e = absurd cc

-- what was cut off the front
pub record IsCut (n : ℕ) (bytes : List ℕ) (x : List ℕ × List ℕ) : Type 0 where
  pub front : take n bytes ≡ x.0
  pub rest : drop n bytes ≡ x.1
  pub front_len : length x.0 ≡ n
  pub len : length bytes ≡ n + length x.1

pub cut_is : (n : ℕ) (bytes : List ℕ) (x : List ℕ × List ℕ) → cut n bytes ≡ Some x → IsCut n bytes x
cut_is n bytes x is =
    let g = tested (nat_lt (length bytes) n) (take n bytes, drop n bytes) x is in
    let long : n ≤ length bytes = ltb-false _ _ g.0 in
    let a : take n bytes ≡ x.0 = ap (λ (y : List ℕ × List ℕ). y.0) g.1 in
    let b : drop n bytes ≡ x.1 = ap (λ (y : List ℕ × List ℕ). y.1) g.1 in
    let c = ap length a in
    let d = ap length b in
    record { front = a; rest = b; front_len = omega (arith, long, c, length-take n bytes); len = omega (arith, d, long, length-drop n bytes) }

-- the bytes of a number, and the number
pub record IsNumber (n : ℕ) (bytes : List ℕ) (value : List ℕ → ℕ) (x : ℕ × List ℕ) : Type 0 where
  pub front : List ℕ
  pub cuts : IsCut n bytes (front, x.1)
  pub number : value front ≡ x.0

pub number_is : (bytes : List ℕ) (x : ℕ × List ℕ) → number_at bytes ≡ Some x → IsNumber 4 bytes (from_be_bytes w32) x
number_is bytes x is =
    let f = bind_some (cut 4 bytes) (λ f. Some (from_be_bytes w32 f.0, f.1)) x is in
    let same = some_is (from_be_bytes w32 f.0.0, f.0.1) x f.2 in
    let rest : f.0.1 ≡ x.1 = ap (λ (y : ℕ × List ℕ). y.1) same in
    record { front = f.0.0; cuts = cut_is 4 bytes (f.0.0, x.1) (f.1 ∙ ap (λ (t : List ℕ). Some (f.0.0, t)) rest); number = ap (λ (y : ℕ × List ℕ). y.0) same }

abbrev numbered : List ℕ × List ℕ → Option (ℕ × List ℕ)
numbered front = Some (from_be_bytes w32 front.0, front.1)

unnumbered : (b : Bool) (x : List ℕ × List ℕ) → (cond b None (Some x) >>= numbered) ≡ None → b ≡ true
unnumbered true x is = refl
unnumbered false x is = absurd cc

-- where there is no number
pub short_count : (bytes : List ℕ) → number_at bytes ≡ None → length bytes < 4
short_count bytes none = ltb-true _ _ (unnumbered (nat_lt (length bytes) 4) (take 4 bytes, drop 4 bytes) none)

pub long_number_is : (bytes : List ℕ) (x : ℕ × List ℕ) → long_number_at bytes ≡ Some x → IsNumber 8 bytes (from_be_bytes w64) x × (x.0 < 2 ^ 63)
long_number_is bytes x is =
    let f = bind_some (cut 8 bytes) (λ f. cond (nat_lt (from_be_bytes w64 f.0) (2 ^ 63)) (Some (from_be_bytes w64 f.0, f.1)) None) x is in
    let g = passed (nat_lt (from_be_bytes w64 f.0.0) (2 ^ 63)) (from_be_bytes w64 f.0.0, f.0.1) x f.2 in
    let rest : f.0.1 ≡ x.1 = ap (λ (y : ℕ × List ℕ). y.1) g.1 in
    let value : from_be_bytes w64 f.0.0 ≡ x.0 = ap (λ (y : ℕ × List ℕ). y.0) g.1 in
    let below : from_be_bytes w64 f.0.0 < 2 ^ 63 = ltb-true _ _ g.0 in
    (record { front = f.0.0; cuts = cut_is 8 bytes (f.0.0, x.1) (f.1 ∙ ap (λ (t : List ℕ). Some (f.0.0, t)) rest); number = value }, rw (sym value) below)

pub length_is : (v : PackVersion) (bytes : List ℕ) (x : ℕ × List ℕ) → length_at v bytes ≡ Some x → suc (length bytes) ≡ head_len v + length x.1
length_is V1 bytes x is = let n = number_is bytes x is in omega (arith, n.cuts.len)
length_is V2 bytes x is = let n = long_number_is bytes x is in omega (arith, n.0.cuts.len)

-- the parts of a record
pub record IsRead (v : PackVersion) (hash : Kind) (code : ℕ) (bytes : List ℕ) (x : Written × List ℕ) : Type 0 where
  pub after_len : ℕ × List ℕ
  pub after_id : List ℕ
  pub kind : kind_coded code ≡ Some x.0.payload.kind
  pub len : length_at v bytes ≡ Some after_len
  pub id : IsCut (id_len v hash) after_len.1 (x.0.id, after_id)
  pub payload : IsCut after_len.0 after_id (x.0.payload.bytes, x.1)

pub is_read : (v : PackVersion) (hash : Kind) (code : ℕ) (bytes : List ℕ) (x : Written × List ℕ) → record_at v hash (code ∷ bytes) ≡ Some x → IsRead v hash code bytes x
is_read v hash code bytes x is =
    let kind = bind_some (kind_coded code) (λ kind. length_at v bytes >>= λ len. cut (id_len v hash) len.1 >>= λ id. cut len.0 id.1 >>= λ payload. Some (record { id = id.0; payload = record { kind = kind; bytes = payload.0 } }, payload.1)) x is in
    let len = bind_some (length_at v bytes) (λ len. cut (id_len v hash) len.1 >>= λ id. cut len.0 id.1 >>= λ payload. Some (record { id = id.0; payload = record { kind = kind.0; bytes = payload.0 } }, payload.1)) x kind.2 in
    let id = bind_some (cut (id_len v hash) len.0.1) (λ id. cut len.0.0 id.1 >>= λ payload. Some (record { id = id.0; payload = record { kind = kind.0; bytes = payload.0 } }, payload.1)) x len.2 in
    let payload = bind_some (cut len.0.0 id.0.1) (λ payload. Some (record { id = id.0.0; payload = record { kind = kind.0; bytes = payload.0 } }, payload.1)) x id.2 in
    let same = some_is _ x payload.2 in
    let kinds : kind.0 ≡ x.0.payload.kind = ap (λ (y : Written × List ℕ). y.0.payload.kind) same in
    let ids : id.0.0 ≡ x.0.id = ap (λ (y : Written × List ℕ). y.0.id) same in
    let texts : payload.0.0 ≡ x.0.payload.bytes = ap (λ (y : Written × List ℕ). y.0.payload.bytes) same in
    let rests : payload.0.1 ≡ x.1 = ap (λ (y : Written × List ℕ). y.1) same in
    record {
      after_len = len.0;
      after_id = id.0.1;
      kind = kind.1 ∙ ap Some kinds;
      len = len.1;
      id = cut_is (id_len v hash) len.0.1 (x.0.id, id.0.1) (id.1 ∙ ap (λ (t : List ℕ). Some (t, id.0.1)) ids);
      payload = cut_is len.0.0 id.0.1 (x.0.payload.bytes, x.1) (payload.1 ∙ ap (λ (t : List ℕ). Some (t, payload.0.1)) texts ∙ ap (λ (t : List ℕ). Some (x.0.payload.bytes, t)) rests);
    }

pub record_is : (v : PackVersion) (hash : Kind) (bytes : List ℕ) (x : Written × List ℕ) → record_at v hash bytes ≡ Some x → (length bytes ≡ record_len v x.0 + length x.1) × (length x.0.id ≡ id_len v hash)
record_is v hash [] x is = absurd cc
record_is v hash (code ∷ bytes) x is =
    let r = is_read v hash code bytes x is in
    (omega (arith, length_is v bytes r.after_len r.len, r.id.len, r.id.front_len, r.payload.len, r.payload.front_len), r.id.front_len)

abbrev nothing : List ℕ → Records
nothing bytes = record { written = []; rest = bytes }

pub records_step : (v : PackVersion) (hash : Kind) (count i : ℕ) (bytes : List ℕ) (x : Written × List ℕ) → i < count → record_at v hash bytes ≡ Some x
    → records v hash (count - i) bytes ≡ onto x.0 (records v hash (count - (i + 1)) x.1)
records_step v hash count i bytes x lt is =
    let n : count - i ≡ suc (count - (i + 1)) = omega arith in
    ap (λ (m : ℕ). records v hash m bytes) n ∙ ap (λ (o : Option (Written × List ℕ)). option_map_or (λ (y : Written × List ℕ). onto y.0 (records v hash (count - (i + 1)) y.1)) o (nothing bytes)) is

pub records_end : (v : PackVersion) (hash : Kind) (count i : ℕ) (bytes : List ℕ) → i < count → record_at v hash bytes ≡ None → records v hash (count - i) bytes ≡ record { written = []; rest = bytes }
records_end v hash count i bytes lt is =
    let n : count - i ≡ suc (count - (i + 1)) = omega arith in
    ap (λ (m : ℕ). records v hash m bytes) n ∙ ap (λ (o : Option (Written × List ℕ)). option_map_or (λ (y : Written × List ℕ). onto y.0 (records v hash (count - (i + 1)) y.1)) o (nothing bytes)) is

pub records_none : (v : PackVersion) (hash : Kind) (count : ℕ) (bytes : List ℕ) → records v hash (count - count) bytes ≡ record { written = []; rest = bytes }
records_none v hash count bytes =
    let n : count - count ≡ 0 = omega arith in
    ap (λ (m : ℕ). records v hash m bytes) n
