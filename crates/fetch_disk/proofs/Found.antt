-- A record that is written is the one that is read, and nothing else is.
use Rattle.std.proofs.Common.{◌≡◌, ℕ, zero, suc, ◌+◌, ◌^◌, ◌<◌, ◌≤◌, Bool, true, false, cond, ltb, eqb, List, [], ◌∷◌, ◌++◌, length, get_or, take, drop, Option, Some, None, refl, sym, ap, subst, ◌∙◌, append_assoc, arith, take-append-drop, length-append, length-drop}
use Rattle.std.specs.Int.{w64, from_be_bytes, to_be_bytes}
use Rattle.std.specs.Option.{option_and_then}
use Rattle.std.specs.Prelude.{slice_index}
use Rattle.std.specs.Str.{bytes_eq}
use Rattle.std.proofs.lemmas.Bool.{eqb-true, ltb-false, le-ltb}
use Rattle.std.proofs.lemmas.List.{take_at, drop_at, length-take, take-append-le}
use Rattle.std.proofs.lemmas.Nat.{be_bytes_8, from_be_bytes-to_be_bytes_8}
use Rattle.std.proofs.lemmas.Option.{option_and_then_some}
use Rattle.std.proofs.lemmas.Slice.Eq.{bytes_eq-Decides}
use Rattle.fetch_base.specs.Hashing.{digest}
use Rattle.fetch_base.specs.Id.{bytes_of, byte_len}
use Rattle.fetch_base.specs.declared.id.Kind.{Kind}
use Rattle.fetch_base.specs.declared.id.Kind.TheVariants as kinds
use Rattle.fetch_base.proofs.Digests.{length-digest}
use Rattle.fetch_disk.specs.declared.record.Record.{Record}
use Rattle.fetch_disk.specs.Reading.{Frame, cut_at, sized, frame, checked, first}
use Rattle.fetch_disk.specs.Records.{message, payload}

cond_left : {A : Type 0} (b : Bool) (r : Option A) (x : A) → cond b r None ≡ Some x → (b ≡ true) × (r ≡ Some x)
cond_left true r x e = (refl, e)
cond_left false r x e = absurd cc

cond_right : {A : Type 0} (b : Bool) (r : Option A) (x : A) → cond b None r ≡ Some x → (b ≡ false) × (r ≡ Some x)
cond_right true r x e = absurd cc
cond_right false r x e = (refl, e)

some_is : {A : Type 0} (x y : A) → Some x ≡ Some y → x ≡ y
some_is x y e = cc

-- where a message and its digest stand in the bytes
pub record Parts (n : ℕ) (bytes : List ℕ) (x : Frame) : Type 0 where
  pub size : length x.0.0 ≡ 9 + from_be_bytes w64 (take 8 (drop 1 x.0.0))
  pub wide : length x.0.1 ≡ n
  pub whole : bytes ≡ 1 ∷ (x.0.0 ++ (x.0.1 ++ x.1))

-- the eight bytes behind the first stand in the front
lengths : (bytes : List ℕ) (n : ℕ) → 9 ≤ n → 9 ≤ length bytes → take 8 (drop 1 (take n bytes)) ≡ take 8 (drop 1 bytes)
lengths [] n wide long = absurd (omega arith)
lengths (b ∷ bytes) zero wide long = absurd (omega arith)
lengths (b ∷ bytes) (suc n) wide long =
    sym (take-append-le 8 (take n bytes) (drop n bytes) (omega (arith, length-take n bytes))) ∙ ap (λ (l : List ℕ). take 8 l) (take-append-drop n bytes)

pub parts : (n : ℕ) (bytes : List ℕ) (x : Frame) → frame n bytes ≡ Some x → Parts n bytes x
unfolding frame
parts n [] x e = absurd cc
parts n (gate ∷ bytes) x e =
    let size = 9 + from_be_bytes w64 (take 8 (drop 1 bytes)) in
    let rest = drop size bytes in
    let a = cond_left (eqb gate 1) (sized n bytes) x e in
    let b = cond_right (ltb (length bytes) 9) (cut_at n size bytes) x a.1 in
    let c = cond_right (ltb (length bytes) (size + n)) (Some ((take size bytes, take n rest), drop n rest)) x b.1 in
    let open_gate : gate ≡ 1 = eqb-true _ _ a.0 in
    let long : 9 ≤ length bytes = ltb-false _ _ b.0 in
    let whole : size + n ≤ length bytes = ltb-false _ _ c.0 in
    let same : take 8 (drop 1 (take size bytes)) ≡ take 8 (drop 1 bytes) = lengths bytes size (omega arith) long in
    let there : bytes ≡ take size bytes ++ (take n rest ++ drop n rest) =
    sym (take-append-drop size bytes) ∙ ap (λ (l : List ℕ). take size bytes ++ l) (sym (take-append-drop n rest)) in
    subst (λ (y : Frame). Parts n (gate ∷ bytes) y) (some_is _ _ c.1) (record {
      size = omega (arith, length-take size bytes) ∙ ap (λ (l : List ℕ). 9 + from_be_bytes w64 l) (sym same);
      wide = omega (arith, length-take n rest, length-drop size bytes);
      whole = λ i. open_gate i ∷ there i;
    })

frame_of : (n : ℕ) (m s rest : List ℕ) → length m ≡ 9 + from_be_bytes w64 (take 8 (drop 1 m)) → length s ≡ n → frame n (1 ∷ (m ++ (s ++ rest))) ≡ Some ((m, s), rest)
unfolding frame
frame_of n m s rest size wide =
    let bytes = m ++ (s ++ rest) in
    let total = length-append m (s ++ rest) in
    let more = length-append s rest in
    let long : ltb (length bytes) 9 ≡ false = le-ltb _ _ (omega arith) in
    let same : take 8 (drop 1 m) ≡ take 8 (drop 1 bytes) =
    ap (λ (l : List ℕ). take 8 (drop 1 l)) (sym (take_at m (s ++ rest) (length m) refl)) ∙ lengths bytes (length m) (omega arith) (omega arith) in
    let told : 9 + from_be_bytes w64 (take 8 (drop 1 bytes)) ≡ length m = ap (λ (l : List ℕ). 9 + from_be_bytes w64 l) (sym same) ∙ sym size in
    let whole : ltb (length bytes) (length m + n) ≡ false = le-ltb _ _ (omega arith) in
    let there : cut_at n (length m) bytes ≡ Some ((m, s), rest) =
    rw (whole, take_at m (s ++ rest) (length m) refl, drop_at m (s ++ rest) (length m) refl, take_at s rest n wide, drop_at s rest n wide) refl in
    let last : cut_at n (9 + from_be_bytes w64 (take 8 (drop 1 bytes))) bytes ≡ Some ((m, s), rest) = subst (λ (k : ℕ). cut_at n k bytes ≡ Some ((m, s), rest)) (sym told) there in
    rw long last

-- a message is its kind, the length of its body and the body
message_of : (m : List ℕ) → 9 ≤ length m → m ≡ slice_index m 0 ∷ (take 8 (drop 1 m) ++ drop 9 m)
message_of [] long = absurd (omega arith)
message_of (b ∷ m) long = ap (λ (l : List ℕ). b ∷ l) (sym (take-append-drop 8 m))

abbrev pub AreBytes : List ℕ → Type 0
AreBytes bytes = (i : ℕ) → get_or bytes i 0 < 256

pub AreBytes-front : (begin rest : List ℕ) → AreBytes (begin ++ rest) → AreBytes begin
AreBytes-front [] rest h i = omega arith
AreBytes-front (b ∷ begin) rest h zero = h zero
AreBytes-front (b ∷ begin) rest h (suc i) = AreBytes-front begin rest (λ j. h (suc j)) i

pub AreBytes-back : (begin rest : List ℕ) → AreBytes (begin ++ rest) → AreBytes rest
AreBytes-back [] rest h = h
AreBytes-back (b ∷ begin) rest h = AreBytes-back begin rest (λ i. h (suc i))

bound : (bytes : List ℕ) → AreBytes bytes → from_be_bytes w64 bytes < 2 ^ 64
bound bytes fits = omega (arith, fits 0, fits 1, fits 2, fits 3, fits 4, fits 5, fits 6, fits 7)

-- the message that is read is the record's
message_back : (m : List ℕ) → AreBytes m → length m ≡ 9 + from_be_bytes w64 (take 8 (drop 1 m)) → (message (record { kind = slice_index m 0; body = drop 9 m }) ≡ m) × (length (drop 9 m) < 2 ^ 64)
unfolding message
message_back m fits size =
    let field = take 8 (drop 1 m) in
    let body = drop 9 m in
    let is = message_of m (omega arith) in
    let behind : AreBytes (field ++ body) = λ i. subst AreBytes is fits (suc i) in
    let bytes : AreBytes field = AreBytes-front field body behind in
    let wide : length field ≡ 8 = omega (arith, length-take 8 (drop 1 m), length-drop 1 m) in
    let long : length body ≡ from_be_bytes w64 field = omega (arith, length-drop 9 m) in
    let small : from_be_bytes w64 field < 2 ^ 64 = bound field bytes in (
      ap (λ (l : List ℕ). slice_index m 0 ∷ (l ++ body)) (be_bytes_8 field (length body) wide bytes long) ∙ sym is,
      omega arith,
    )

-- what is read was written so
pub record Written (hash : Kind) (bytes : List ℕ) (e : Record) (rest : List ℕ) : Type 0 where
  pub is : bytes ≡ 1 ∷ (payload hash e ++ rest)
  pub small : length e.body < 2 ^ 64

written_frame : (hash : Kind) (bytes : List ℕ) (x : Frame) → AreBytes bytes → Parts (byte_len hash) bytes x → bytes_of (digest hash x.0.0) ≡ x.0.1 → Written hash bytes (record { kind = slice_index x.0.0 0; body = drop 9 x.0.0 }) x.1
unfolding payload
written_frame hash bytes x fits p same =
    let behind : AreBytes (x.0.0 ++ (x.0.1 ++ x.1)) = λ i. subst AreBytes p.whole fits (suc i) in
    let back = message_back x.0.0 (AreBytes-front x.0.0 (x.0.1 ++ x.1) behind) p.size in
    let told : payload hash (record { kind = slice_index x.0.0 0; body = drop 9 x.0.0 }) ≡ x.0.0 ++ x.0.1 =
    ap (λ (m : List ℕ). m ++ bytes_of (digest hash m)) back.0 ∙ ap (λ (s : List ℕ). x.0.0 ++ s) same in
    record {
      is = p.whole ∙ ap (λ (l : List ℕ). 1 ∷ l) (sym (append_assoc x.0.0 x.0.1 x.1)) ∙ ap (λ (l : List ℕ). 1 ∷ (l ++ x.1)) (sym told);
      small = back.1;
    }

pub written : (hash : Kind) (bytes : List ℕ) (e : Record) (rest : List ℕ) → AreBytes bytes → first hash bytes ≡ Some (e, rest) → Written hash bytes e rest
unfolding first
written hash bytes e rest fits is =
    option_and_then_some (checked hash) (frame (byte_len hash) bytes) (e, rest) is (λ x found passed.
    let a = cond_left (bytes_eq (bytes_of (digest hash x.0.0)) x.0.1) (Some (record { kind = slice_index x.0.0 0; body = drop 9 x.0.0 }, x.1)) (e, rest) passed in
    let same = (bytes_eq-Decides (bytes_of (digest hash x.0.0)) x.0.1).0 a.0 in
    subst (λ (y : Record × List ℕ). Written hash bytes y.0 y.1) (some_is _ _ a.1) (written_frame hash bytes x fits (parts (byte_len hash) bytes x found) same))

length-message : (e : Record) → length (message e) ≡ 9 + length e.body
unfolding message
length-message e = omega (arith, length-append (to_be_bytes w64 (length e.body)) e.body)

pub length-payload : (hash : Kind) (e : Record) → length (payload hash e) ≡ 9 + length e.body + byte_len hash
unfolding payload
length-payload hash e = omega (arith, length-append (message e) (bytes_of (digest hash (message e))), length-message e, length-digest hash (message e))

message_parts : (e : Record) → length e.body < 2 ^ 64 → (length (message e) ≡ 9 + from_be_bytes w64 (take 8 (drop 1 (message e)))) × (record { kind = slice_index (message e) 0; body = drop 9 (message e) } ≡ e)
unfolding message
message_parts e small =
    let field = to_be_bytes w64 (length e.body) in (
      omega (arith, length-append field e.body, ap (λ (l : List ℕ). from_be_bytes w64 l) (take_at field e.body 8 refl) ∙ from_be_bytes-to_be_bytes_8 (length e.body) small),
      refl,
    )

-- what is written is read, whatever follows
pub again : (hash : Kind) (e : Record) (rest : List ℕ) → length e.body < 2 ^ 64 → first hash (1 ∷ (payload hash e ++ rest)) ≡ Some (e, rest)
unfolding payload first
again hash e rest small =
    let m = message e in
    let s = bytes_of (digest hash m) in
    let p = message_parts e small in
    let framed : frame (byte_len hash) (1 ∷ ((m ++ s) ++ rest)) ≡ Some ((m, s), rest) =
    ap (λ (l : List ℕ). frame (byte_len hash) (1 ∷ l)) (append_assoc m s rest) ∙ frame_of (byte_len hash) m s rest p.0 (length-digest hash m) in
    let right : bytes_eq s s ≡ true = (bytes_eq-Decides s s).1 refl in
    ap (option_and_then (checked hash)) framed
    ∙ ap (λ (b : Bool). cond b (Some (record { kind = slice_index m 0; body = drop 9 m }, rest)) None) right
    ∙ ap (λ (r : Record). Some (r, rest)) p.1

pub byte_len-most : (hash : Kind) → byte_len hash ≤ 32
byte_len-most kinds.Sha1 = omega arith
byte_len-most kinds.Sha256 = omega arith
