use Rattle.std.proofs.Common.{◌≡◌, ℕ, ◌*◌, inl, inr, refl, length, List, true, Some, None, Result, Ok, Err}
use Rattle.std.specs.Prelude.{is_ok}
use Rattle.std.specs.List.{AllPass}
use Rattle.std.specs.Option.{option_map}
use Rattle.std.specs.Result.{result_ok}
use Rattle.hex.specs.Hex.{decode_sized, is_hex_digit}
use Rattle.hex.specs.declared.error.FromHexError.{FromHexError}
use Rattle.hex.proofs.HexLemmas.{IsOk-decode_sized}
use Rattle.fetch_base.specs.Id.{id_in_hex, id_of_bytes, byte_len}
use Rattle.fetch_base.specs.declared.id.Kind.{Kind}
use Rattle.fetch_base.specs.declared.id.Kind.TheVariants as kinds
use Rattle.fetch_base.specs.declared.id.ObjectId.{ObjectId}
use Rattle.fetch_base.proofs.id.ObjectId.from_hex.Goals as goal

was_ok : (kind : Kind) (r : Result (List ℕ) FromHexError) (id : ObjectId) → Some id ≡ option_map (id_of_bytes kind) (result_ok r) → is_ok r ≡ true
was_ok kind (Ok bytes) id is = refl
was_ok kind (Err e) id is = cc

was_bad : (kind : Kind) (r : Result (List ℕ) FromHexError) → None ≡ option_map (id_of_bytes kind) (result_ok r) → is_ok r ≡ true → ⊥
was_bad kind (Ok bytes) is ok = cc
was_bad kind (Err e) is ok = cc

sized : (kind : Kind) (text : List ℕ) (id : ObjectId) → Some id ≡ id_in_hex kind text → (length text ≡ 2 * byte_len kind) × AllPass is_hex_digit text
sized kind text id is = (IsOk-decode_sized text (byte_len kind)).0 (was_ok kind (decode_sized text (byte_len kind)) id is)

pub returns-in-Some-clause-accepted : goal.returns-in-Some-clause-accepted
returns-in-Some-clause-accepted c =
    let s = sized kinds.Sha1 c.args.text.now c.in-Some.id c.in-Some.ensures in (λ _. (inl s.0, s.1), λ _. refl)

pub returns-in-Some-in_hex-clause-accepted : goal.returns-in-Some-in_hex-clause-accepted
returns-in-Some-in_hex-clause-accepted c =
    let s = sized kinds.Sha256 c.args.text.now c.in-Some-in_hex.id c.in-Some-in_hex.ensures in (λ _. (inr s.0, s.1), λ _. refl)

pub returns-clause-accepted : goal.returns-clause-accepted
returns-clause-accepted c = (
  λ h. absurd cc,
  λ h.
      absurd
      (elim h.0 [
        | inl short ↦ was_bad kinds.Sha1 _ c.in_default.ensures ((IsOk-decode_sized c.args.text.now 20).1 (short, h.1))
        | inr long ↦ was_bad kinds.Sha256 _ c.in_default-in_hex.ensures ((IsOk-decode_sized c.args.text.now 32).1 (long, h.1))
      ]),
)
