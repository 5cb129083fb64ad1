-- The line at the front of a packed text.
use Rattle.std.proofs.Common.{◌≡◌, ℕ, ◌+◌, ◌<◌, Bool, true, false, List, ◌∷◌, ◌++◌, length, Option, Some, None, IfSome, sym, ap, ◌∙◌, arith, length-append}
use Rattle.std.specs.Char.{is_ascii_uppercase}
use Rattle.std.specs.List.{list_any}
use Rattle.hex.specs.Hex.{encode_lower}
use Rattle.fetch_base.specs.Id.{bytes_of, id_in_hex}
use Rattle.fetch_base.specs.Lines.{IsWithout}
use Rattle.fetch_base.specs.Scan.{split_first}
use Rattle.fetch_base.specs.declared.id.Kind.{Kind}
use Rattle.fetch_base.specs.declared.id.ObjectId.{ObjectId}
use Rattle.fetch_base.proofs.LineLaws.{splits}
use Rattle.fetch_refs.specs.Packed.{packed_line}
use Rattle.fetch_refs.specs.Reading.{IsEntry}
use Rattle.fetch_refs.proofs.FullTexts.{feedless_name}
use Rattle.fetch_refs.proofs.LowerHex.{spaceless, no_capital, id_written}
use Rattle.fetch_refs.proofs.PackedReads.{line_is, cut_is}

unlike : (b : Bool) → b ≡ true → b ≡ false → ⊥
unlike b t f = absurd cc

-- digits of which one is a capital
pub with_capital : (digits : List ℕ) (found : Bool) → found ≡ list_any is_ascii_uppercase digits → found ≡ true → (id : ObjectId) → digits ≡ encode_lower (bytes_of id) → ⊥
with_capital digits found is have id written =
    unlike found have (is ∙ ap (list_any is_ascii_uppercase) written ∙ no_capital (bytes_of id))

pub without_capital : (kind : Kind) (digits : List ℕ) (found : Bool) (id : Option ObjectId) → found ≡ list_any is_ascii_uppercase digits → found ≡ false → id ≡ id_in_hex kind digits → IfSome id (λ i. digits ≡ encode_lower (bytes_of i))
without_capital kind digits found None is lack spelled = tt
without_capital kind digits found (Some id) is lack spelled = id_written kind digits id (sym spelled) (sym is ∙ lack)

not_cut : (x : List ℕ × List ℕ) → None ≡ Some x → ⊥
not_cut x e = absurd cc

-- the text begins with an entry's line
module _ (kind : Kind) (text : List ℕ) (e : List ℕ × ObjectId) (more : List ℕ) (entry : IsEntry kind e) (is : text ≡ packed_line e ++ more) where
  at_space : split_first 32 text ≡ Some (encode_lower (bytes_of e.1), e.0 ++ 10 ∷ more)
  at_space = (splits 32 text).only (encode_lower (bytes_of e.1)) (e.0 ++ 10 ∷ more) (is ∙ line_is e more) (spaceless (bytes_of e.1))

  pub has_space : None ≡ split_first 32 text → ⊥
  has_space none = not_cut (encode_lower (bytes_of e.1), e.0 ++ 10 ∷ more) (none ∙ at_space)

  module _ (digits behind : List ℕ) (cut : Some (digits, behind) ≡ split_first 32 text) where
    digits_are : digits ≡ encode_lower (bytes_of e.1)
    digits_are = ap (λ (x : List ℕ × List ℕ). x.0) (cut_is (digits, behind) (encode_lower (bytes_of e.1), e.0 ++ 10 ∷ more) (cut ∙ at_space))

    behind_is : behind ≡ e.0 ++ 10 ∷ more
    behind_is = ap (λ (x : List ℕ × List ℕ). x.1) (cut_is (digits, behind) (encode_lower (bytes_of e.1), e.0 ++ 10 ∷ more) (cut ∙ at_space))

    pub has_id : ((id : ObjectId) → digits ≡ encode_lower (bytes_of id) → id_in_hex kind digits ≡ Some id → ⊥) → ⊥
    has_id none = none e.1 digits_are (ap (id_in_hex kind) digits_are ∙ entry.id)

    pub has_feed : None ≡ split_first 10 behind → ⊥
    has_feed none =
        let at : split_first 10 behind ≡ Some (e.0, more) = (splits 10 behind).only e.0 more behind_is (feedless_name e.0 entry.name) in
        not_cut (e.0, more) (none ∙ at)

-- the line that is cut
pub put_together : (text digits behind name rest : List ℕ) (id : ObjectId) → Some (digits, behind) ≡ split_first 32 text → digits ≡ encode_lower (bytes_of id) → Some (name, rest) ≡ split_first 10 behind
    → (text ≡ packed_line (name, id) ++ rest) × IsWithout 10 name
put_together text digits behind name rest id cut written cut' =
    let one = (splits 32 text).found digits behind (sym cut) in
    let two = (splits 10 behind).found name rest (sym cut') in
    (one.0 ∙ ap (λ (d : List ℕ). d ++ 32 ∷ behind) written ∙ ap (λ (b : List ℕ). encode_lower (bytes_of id) ++ 32 ∷ b) two.0 ∙ sym (line_is (name, id) rest), two.1)

-- a line has bytes
pub shorter : (text rest : List ℕ) (e : List ℕ × ObjectId) → text ≡ packed_line e ++ rest → length rest < length text
shorter text rest e is =
    let n : length text ≡ length (encode_lower (bytes_of e.1)) + length (32 ∷ (e.0 ++ 10 ∷ rest)) = ap (length {A = ℕ}) (is ∙ line_is e rest) ∙ length-append (encode_lower (bytes_of e.1)) (32 ∷ (e.0 ++ 10 ∷ rest)) in
    let m = length-append e.0 (10 ∷ rest) in
    omega (arith, n, m)
