-- What a crash leaves in each step of `append`, of records and a gate that isn't open.
use Rattle.std.proofs.Common.{◌≡◌, ◌≢◌, ◌⊎◌, inl, inr, ℕ, ◌+◌, ◌^◌, ◌<◌, List, [], ◌∷◌, ◌++◌, length, get_or, take, drop, refl, sym, ◌∙◌, ap, subst, arith, append_assoc, length-append, take-append-drop}
use Rattle.std.proofs.lemmas.Bool.{cases_eq}
use Rattle.std.proofs.lemmas.List.{take_at, drop_at, drop_more, take_all, drop_all, append-nil}
use Rattle.fetch_base.specs.Id.{byte_len}
use Rattle.fetch_base.specs.declared.id.Kind.{Kind}
use Rattle.fetch_disk.specs.Disk.{overwritten, Torn}
use Rattle.fetch_disk.specs.Records.{payload, opened, Stands, IsAtRest, Adds, MayAdd}
use Rattle.fetch_disk.specs.declared.record.Record.{Record}
use Rattle.fetch_disk.proofs.Found.{length-payload}
use Rattle.fetch_disk.proofs.Spelled.{opened-pushed, length-opened-push}

-- the file of these records and a gate
abbrev pub ended : Kind → List Record → ℕ → List ℕ
ended hash es gate = opened hash es ++ gate ∷ []

-- and with a record behind the gate, and a closed gate behind it
abbrev pub staged : Kind → List Record → ℕ → Record → List ℕ
staged hash es gate e = opened hash es ++ gate ∷ (payload hash e ++ 0 ∷ [])

-- a file that is at rest, in its parts
pub at_rest_is : (hash : Kind) (bytes : List ℕ) (es : List Record) (end : ℕ) (r : IsAtRest hash bytes es end) → bytes ≡ ended hash es r.stands.gate
at_rest_is hash bytes es end r = r.stands.whole ∙ ap (λ (l : List ℕ). opened hash es ++ r.stands.gate ∷ l) r.nothing_behind

module _ (hash : Kind) (es : List Record) (gate : ℕ) (shut : gate ≢ 1) (end : ℕ) (size : end ≡ length (opened hash es)) (small : end < 2 ^ 63) where
  pub length-ended : length (ended hash es gate) ≡ end + 1
  length-ended = omega (arith, size, length-append (opened hash es) (gate ∷ []))

  -- ---- the first write of append

  -- the gate stands, whatever is behind it
  pub torn_behind : (n : ℕ) (c : List ℕ) → Torn (end + 1) n (ended hash es gate) c → Stands hash c es
  torn_behind n c torn =
      let begin : take (end + 1) c ≡ ended hash es gate = torn.front ∙ take_all _ _ (omega (arith, length-ended)) in
      let rest = drop (end + 1) c in
      record {
        gate = gate;
        behind = rest;
        shut = shut;
        whole = sym (take-append-drop (end + 1) c) ∙ ap (λ (l : List ℕ). l ++ rest) begin ∙ append_assoc (opened hash es) (gate ∷ []) rest;
        small = omega (arith, size, small);
      }

  pub written_behind : (e : Record) → overwritten (end + 1) (payload hash e ++ 0 ∷ []) (ended hash es gate) ≡ staged hash es gate e
  written_behind e =
      let bytes = payload hash e ++ 0 ∷ [] in
      ap (λ (l : List ℕ). l ++ (bytes ++ drop (end + 1 + length bytes) (ended hash es gate))) (take_all _ _ (omega (arith, length-ended)))
      ∙ ap (λ (l : List ℕ). ended hash es gate ++ (bytes ++ l)) (drop_all _ (ended hash es gate) (omega (arith, length-ended)))
      ∙ ap (λ (l : List ℕ). ended hash es gate ++ l) (append-nil bytes)
      ∙ append_assoc (opened hash es) (gate ∷ []) bytes

  -- ---- the second

  begin_of : (e : Record) → take end (staged hash es gate e) ≡ opened hash es
  begin_of e = take_at (opened hash es) (gate ∷ (payload hash e ++ 0 ∷ [])) end (sym size)

  back_of : (e : Record) → drop (end + 1) (staged hash es gate e) ≡ payload hash e ++ 0 ∷ []
  back_of e = ap (λ (l : List ℕ). drop (end + 1) l) (sym (append_assoc (opened hash es) (gate ∷ []) (payload hash e ++ 0 ∷ []))) ∙ drop_at (ended hash es gate) (payload hash e ++ 0 ∷ []) (end + 1) length-ended

  pub length-staged : (e : Record) → length (staged hash es gate e) ≡ end + 11 + length e.body + byte_len hash
  length-staged e = omega (arith, size, length-append (opened hash es) (gate ∷ (payload hash e ++ 0 ∷ [])), length-append (payload hash e) (0 ∷ []), length-payload hash e)

  pub length-pushed : (e : Record) → length (opened hash (es ++ e ∷ [])) ≡ end + 10 + length e.body + byte_len hash
  length-pushed e = omega (arith, size, length-opened-push hash es e)

  -- the record stands behind whatever gate
  any_gate : (e : Record) (g : ℕ) → end + 10 + length e.body + byte_len hash < 2 ^ 64 → Stands hash (opened hash es ++ g ∷ (payload hash e ++ 0 ∷ [])) es ⊎ Stands hash (opened hash es ++ g ∷ (payload hash e ++ 0 ∷ [])) (es ++ e ∷ [])
  any_gate e g fits = elim (cases_eq g 1) [
    | inl open_gate ↦ inr (record {
      gate = 0;
      behind = [];
      shut = λ h. absurd (omega arith);
      whole = ap (λ (k : ℕ). opened hash es ++ k ∷ (payload hash e ++ 0 ∷ [])) open_gate ∙ sym (opened-pushed hash es e (0 ∷ []));
      small = omega (arith, length-pushed e, fits);
    })
    | inr closed ↦ inl (record { gate = g; behind = payload hash e ++ 0 ∷ []; shut = closed; whole = refl; small = omega (arith, size, small) })
  ]

  pub torn_gate : (e : Record) (c : List ℕ) → end + 10 + length e.body + byte_len hash < 2 ^ 64 → Torn end 1 (staged hash es gate e) c → Stands hash c es ⊎ Stands hash c (es ++ e ∷ [])
  torn_gate e c fits torn =
      let g = get_or c end 0 in
      let rest : drop end c ≡ g ∷ (payload hash e ++ 0 ∷ []) =
      drop_more c end 0 (omega (arith, torn.least, length-staged e)) ∙ ap (λ (l : List ℕ). g ∷ l) (torn.back ∙ back_of e) in
      let whole : c ≡ opened hash es ++ g ∷ (payload hash e ++ 0 ∷ []) =
      sym (take-append-drop end c) ∙ ap (λ (l : List ℕ). l ++ drop end c) (torn.front ∙ begin_of e) ∙ ap (λ (l : List ℕ). opened hash es ++ l) rest in
      subst (λ (l : List ℕ). Stands hash l es ⊎ Stands hash l (es ++ e ∷ [])) (sym whole) (any_gate e g fits)

  pub written_gate : (e : Record) → overwritten end (1 ∷ []) (staged hash es gate e) ≡ ended hash (es ++ e ∷ []) 0
  written_gate e =
      ap (λ (l : List ℕ). l ++ ((1 ∷ []) ++ drop (end + 1) (staged hash es gate e))) (begin_of e)
      ∙ ap (λ (l : List ℕ). opened hash es ++ 1 ∷ l) (back_of e)
      ∙ sym (opened-pushed hash es e (0 ∷ []))

  -- ---- what is acknowledged

  pub added : (e : Record) (new_end : ℕ) (bytes : List ℕ) → end + 10 + length e.body + byte_len hash < 2 ^ 64 → bytes ≡ ended hash (es ++ e ∷ []) 0 → new_end ≡ end + 10 + length e.body + byte_len hash → IsAtRest hash bytes (es ++ e ∷ []) new_end
  added e new_end bytes fits is there = record {
    stands = record { gate = 0; behind = []; shut = λ h. absurd (omega arith); whole = is; small = omega (arith, length-pushed e, fits) };
    nothing_behind = refl;
    place = omega (arith, length-pushed e, there);
  }

-- ---- said of bytes that stand for these records

pub may_add : (hash : Kind) (es : List Record) (e : Record) (old new : List ℕ) → Stands hash old es → Stands hash new es ⊎ Stands hash new (es ++ e ∷ []) → MayAdd hash e old new
may_add hash es e old new stands either = inr (es, stands, either)

pub adds : (hash : Kind) (es : List Record) (e : Record) (old new : List ℕ) → Stands hash old es → Stands hash new (es ++ e ∷ []) → Adds hash e old new
adds hash es e old new stands now = (es, stands, now)
