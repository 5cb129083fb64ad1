-- Parsing payloads one after the other, as a loop does.
use Rattle.std.proofs.Common.{◌≡◌, ℕ, ◌-◌, ◌+◌, ◌≤◌, ◌<◌, List, [], ◌∷◌, ◌++◌, length, Some, None, Result, Ok, Err, refl, sym, ap, subst, ◌∙◌, append_assoc, arith}
use Rattle.std.proofs.lemmas.List.{append-nil}
use Rattle.fetch_base.specs.declared.id.Kind.{Kind}
use Rattle.fetch_objects.specs.Objects.{Stored}
use Rattle.fetch_pack.specs.declared.error.PackError.{PackError}
use Rattle.fetch_pack.specs.declared.error.PackError.TheVariants.{Malformed, PackDigest, IdMismatch, Collision, NoMemory}
use Rattle.fetch_pack.specs.declared.version.PackVersion.{PackVersion}
use Rattle.fetch_pack.specs.Records.{Written, Records, records, record_at}
use Rattle.fetch_base.specs.Answers.{AnswersUnless}
use Rattle.fetch_pack.specs.Reading.{◌>>=◌, is_memory, record_len, parsed, all_parsed}
use Rattle.fetch_pack.proofs.Steps.{record_is, records_step, records_end}

abbrev pub Parsed : Type 0
Parsed = Result (List Stored) PackError

-- what was parsed before, and what is still parsed
abbrev pub with_front : List Stored → Parsed → Parsed
with_front front r = r >>= λ os. Ok (front ++ os)

-- one more, and the rest
abbrev one_more : Result Stored PackError → Parsed → Parsed
one_more one rest = one >>= λ o. rest >>= λ os. Ok (o ∷ os)

regroup : (front : List Stored) (o : Stored) (r : Parsed) → with_front front (r >>= λ os. Ok (o ∷ os)) ≡ with_front (front ++ o ∷ []) r
regroup front o (Ok os) = ap Ok (simp append_assoc)
regroup front o (Err e) = refl

-- the payloads of the records from one on, at their places in a pack of this length
abbrev pub parsed_from : PackVersion → Kind → ℕ → ℕ → List ℕ → Parsed
parsed_from v hash pack_len count bytes = all_parsed v hash (pack_len - length bytes) (records v hash count bytes).written

next_payloads : (v : PackVersion) (hash : Kind) (pack_len count i : ℕ) (bytes : List ℕ) (x : Written × List ℕ) → length bytes ≤ pack_len → i < count → record_at v hash bytes ≡ Some x
    → parsed_from v hash pack_len (count - i) bytes ≡ one_more (parsed hash (pack_len - length bytes) x.0.payload) (parsed_from v hash pack_len (count - (i + 1)) x.1)
next_payloads v hash pack_len count i bytes x fits lt is =
    let place : pack_len - length bytes + record_len v x.0 ≡ pack_len - length x.1 = omega (arith, (record_is v hash bytes x is).0) in
    ap (λ (r : Records). all_parsed v hash (pack_len - length bytes) r.written) (records_step v hash count i bytes x lt is)
    ∙ ap (λ (n : ℕ). one_more (parsed hash (pack_len - length bytes) x.0.payload) (all_parsed v hash n (records v hash (count - (i + 1)) x.1).written)) place

pub goes_on : (front : List Stored) (v : PackVersion) (hash : Kind) (pack_len count i : ℕ) (bytes : List ℕ) (x : Written × List ℕ) (o : Stored) (total : Parsed)
    → length bytes ≤ pack_len → i < count → record_at v hash bytes ≡ Some x → parsed hash (pack_len - length bytes) x.0.payload ≡ Ok o
    → with_front front (parsed_from v hash pack_len (count - i) bytes) ≡ total → with_front (front ++ o ∷ []) (parsed_from v hash pack_len (count - (i + 1)) x.1) ≡ total
goes_on front v hash pack_len count i bytes x o total fits lt is ok so_far =
    let rest = parsed_from v hash pack_len (count - (i + 1)) x.1 in
    let one : with_front front (parsed_from v hash pack_len (count - i) bytes) ≡ with_front (front ++ o ∷ []) rest =
    ap (with_front front) (next_payloads v hash pack_len count i bytes x fits lt is ∙ ap (λ r. one_more r rest) ok) ∙ regroup front o rest in
    sym one ∙ so_far

fails_on : (e : PackError) (front : List Stored) (r : Result Stored PackError) (rest : Parsed) → AnswersUnless is_memory r (Err e) → AnswersUnless is_memory (with_front front (one_more r rest)) (Err e)
fails_on (Malformed place) front r rest is = ap (λ s. with_front front (one_more s rest)) is
fails_on (PackDigest found computed) front r rest is = ap (λ s. with_front front (one_more s rest)) is
fails_on (IdMismatch written computed) front r rest is = ap (λ s. with_front front (one_more s rest)) is
fails_on (Collision id) front r rest is = ap (λ s. with_front front (one_more s rest)) is
fails_on NoMemory front r rest is = tt

pub ends : (e : PackError) (front : List Stored) (v : PackVersion) (hash : Kind) (pack_len count i : ℕ) (bytes : List ℕ) (x : Written × List ℕ) (total : Parsed)
    → length bytes ≤ pack_len → i < count → record_at v hash bytes ≡ Some x → AnswersUnless is_memory (parsed hash (pack_len - length bytes) x.0.payload) (Err e)
    → with_front front (parsed_from v hash pack_len (count - i) bytes) ≡ total → AnswersUnless is_memory total (Err e)
ends e front v hash pack_len count i bytes x total fits lt is bad so_far =
    let rest = parsed_from v hash pack_len (count - (i + 1)) x.1 in
    subst (λ r. AnswersUnless is_memory r (Err e)) (sym (ap (with_front front) (next_payloads v hash pack_len count i bytes x fits lt is)) ∙ so_far) (fails_on e front (parsed hash (pack_len - length bytes) x.0.payload) rest bad)

nothing_more : (front : List Stored) (v : PackVersion) (hash : Kind) (place : ℕ) (r : Records) (total : Parsed) → r.written ≡ [] → with_front front (all_parsed v hash place r.written) ≡ total → total ≡ Ok front
nothing_more front v hash place r total none so_far =
    sym so_far ∙ ap (λ (ws : List Written). with_front front (all_parsed v hash place ws)) none ∙ ap Ok (append-nil front)

pub is_short : (front : List Stored) (v : PackVersion) (hash : Kind) (pack_len count i : ℕ) (bytes : List ℕ) (total : Parsed) → i < count → record_at v hash bytes ≡ None
    → with_front front (parsed_from v hash pack_len (count - i) bytes) ≡ total → total ≡ Ok front
is_short front v hash pack_len count i bytes total lt is so_far =
    nothing_more front v hash (pack_len - length bytes) (records v hash (count - i) bytes) total (ap (λ (r : Records). r.written) (records_end v hash count i bytes lt is)) so_far

pub is_done : (front : List Stored) (v : PackVersion) (hash : Kind) (pack_len count i : ℕ) (bytes : List ℕ) (total : Parsed) → count ≤ i
    → with_front front (parsed_from v hash pack_len (count - i) bytes) ≡ total → total ≡ Ok front
is_done front v hash pack_len count i bytes total le so_far =
    let n : count - i ≡ 0 = omega arith in
    nothing_more front v hash (pack_len - length bytes) (records v hash (count - i) bytes) total (ap (λ (m : ℕ). (records v hash m bytes).written) n) so_far
