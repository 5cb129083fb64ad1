-- Bytes that are fed one by one.
use Rattle.std.proofs.Common.{◌≡◌, ℕ, suc, ◌+◌, ◌-◌, ◌<◌, ◌≤◌, Bool, true, List, [], ◌∷◌, ◌++◌, length, take, drop, get_or, Option, Some, None, Result, Ok, Err, refl, sym, ap, ◌∙◌, subst, arith, append_assoc, length-append, inl, inr}
use Rattle.std.specs.Prelude.{◌⊎◌}
use Rattle.std.proofs.lemmas.List.{append-nil, length-take, take_all, take_at, take_more}
use Rattle.std.proofs.Math.Seq.{drop-cons, take-append_seam}
use Rattle.fetch_base.specs.declared.id.Kind.{Kind}
use Rattle.fetch_replies.specs.LinesTold.{Tells, Writes}
use Rattle.fetch_lines.specs.Talks.{IsFront}
use Rattle.fetch_lines.specs.Written.{payload_of}
use Rattle.fetch_lines.specs.declared.lines.line.Line.{Line}
use Rattle.fetch_replies.specs.declared.replies.reply.ReplyError.{ReplyError}
use Rattle.fetch_replies.specs.declared.replies.reply.ReplyError.TheVariants.{Short, Broken, TooLong, Said}
use Rattle.fetch_lines.specs.declared.peer.SendFault.{SendFault}
use Rattle.fetch_lines.specs.declared.peer.SendFault.TheVariants as sending
use Rattle.fetch_replies.proofs.ReadBack.{told_were}
use Rattle.fetch_asked.specs.declared.asked.Asked.{Asked}
use Rattle.fetch_asked.specs.declared.error.ServeError.{ServeError}
use Rattle.fetch_asked.specs.declared.error.ServeError.TheVariants as errors
use Rattle.fetch_asked.specs.declared.intake.Refusal.{Refusal}
use Rattle.fetch_asked.specs.declared.intake.Refusal.TheVariants as refusals
use Rattle.fetch_serve.specs.Hearing.{Hears, IsShown, fault_of}
use Rattle.fetch_asked.specs.Intakes.{error_of}
use Rattle.fetch_serve.specs.Replies.{replies_to}
use Rattle.fetch_asked.specs.Requests.{asked_step, start_of}
use Rattle.fetch_serve.specs.Served.{Data}
use Rattle.fetch_serve.specs.Servings.{FeedsBy, RefusesBy, Serving, Takes}
use Rattle.fetch_asked.specs.Texts.{AskedIn, IsBegun, and_more, and_others, asked_in, joined, request_at, request_bound}
use Rattle.fetch_asked.proofs.Asking.{asked_in-begun, asked_in-more, asked_in-nothing, asked_in-step, one}
use Rattle.fetch_serve.proofs.Growing.{replies_to-append}

-- ---- one piece after another

asked_on : (s mid : Serving) (first second : List ℕ) → Takes s first mid None
    → asked_in s.served.hash s.begun (s.pending ++ (first ++ second)) ≡ joined (asked_in s.served.hash s.begun (s.pending ++ first)).whole (asked_in mid.served.hash mid.begun (mid.pending ++ second))
asked_on s mid first second t =
    let f = asked_in s.served.hash s.begun (s.pending ++ first) in
    ap (asked_in s.served.hash s.begun) (sym (append_assoc s.pending first second)) ∙ asked_in-more s.served.hash s.begun (s.pending ++ first) second ∙ ap (and_more s.served.hash second f) t.trouble
    ∙ ap (joined f.whole)
    (sym (ap (λ (d : Data). asked_in d.hash mid.begun (mid.pending ++ second)) t.served ∙ ap (λ (b : Bool). asked_in s.served.hash b (mid.pending ++ second)) t.begun ∙ ap (λ (l : List ℕ). asked_in s.served.hash f.begun (l ++ second)) t.pending))

pub takes_then : (s mid now : Serving) (first second : List ℕ) (why : Option ServeError) → Takes s first mid None → Takes mid second now why → Takes s (first ++ second) now why
takes_then s mid now first second why t u =
    let on = asked_on s mid first second t in
    let f = asked_in s.served.hash s.begun (s.pending ++ first) in
    let g = asked_in mid.served.hash mid.begun (mid.pending ++ second) in
    record {
      served = u.served ∙ t.served;
      begun = u.begun ∙ sym (ap (λ (h : AskedIn). h.begun) on);
      pending = u.pending ∙ sym (ap (λ (h : AskedIn). h.rest) on);
      outgoing = u.outgoing ∙ ap (λ (l : List ℕ). l ++ replies_to mid.served g.whole) t.outgoing ∙ append_assoc s.outgoing (replies_to s.served f.whole) (replies_to mid.served g.whole)
          ∙ ap (λ (d : Data). s.outgoing ++ (replies_to s.served f.whole ++ replies_to d g.whole)) t.served ∙ ap (λ (l : List ℕ). s.outgoing ++ l) (sym (replies_to-append s.served f.whole g.whole))
          ∙ sym (ap (λ (h : AskedIn). s.outgoing ++ replies_to s.served h.whole) on);
      trouble = ap (λ (h : AskedIn). h.trouble) on ∙ u.trouble;
    }

pub takes_nothing : (s : Serving) → IsBegun s.served.hash s.begun s.pending → Takes s [] s None
takes_nothing s begun =
    let none = ap (asked_in s.served.hash s.begun) (append-nil s.pending) ∙ asked_in-begun s.served.hash s.begun s.pending begun in
    record {
      served = refl;
      begun = sym (ap (λ (h : AskedIn). h.begun) none);
      pending = sym (ap (λ (h : AskedIn). h.rest) none);
      outgoing = sym (ap (λ (h : AskedIn). s.outgoing ++ replies_to s.served h.whole) none ∙ append-nil s.outgoing);
      trouble = ap (λ (h : AskedIn). h.trouble) none;
    }

-- ---- a byte that completes a request

-- a request has four bytes at least
four_bytes : (hash : Kind) (begun : Bool) (text rest : List ℕ) (asked : Asked) → request_at hash begun text ≡ Ok (asked, rest) → 4 ≤ length text
four_bytes hash begun text rest asked read = let were = told_were (asked_step hash) request_bound 0 (start_of begun) text rest asked read in by_lines were.0 were.1 were.2
  where
    by_lines : (lines : List Line) → Writes request_bound 0 lines rest text → Tells (asked_step hash) (start_of begun) lines asked → 4 ≤ length text
    by_lines [] writes tells = absurd tells
    by_lines (line ∷ lines) (behind, is, writes) tells =
        let len = ap length is.is ∙ length-append is.digits (payload_of line ++ behind) in
        let four = is.four in
        omega arith

no_prefix : (hash : Kind) (begun : Bool) (pending front : List ℕ) (place : ℕ) (asked : Asked) (tail : List ℕ) → request_at hash begun pending ≡ Err (Short place) → ((other : List ℕ) → request_at hash begun (front ++ other) ≡ Ok (asked, other)) → pending ≡ front ++ tail → ⊥
no_prefix hash begun pending front place asked tail short others is =
    let e : ◌≡◌ {A = Result (Asked × List ℕ) ReplyError} (Err (Short place)) (Ok (asked, tail)) = sym short ∙ ap (request_at hash begun) is ∙ others tail in cc

-- the byte that completes a request ends it
pub at_its_end : (hash : Kind) (begun : Bool) (pending rest : List ℕ) (b : ℕ) (asked : Asked) → IsBegun hash begun pending → request_at hash begun (pending ++ b ∷ []) ≡ Ok (asked, rest) → rest ≡ []
at_its_end hash begun pending [] b asked (place, short) read = refl
at_its_end hash begun pending (r ∷ rest) b asked (place, short) read =
    let o = one hash begun (pending ++ b ∷ []) (r ∷ rest) asked read in
    let len = sym (length-append pending (b ∷ [])) ∙ ap length o.is ∙ length-append o.front (r ∷ rest) in
    let n : length pending ≡ length o.front + (length pending - length o.front) = omega arith in
    absurd (no_prefix hash begun pending o.front place asked (take (length pending - length o.front) (r ∷ rest)) short o.others
    (sym (take-append_seam pending (b ∷ [])) ∙ ap (take (length pending)) o.is ∙ ap (λ (k : ℕ). take k (o.front ++ r ∷ rest)) n ∙ past o.front (r ∷ rest) (length pending - length o.front)))
  where
    past : (xs ys : List ℕ) (k : ℕ) → take (length xs + k) (xs ++ ys) ≡ xs ++ take k ys
    past [] ys k = let n : 0 + k ≡ k = omega arith in ap (λ (m : ℕ). take m ys) n
    past (x ∷ xs) ys k = let n : length (x ∷ xs) + k ≡ suc (length xs + k) = omega arith in ap (λ (m : ℕ). take m (x ∷ (xs ++ ys))) n ∙ ap (λ (l : List ℕ). x ∷ l) (past xs ys k)

-- with a byte more, other bytes are pending
moved : (hash : Kind) (begun : Bool) (pending : List ℕ) (b : ℕ) (found : Result (Asked × List ℕ) ReplyError) → request_at hash begun (pending ++ b ∷ []) ≡ found → IsBegun hash begun pending
    → length (and_others begun (pending ++ b ∷ []) (asked_in hash true) found).rest ≡ length pending → ⊥
moved hash begun pending b (Ok (asked, rest)) is start same =
    let ends = at_its_end hash begun pending rest b asked start is in
    let none : (asked_in hash true rest).rest ≡ [] = ap (λ (l : List ℕ). (asked_in hash true l).rest) ends ∙ ap (λ (h : AskedIn). h.rest) (asked_in-nothing hash true) in
    let four = four_bytes hash begun (pending ++ b ∷ []) rest asked is in
    let long = length-append pending (b ∷ []) in
    let zero_now = ap length none in
    absurd (omega arith)
moved hash begun pending b (Err (Short place)) is start same = let long = length-append pending (b ∷ []) in absurd (omega arith)
moved hash begun pending b (Err (Broken place)) is start same = let long = length-append pending (b ∷ []) in absurd (omega arith)
moved hash begun pending b (Err TooLong) is start same = let long = length-append pending (b ∷ []) in absurd (omega arith)
moved hash begun pending b (Err (Said said)) is start same = let long = length-append pending (b ∷ []) in absurd (omega arith)

front_of_one : (b : ℕ) (front rest : List ℕ) → b ∷ [] ≡ front ++ rest → (front ≡ []) ⊎ (front ≡ b ∷ [])
front_of_one b [] rest is = inl refl
front_of_one b (x ∷ []) rest is = inr (let same : x ≡ b = cc in ap (λ y. y ∷ []) same)
front_of_one b (x ∷ y ∷ front) rest is = absurd (let n = ap length is in omega (arith, n))

-- Where as many bytes are pending as before, the byte wasn't taken; else it was.
pub byte_taken : (s now : Serving) (b : ℕ) (front : List ℕ) → IsFront front (b ∷ []) → IsBegun s.served.hash s.begun s.pending → Takes s front now None
    → ((length now.pending ≡ length s.pending) × Takes s [] now None) ⊎ ((length now.pending ≡ length s.pending → ⊥) × Takes s (b ∷ []) now None)
byte_taken s now b front (rest, is) begun takes =
    elim (front_of_one b front rest is) [
      | inl none ↦
          (let t : Takes s [] now None = subst (λ (l : List ℕ). Takes s l now None) none takes in
          let stay = t.pending ∙ ap (λ (l : List ℕ). (asked_in s.served.hash s.begun l).rest) (append-nil s.pending) ∙ ap (λ (h : AskedIn). h.rest) (asked_in-begun s.served.hash s.begun s.pending begun) in
          inl (ap length stay, t))
      | inr all ↦
          (let t : Takes s (b ∷ []) now None = subst (λ (l : List ℕ). Takes s l now None) all takes in
          inr (
            λ same. moved s.served.hash s.begun s.pending b (request_at s.served.hash s.begun (s.pending ++ b ∷ [])) refl begun
                (ap (λ (h : AskedIn). length h.rest) (sym (asked_in-step s.served.hash s.begun (s.pending ++ b ∷ []))) ∙ ap length (sym t.pending) ∙ same),
            t,
          ))
    ]

-- ---- what a peer hears

pub hears_refused : (s : Serving) (bytes : List ℕ) (refusal : Refusal) (fault : SendFault) → s.refusal ≡ Some refusal → fault ≡ fault_of refusal → Hears s.refusal s bytes 0 s (Err fault)
hears_refused s bytes refusal fault is same = subst (λ o. Hears o s bytes 0 s (Err fault)) (sym is) (refl, refl, ap (λ f. Err f) same)

pub hears_all : (s now : Serving) (bytes : List ℕ) (count : ℕ) → s.refusal ≡ None → count ≤ length bytes → length bytes ≤ count → now.refusal ≡ None → Takes s (take count bytes) now None → Hears s.refusal s bytes count now (Ok tt)
hears_all s now bytes count is few all goes takes =
    let n : count ≡ length bytes = omega arith in
    subst (λ o. Hears o s bytes count now (Ok tt)) (sym is) (n, goes, subst (λ (l : List ℕ). Takes s l now None) (take_all count bytes (omega arith)) takes)

-- the byte at a place
abbrev byte_at : List ℕ → ℕ → List ℕ
byte_at bytes count = get_or bytes count 0 ∷ []

one_byte : (bytes : List ℕ) (count : ℕ) → count < length bytes → take 1 (drop count bytes) ≡ byte_at bytes count
one_byte bytes count lt = ap (take 1) (drop-cons bytes count 0 lt)

-- what is fed is that byte
pub piece_is : (bytes piece : List ℕ) (count n : ℕ) → count < length bytes → n ≡ 1 → piece ≡ take n (drop count bytes) → piece ≡ byte_at bytes count
piece_is bytes piece count n lt few is = is ∙ ap (λ (k : ℕ). take k (drop count bytes)) few ∙ one_byte bytes count lt

fed_more : (s mid now : Serving) (bytes : List ℕ) (count : ℕ) (why : Option ServeError) → count < length bytes → Takes s (take count bytes) mid None → Takes mid (byte_at bytes count) now why → Takes s (take (count + 1) bytes) now why
fed_more s mid now bytes count why lt t u = subst (λ (l : List ℕ). Takes s l now why) (sym (take_more bytes count 0 lt)) (takes_then s mid now (take count bytes) (byte_at bytes count) why t u)

-- a byte that is taken
pub hears_on : {u : Unit {0}} (s mid now : Serving) (bytes piece : List ℕ) (count : ℕ) → count < length bytes → piece ≡ byte_at bytes count → mid.refusal ≡ None → Takes s (take count bytes) mid None → FeedsBy mid.refusal mid piece now (Ok u)
    → (now.refusal ≡ None) × Takes s (take (count + 1) bytes) now None
hears_on s mid now bytes piece count lt is goes t fed =
    let f = subst (λ o. FeedsBy o mid piece now (Ok tt)) goes fed in
    (f.0, fed_more s mid now bytes count None lt t (subst (λ (l : List ℕ). Takes mid l now None) is f.1))

feeds_err : (mid now : Serving) (piece : List ℕ) (e : ServeError) → mid.refusal ≡ None → FeedsBy mid.refusal mid piece now (Err e) → (refusal : Refusal) × (now.refusal ≡ Some refusal) × (e ≡ error_of refusal) × RefusesBy mid piece now refusal
feeds_err mid now piece e goes fed = subst (λ o. FeedsBy o mid piece now (Err e)) goes fed

memory_by : (mid now : Serving) (piece : List ℕ) (refusal : Refusal) → errors.NoMemory ≡ error_of refusal → now.refusal ≡ Some refusal → RefusesBy mid piece now refusal
    → (now.refusal ≡ Some refusals.NoMemory) × ((front : List ℕ) × IsFront front piece × Takes mid front now None)
memory_by mid now piece (refusals.Malformed place) e is by = absurd (cc)
memory_by mid now piece refusals.TooLong e is by = absurd (cc)
memory_by mid now piece refusals.NoMemory e is by = (is, by)

-- a byte at which memory ran out, which was taken where other bytes are pending now
pub hears_memory : (s mid now : Serving) (bytes piece : List ℕ) (count after before_len now_len : ℕ) → s.refusal ≡ None → count < length bytes → piece ≡ byte_at bytes count → mid.refusal ≡ None → IsBegun mid.served.hash mid.begun mid.pending
    → Takes s (take count bytes) mid None → FeedsBy mid.refusal mid piece now (Err errors.NoMemory) → before_len ≡ length mid.pending → now_len ≡ length now.pending
    → (now_len ≡ before_len → after ≡ count) → ((now_len ≡ before_len → ⊥) → after ≡ count + 1) → Hears s.refusal s bytes after now (Err sending.NoMemory)
hears_memory s mid now bytes piece count after before_len now_len is lt piece_at goes begun t fed before_is now_is same other =
    let f = feeds_err mid now piece errors.NoMemory goes fed in
    let m = memory_by mid now piece f.0 f.2 f.1 f.3 in
    let front = subst (λ (l : List ℕ). IsFront m.1.0 l) piece_at m.1.1 in
    subst (λ o. Hears o s bytes after now (Err sending.NoMemory)) (sym is)
    (elim (byte_taken mid now (get_or bytes count 0) m.1.0 front begun m.1.2) [
      | inl (stay, u) ↦
          (let n : after ≡ count = same (now_is ∙ stay ∙ sym before_is) in (
            omega arith,
            m.0,
            subst (λ (k : ℕ). Takes s (take k bytes) now None) (sym n) (subst (λ (l : List ℕ). Takes s l now None) (append-nil (take count bytes)) (takes_then s mid now (take count bytes) [] None t u)),
          ))
      | inr (moves, u) ↦
          (let n : after ≡ count + 1 = other (λ e. moves (sym now_is ∙ e ∙ before_is)) in
          (omega arith, m.0, subst (λ (k : ℕ). Takes s (take k bytes) now None) (sym n) (fed_more s mid now bytes count None lt t u)))
    ])

take_again : (bytes : List ℕ) (count : ℕ) → count < length bytes → take (length (take (count + 1) bytes) - 1) (take (count + 1) bytes) ≡ take count bytes
take_again bytes count lt =
    let len = length-take (count + 1) bytes in
    let n : length (take (count + 1) bytes) - 1 ≡ count = omega arith in
    ap (λ (k : ℕ). take k (take (count + 1) bytes)) n ∙ ap (take count) (take_more bytes count 0 lt) ∙ take_at (take count bytes) (byte_at bytes count) count (omega (arith, length-take count bytes))

shown_by : (s mid now : Serving) (bytes piece : List ℕ) (count : ℕ) (e : ServeError) (refusal : Refusal) → count < length bytes → piece ≡ byte_at bytes count → Takes s (take count bytes) mid None → (e ≡ errors.NoMemory → ⊥)
    → now.refusal ≡ Some refusal → e ≡ error_of refusal → RefusesBy mid piece now refusal → IsShown s (take (count + 1) bytes) now
shown_by s mid now bytes piece count e (refusals.Malformed place) lt is t other gone why by = record {
  some = omega (arith, length-take (count + 1) bytes);
  trouble = errors.Malformed place;
  takes = fed_more s mid now bytes count (Some (errors.Malformed place)) lt t (subst (λ (l : List ℕ). Takes mid l now (Some (errors.Malformed place))) is by);
  fine = ap (λ (l : List ℕ). (asked_in s.served.hash s.begun (s.pending ++ l)).trouble) (take_again bytes count lt) ∙ t.trouble;
  refusal = refusals.Malformed place;
  refused = gone;
  fault = refl;
}
shown_by s mid now bytes piece count e refusals.TooLong lt is t other gone why by = record {
  some = omega (arith, length-take (count + 1) bytes);
  trouble = error_of refusals.TooLong;
  takes = fed_more s mid now bytes count (Some (error_of refusals.TooLong)) lt t (subst (λ (l : List ℕ). Takes mid l now (Some (error_of refusals.TooLong))) is by);
  fine = ap (λ (l : List ℕ). (asked_in s.served.hash s.begun (s.pending ++ l)).trouble) (take_again bytes count lt) ∙ t.trouble;
  refusal = refusals.TooLong;
  refused = gone;
  fault = refl;
}
shown_by s mid now bytes piece count e refusals.NoMemory lt is t other gone why by = absurd (other why)

-- a byte that is refused
pub hears_failed : (s mid now : Serving) (bytes piece : List ℕ) (count : ℕ) (e : ServeError) → s.refusal ≡ None → count < length bytes → piece ≡ byte_at bytes count → mid.refusal ≡ None → Takes s (take count bytes) mid None → FeedsBy mid.refusal mid piece now (Err e)
    → (e ≡ errors.NoMemory → ⊥) → Hears s.refusal s bytes (count + 1) now (Err sending.Failed)
hears_failed s mid now bytes piece count e is lt piece_at goes t fed other =
    let f = feeds_err mid now piece e goes fed in
    subst (λ o. Hears o s bytes (count + 1) now (Err sending.Failed)) (sym is) (omega arith, shown_by s mid now bytes piece count e f.0 lt piece_at t other f.1 f.2 f.3)
