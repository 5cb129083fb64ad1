-- Requests are answered one after another, while memory lasts.
use Rattle.std.proofs.Common.{◌≡◌, ℕ, ◌+◌, ◌-◌, ◌≤◌, ◌<◌, Bool, true, false, List, [], ◌∷◌, ◌++◌, length, take, drop, Option, Some, None, Ok, refl, sym, ap, ◌∙◌, arith, append_assoc, inl, inr, length-append, take-append-drop}
use Rattle.std.proofs.lemmas.Bool.{cases_lt}
use Rattle.std.proofs.lemmas.List.{append-nil}
use Rattle.std.proofs.Math.Seq.{take-append_seam, drop-append_seam, take-add}
use Rattle.fetch_lines.specs.Talks.{IsFront}
use Rattle.fetch_asked.specs.declared.asked.Asked.{Asked}
use Rattle.fetch_asked.specs.declared.intake.Refusal.{Refusal}
use Rattle.fetch_asked.specs.declared.intake.Refusal.TheVariants as refusals
use Rattle.fetch_asked.specs.declared.error.ServeError.{ServeError}
use Rattle.fetch_asked.specs.declared.error.ServeError.TheVariants as errors
use Rattle.fetch_asked.specs.Intakes.{Incoming, StopsAt, cut_to, fed, is_memory, passed}
use Rattle.fetch_serve.specs.Replies.{replies_to, reply_text}
use Rattle.fetch_serve.specs.Served.{Data}
use Rattle.fetch_base.specs.declared.id.Kind.{Kind}
use Rattle.fetch_serve.specs.Servings.{RefusesBy, Takes, state_of}
use Rattle.fetch_asked.specs.Texts.{AskedIn, IsBegun, asked_in, and_others, ends_at, joined, request_at, request_bound, with_first}
use Rattle.fetch_asked.proofs.Asking.{asked_in-begun, asked_in-nothing, asked_in-one, asked_in-step, one, shorter}
use Rattle.fetch_serve.proofs.Growing.{replies_to-append}

-- What is left of the bytes, and what was given, once some requests were answered. Where memory runs out next, the first
-- `kept` of the bytes stay: what is read before them and they are, together, the bytes before the piece and a front of it.
pub record IsAnswering (d : Data) (i : Incoming) (out piece : List ℕ) (j : Incoming) (given : List ℕ) (kept : ℕ) : Type 0 where
  pub hash : j.hash ≡ i.hash
  pub whole : List Asked
  pub front : List ℕ
  pub is : i.pending ++ piece ≡ front ++ j.pending
  pub given_is : given ≡ out ++ replies_to d whole
  pub reads : (rest : List ℕ) → asked_in i.hash i.begun (front ++ rest) ≡ joined whole (asked_in i.hash j.begun rest)
  pub within : kept ≤ length j.pending
  pub begun : asked_in i.hash j.begun (take kept j.pending) ≡ ends_at j.begun (take kept j.pending) None
  pub part : List ℕ
  pub kept_is : front ++ take kept j.pending ≡ i.pending ++ part
  pub behind : IsFront part piece

pub at_first : (d : Data) (i : Incoming) (out piece : List ℕ) → IsBegun i.hash i.begun i.pending → IsAnswering d i out piece (fed i piece) out (length i.pending)
at_first d i out piece begun =
    let seam = take-append_seam i.pending piece in
    let l = length-append i.pending piece in
    record {
      hash = refl;
      whole = [];
      front = [];
      is = refl;
      given_is = sym (append-nil out);
      reads = λ rest. refl;
      within = omega arith;
      begun = rw seam (asked_in-begun i.hash i.begun i.pending begun);
      part = [];
      kept_is = seam ∙ sym (append-nil i.pending);
      behind = (piece, refl);
    }

same_front : (xs ys zs ws : List ℕ) → length xs ≡ length zs → xs ++ ys ≡ zs ++ ws → xs ≡ zs
same_front xs ys zs ws len is = sym (take-append_seam xs ys) ∙ ap (take (length xs)) is ∙ ap (λ (n : ℕ). take n (zs ++ ws)) len ∙ take-append_seam zs ws

same_back : (xs ys zs : List ℕ) → xs ++ ys ≡ xs ++ zs → ys ≡ zs
same_back xs ys zs is = sym (drop-append_seam xs ys) ∙ ap (drop (length xs)) is ∙ drop-append_seam xs zs

-- a request takes the bytes before what is behind it
request_front : (d : Data) (i : Incoming) (asked : Asked) (count : ℕ) → count ≤ length i.pending → request_at i.hash i.begun i.pending ≡ Ok (asked, drop count i.pending)
    → (rest : List ℕ) → request_at i.hash i.begun (take count i.pending ++ rest) ≡ Ok (asked, rest)
request_front d i asked count le read rest =
    let o = one i.hash i.begun i.pending (drop count i.pending) asked read in
    let split = take-append-drop count i.pending in
    let l1 = ap length o.is ∙ length-append o.front (drop count i.pending) in
    let l2 = sym (ap length split) ∙ length-append (take count i.pending) (drop count i.pending) in
    let same : o.front ≡ take count i.pending = same_front o.front (drop count i.pending) (take count i.pending) (drop count i.pending) (omega arith) (sym o.is ∙ sym split) in
    rw (← same) (o.others rest)

not_whole : (asked : Asked) (f : AskedIn) (begun : Bool) (text : List ℕ) → with_first asked f ≡ ends_at begun text None → ⊥
not_whole asked f begun text e = let w : asked ∷ f.whole ≡ [] = ap (λ (g : AskedIn). g.whole) e in cc

-- the bytes that are kept are fewer than those of the request
longer : (d : Data) (i : Incoming) (asked : Asked) (count kept : ℕ) → count ≤ length i.pending → kept ≤ length i.pending → request_at i.hash i.begun i.pending ≡ Ok (asked, drop count i.pending)
    → asked_in i.hash i.begun (take kept i.pending) ≡ ends_at i.begun (take kept i.pending) None → kept < count
longer d i asked count kept le le' read none =
    elim (cases_lt kept count) [
      | inl lt ↦ lt
      | inr ge ↦
          let n : kept ≡ count + (kept - count) = omega arith in
          let parts : take kept i.pending ≡ take count i.pending ++ take (kept - count) (drop count i.pending) = ap (λ (n : ℕ). take n i.pending) n ∙ take-add count (kept - count) i.pending in
          absurd (not_whole asked (asked_in i.hash true (take (kept - count) (drop count i.pending))) i.begun (take kept i.pending)
          (sym (ap (asked_in i.hash i.begun) parts ∙ asked_in-one i.hash i.begun _ _ asked (request_front d i asked count le read (take (kept - count) (drop count i.pending)))) ∙ none))
    ]

pub next : (d : Data) (i : Incoming) (out piece : List ℕ) (j : Incoming) (given : List ℕ) (kept : ℕ) (asked : Asked) (count : ℕ) (more : List ℕ) → IsAnswering d i out piece j given kept
    → count ≤ length j.pending → request_at j.hash j.begun j.pending ≡ Ok (asked, drop count j.pending) → more ≡ given ++ reply_text d asked
    → IsAnswering d i out piece (passed j count) more 0
next d i out piece j given kept asked count more a le read is_more =
    let none : asked_in j.hash j.begun (take kept j.pending) ≡ ends_at j.begun (take kept j.pending) None = rw a.hash a.begun in
    let lt = longer d j asked count kept le a.within read none in
    let own = request_front d j asked count le read in
    let n : count ≡ kept + (count - kept) = omega arith in
    let mid = take (count - kept) (drop kept j.pending) in
    let parts : take count j.pending ≡ take kept j.pending ++ mid = ap (λ (n : ℕ). take n j.pending) n ∙ take-add kept (count - kept) j.pending in
    let front = a.front ++ take count j.pending in
    let kept_is : front ≡ i.pending ++ (a.part ++ mid) =
    ap (λ (l : List ℕ). a.front ++ l) parts ∙ sym (append_assoc a.front (take kept j.pending) mid) ∙ ap (λ (l : List ℕ). l ++ mid) a.kept_is ∙ append_assoc i.pending a.part mid in
    let all : i.pending ++ piece ≡ front ++ drop count j.pending =
    a.is ∙ ap (λ (l : List ℕ). a.front ++ l) (sym (take-append-drop count j.pending)) ∙ sym (append_assoc a.front (take count j.pending) (drop count j.pending)) in
    record {
      hash = a.hash;
      whole = a.whole ++ asked ∷ [];
      front = front;
      is = all;
      given_is = is_more ∙ ap (λ (l : List ℕ). l ++ reply_text d asked) a.given_is ∙ append_assoc out (replies_to d a.whole) (reply_text d asked)
          ∙ ap (λ (l : List ℕ). out ++ l) (sym (replies_to-append d a.whole (asked ∷ []) ∙ ap (λ (l : List ℕ). replies_to d a.whole ++ l) (append-nil (reply_text d asked))));
      reads = λ rest.
          ap (asked_in i.hash i.begun) (append_assoc a.front (take count j.pending) rest) ∙ a.reads (take count j.pending ++ rest)
          ∙ ap (joined a.whole) (rw (← a.hash) (asked_in-one j.hash j.begun (take count j.pending ++ rest) rest asked (own rest)))
          ∙ sym (ap (λ (l : List Asked). record (asked_in i.hash true rest) { whole = l }) (append_assoc a.whole (asked ∷ []) (asked_in i.hash true rest).whole));
      within = omega arith;
      begun = asked_in-nothing i.hash true;
      part = a.part ++ mid;
      kept_is = append-nil front ∙ kept_is;
      behind = (drop count j.pending, same_back i.pending piece ((a.part ++ mid) ++ drop count j.pending) (all ∙ ap (λ (l : List ℕ). l ++ drop count j.pending) kept_is ∙ append_assoc i.pending (a.part ++ mid) (drop count j.pending)));
    }

joined_end : (f : AskedIn) → joined [] f ≡ f
joined_end f = refl

-- nothing more is whole
pub ended : (d : Data) (i : Incoming) (out piece : List ℕ) (j : Incoming) (given : List ℕ) (kept : ℕ) (trouble : Option ServeError) → IsAnswering d i out piece j given kept → i.hash ≡ d.hash
    → asked_in j.hash j.begun j.pending ≡ ends_at j.begun j.pending trouble → Takes (state_of d i out) piece (state_of d j given) trouble
ended d i out piece j given kept trouble a same ends =
    let all : asked_in d.hash i.begun (i.pending ++ piece) ≡ joined a.whole (ends_at j.begun j.pending trouble) =
    ap (λ (h : Kind). asked_in h i.begun (i.pending ++ piece)) (sym same) ∙ ap (asked_in i.hash i.begun) a.is ∙ a.reads j.pending ∙ ap (joined a.whole) (ap (λ (h : Kind). asked_in h j.begun j.pending) (sym a.hash) ∙ ends) in
    record {
      served = refl;
      begun = sym (ap (λ (f : AskedIn). f.begun) all);
      pending = sym (ap (λ (f : AskedIn). f.rest) all);
      outgoing = a.given_is ∙ ap (λ (w : List Asked). out ++ replies_to d w) (sym (append-nil a.whole)) ∙ sym (ap (λ (f : AskedIn). out ++ replies_to d f.whole) all);
      trouble = ap (λ (f : AskedIn). f.trouble) all;
    }

pub all_read : (d : Data) (i : Incoming) (out piece : List ℕ) (j : Incoming) (given : List ℕ) (kept : ℕ) → IsAnswering d i out piece j given kept → i.hash ≡ d.hash
    → IsBegun j.hash j.begun j.pending → Takes (state_of d i out) piece (state_of d j given) None
all_read d i out piece j given kept a same begun = ended d i out piece j given kept None a same (asked_in-begun j.hash j.begun j.pending begun)

-- memory ran out
pub ran_out : (d : Data) (i : Incoming) (out piece : List ℕ) (j : Incoming) (given : List ℕ) (kept : ℕ) → IsAnswering d i out piece j given kept → i.hash ≡ d.hash
    → RefusesBy (state_of d i out) piece (state_of d (cut_to j kept) given) refusals.NoMemory
ran_out d i out piece j given kept a same =
    let all : asked_in d.hash i.begun (i.pending ++ a.part) ≡ joined a.whole (ends_at j.begun (take kept j.pending) None) =
    ap (λ (h : Kind). asked_in h i.begun (i.pending ++ a.part)) (sym same) ∙ ap (asked_in i.hash i.begun) (sym a.kept_is) ∙ a.reads (take kept j.pending) ∙ ap (joined a.whole) a.begun in (
      a.part,
      a.behind,
      record {
        served = refl;
        begun = sym (ap (λ (f : AskedIn). f.begun) all);
        pending = sym (ap (λ (f : AskedIn). f.rest) all);
        outgoing = a.given_is ∙ ap (λ (w : List Asked). out ++ replies_to d w) (sym (append-nil a.whole)) ∙ sym (ap (λ (f : AskedIn). out ++ replies_to d f.whole) all);
        trouble = ap (λ (f : AskedIn). f.trouble) all;
      },
    )

-- a line is refused
pub refused : (d : Data) (i : Incoming) (out piece : List ℕ) (j : Incoming) (given : List ℕ) (kept : ℕ) (refusal : Refusal) → IsAnswering d i out piece j given kept → i.hash ≡ d.hash
    → is_memory refusal ≡ false → StopsAt (request_at j.hash j.begun j.pending) refusal → RefusesBy (state_of d i out) piece (state_of d j given) refusal
refused d i out piece j given kept (refusals.Malformed place) a same other stops =
    ended d i out piece j given kept (Some (errors.Malformed place)) a same (asked_in-step j.hash j.begun j.pending ∙ ap (and_others j.begun j.pending (asked_in j.hash true)) stops)
refused d i out piece j given kept refusals.TooLong a same other stops =
    ended d i out piece j given kept (Some (errors.RequestTooLong request_bound)) a same (asked_in-step j.hash j.begun j.pending ∙ ap (and_others j.begun j.pending (asked_in j.hash true)) stops)
refused d i out piece j given kept refusals.NoMemory a same other stops = absurd (cc)

-- nothing of a piece was taken
pub none_taken : (d : Data) (i : Incoming) (out piece : List ℕ) → IsBegun i.hash i.begun i.pending → i.hash ≡ d.hash → RefusesBy (state_of d i out) piece (state_of d i out) refusals.NoMemory
none_taken d i out piece begun same =
    let all : asked_in d.hash i.begun (i.pending ++ []) ≡ ends_at i.begun i.pending None =
    ap (λ (h : Kind). asked_in h i.begun (i.pending ++ [])) (sym same) ∙ ap (asked_in i.hash i.begun) (append-nil i.pending) ∙ asked_in-begun i.hash i.begun i.pending begun in (
      [],
      (piece, refl),
      record {
        served = refl;
        begun = sym (ap (λ (f : AskedIn). f.begun) all);
        pending = sym (ap (λ (f : AskedIn). f.rest) all);
        outgoing = sym (append-nil out) ∙ sym (ap (λ (f : AskedIn). out ++ replies_to d f.whole) all);
        trouble = ap (λ (f : AskedIn). f.trouble) all;
      },
    )

pub fewer : (i : Incoming) (asked : Asked) (count : ℕ) → request_at i.hash i.begun i.pending ≡ Ok (asked, drop count i.pending) → length (passed i count).pending < length i.pending
fewer i asked count read = let s = shorter i.hash i.begun i.pending (drop count i.pending) asked read in omega arith
