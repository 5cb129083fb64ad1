-- A request is read on line by line, while its bytes come in pieces.
use Rattle.std.proofs.Common.{◌≡◌, ℕ, ◌+◌, ◌≤◌, Bool, List, [], ◌++◌, length, drop, Option, Some, None, Result, Ok, Err, refl, sym, ap, ◌∙◌, arith, append_assoc, length-append, subst}
use Rattle.std.proofs.lemmas.List.{append-nil, drop-append-le, drop-drop}
use Rattle.fetch_base.specs.declared.id.Kind.{Kind}
use Rattle.fetch_lines.specs.declared.lines.line.Line.{Line}
use Rattle.fetch_lines.specs.declared.lines.section.LineError.{LineError}
use Rattle.fetch_lines.specs.declared.lines.section.LineError.TheVariants as lines
use Rattle.fetch_replies.specs.declared.replies.reply.ReplyError.TheVariants.{Short, Broken}
use Rattle.fetch_lines.specs.Lines.{line_at, line_len}
use Rattle.fetch_lines.specs.LineLaws.{line_at-is, line_at-short}
use Rattle.fetch_lines.specs.SectionLaws.{line_at-more}
use Rattle.fetch_replies.specs.StepLaws.{line_then, read_by-step}
use Rattle.fetch_replies.specs.Stepping.{goes, ends, breaks, after_line, after_step, read_by}
use Rattle.fetch_asked.specs.declared.asked.Asked.{Asked}
use Rattle.fetch_asked.specs.declared.intake.Refusal.{Refusal}
use Rattle.fetch_asked.specs.declared.intake.Refusal.TheVariants as refusals
use Rattle.fetch_asked.specs.declared.reading.Reading.{Reading}
use Rattle.fetch_asked.specs.Intakes.{IsRead, IsReadUpTo, IsShortBehind, IsWholeBehind, StopsAt, refusal_of, resumed, told_of}
use Rattle.fetch_asked.specs.Requests.{asked_step}
use Rattle.fetch_asked.specs.Texts.{IsBegun, request_at, request_bound}

told_by : (hash : Kind) (bytes : List ℕ) (place : ℕ) (reading : Reading) (more : List ℕ) (found : Result (Line × List ℕ) LineError) → line_at request_bound place (drop place bytes ++ more) ≡ found
    → told_of hash bytes place reading more ≡ after_line found (line_then (asked_step hash) request_bound reading place)
told_by hash bytes place reading more found is =
    read_by-step (asked_step hash) request_bound place reading (drop place bytes ++ more) ∙ ap (λ (l : Result (Line × List ℕ) LineError). after_line l (line_then (asked_step hash) request_bound reading place)) is

-- a line that is there is a step
pub turned : (hash : Kind) (bytes : List ℕ) (place count : ℕ) (reading : Reading) (line : Line) (more : List ℕ) → line_at request_bound place (drop place bytes) ≡ Ok (line, drop count (drop place bytes)) → count ≡ line_len line
    → told_of hash bytes place reading more ≡ after_step place (drop (place + count) bytes ++ more) (λ r. told_of hash bytes (place + count) r more) (asked_step hash reading line)
turned hash bytes place count reading line more is len =
    told_by hash bytes place reading more (Ok (line, drop count (drop place bytes) ++ more)) (line_at-more request_bound place (drop place bytes) more (λ p e. cc) ∙ rw is refl)
    ∙ rw (← len, drop-drop count place bytes) refl

-- a line that can't be read
pub stopped : (hash : Kind) (bytes : List ℕ) (place : ℕ) (reading : Reading) (trouble : LineError) (refusal : Refusal) → line_at request_bound place (drop place bytes) ≡ Err trouble → refusal_of trouble ≡ Some refusal
    → (more : List ℕ) → StopsAt (told_of hash bytes place reading more) refusal
stopped hash bytes place reading (lines.Short p) refusal is named more = absurd (cc)
stopped hash bytes place reading (lines.Broken p) refusal is named more =
    let same : refusals.Malformed p ≡ refusal = cc in
    subst (StopsAt (told_of hash bytes place reading more)) same
    (told_by hash bytes place reading more (Err (lines.Broken p)) (line_at-more request_bound place (drop place bytes) more (λ q e. cc) ∙ rw is refl))
stopped hash bytes place reading lines.TooLong refusal is named more =
    let same : refusals.TooLong ≡ refusal = cc in
    subst (StopsAt (told_of hash bytes place reading more)) same
    (told_by hash bytes place reading more (Err lines.TooLong) (line_at-more request_bound place (drop place bytes) more (λ q e. cc) ∙ rw is refl))

-- a line that isn't whole
pub short : (hash : Kind) (bytes : List ℕ) (place : ℕ) (reading : Reading) (trouble : LineError) → place ≤ request_bound → line_at request_bound place (drop place bytes) ≡ Err trouble → refusal_of trouble ≡ None
    → told_of hash bytes place reading [] ≡ Err (Short place)
short hash bytes place reading (lines.Short p) within is named =
    told_by hash bytes place reading [] (Err (lines.Short p)) (ap (line_at request_bound place) (append-nil (drop place bytes)) ∙ is)
    ∙ ap (λ (n : ℕ). Err (Short n)) (line_at-short request_bound place p (drop place bytes) within is).0
short hash bytes place reading (lines.Broken p) within is named = absurd (cc)
short hash bytes place reading lines.TooLong within is named = absurd (cc)

pub goes_on : (hash : Kind) (bytes : List ℕ) (place count : ℕ) (reading next : Reading) (line : Line) (more : List ℕ) → line_at request_bound place (drop place bytes) ≡ Ok (line, drop count (drop place bytes)) → count ≡ line_len line
    → goes next ≡ asked_step hash reading line → told_of hash bytes (place + count) next more ≡ told_of hash bytes place reading more
goes_on hash bytes place count reading next line more is len step =
    sym (turned hash bytes place count reading line more is len ∙ ap (λ x. after_step place (drop (place + count) bytes ++ more) (λ r. told_of hash bytes (place + count) r more) x) (sym step))

pub whole : (hash : Kind) (bytes : List ℕ) (place count : ℕ) (reading : Reading) (asked : Asked) (line : Line) (more : List ℕ) → line_at request_bound place (drop place bytes) ≡ Ok (line, drop count (drop place bytes)) → count ≡ line_len line
    → ends asked ≡ asked_step hash reading line → told_of hash bytes place reading more ≡ Ok (asked, drop (place + count) bytes ++ more)
whole hash bytes place count reading asked line more is len step =
    turned hash bytes place count reading line more is len ∙ ap (λ x. after_step place (drop (place + count) bytes ++ more) (λ r. told_of hash bytes (place + count) r more) x) (sym step)

pub broken : (hash : Kind) (bytes : List ℕ) (place count : ℕ) (reading : Reading) (line : Line) (more : List ℕ) → line_at request_bound place (drop place bytes) ≡ Ok (line, drop count (drop place bytes)) → count ≡ line_len line
    → breaks ≡ asked_step hash reading line → told_of hash bytes place reading more ≡ Err (Broken place)
broken hash bytes place count reading line more is len step =
    turned hash bytes place count reading line more is len ∙ ap (λ x. after_step place (drop (place + count) bytes ++ more) (λ r. told_of hash bytes (place + count) r more) x) (sym step)

-- a line that was read ends within the bound
pub bounded : (place count : ℕ) (bytes : List ℕ) (line : Line) → line_at request_bound place (drop place bytes) ≡ Ok (line, drop count (drop place bytes)) → count ≡ line_len line → place + count ≤ request_bound
bounded place count bytes line is len = let at = line_at-is request_bound place (drop place bytes) (drop count (drop place bytes)) line is in omega (arith, at.within)

-- ---- an intake

pub read_more : (hash : Kind) (begun : Bool) (bytes : List ℕ) (place : ℕ) (reading : Option Reading) (piece : List ℕ) → IsRead hash begun bytes place reading → IsRead hash begun (bytes ++ piece) place reading
read_more hash begun bytes place None piece h = tt
read_more hash begun bytes place (Some reading) piece h =
    let within : place ≤ length bytes = h.within in
    let l = length-append bytes piece in
    record {
      within = omega arith;
      bounded = h.bounded;
      told = λ more. ap (λ (b : List ℕ). read_by (asked_step hash) request_bound reading place (b ++ more)) (drop-append-le place bytes piece within)
          ∙ ap (λ (b : List ℕ). read_by (asked_step hash) request_bound reading place b) (append_assoc (drop place bytes) piece more)
          ∙ h.told (piece ++ more) ∙ ap (request_at hash begun) (sym (append_assoc bytes piece more));
    }

anew : (hash : Kind) (begun : Bool) (bytes : List ℕ) (place : ℕ) (reading : Option Reading) → IsRead hash begun bytes place reading → IsReadUpTo hash begun bytes (resumed begun place reading).0 (resumed begun place reading).1
anew hash begun bytes place None h = record { within = omega arith; bounded = omega arith; told = λ more. refl }
anew hash begun bytes place (Some reading) h = h

-- what is read on from there was read up to there
pub read_from : (hash : Kind) (begun : Bool) (bytes : List ℕ) (place : ℕ) (reading : Option Reading) (from : ℕ × Reading) → IsRead hash begun bytes place reading → from ≡ resumed begun place reading → IsReadUpTo hash begun bytes from.0 from.1
read_from hash begun bytes place reading from h is = subst (λ (f : ℕ × Reading). IsReadUpTo hash begun bytes f.0 f.1) (sym is) (anew hash begun bytes place reading h)

pub stops_read : (hash : Kind) (begun : Bool) (bytes : List ℕ) (place : ℕ) (reading : Reading) (refusal : Refusal) → IsReadUpTo hash begun bytes place reading → StopsAt (told_of hash bytes place reading []) refusal
    → StopsAt (request_at hash begun bytes) refusal
stops_read hash begun bytes place reading refusal h stops =
    subst (λ f. StopsAt f refusal) (h.told [] ∙ ap (request_at hash begun) (append-nil bytes)) stops

pub finds_whole : (hash : Kind) (begun : Bool) (bytes : List ℕ) (place later : ℕ) (reading : Reading) (asked : Asked) → IsReadUpTo hash begun bytes place reading → IsWholeBehind hash bytes place reading later asked
    → (later ≤ length bytes) × (request_at hash begun bytes ≡ Ok (asked, drop later bytes))
finds_whole hash begun bytes place later reading asked h w =
    (w.within, ap (request_at hash begun) (sym (append-nil bytes)) ∙ sym (h.told []) ∙ w.told [] ∙ ap (λ (b : List ℕ). Ok (asked, b)) (append-nil (drop later bytes)))

pub finds_begun : (hash : Kind) (begun : Bool) (bytes : List ℕ) (place later : ℕ) (reading next : Reading) → IsReadUpTo hash begun bytes place reading → IsShortBehind hash bytes place reading later next → IsBegun hash begun bytes
finds_begun hash begun bytes place later reading next h s =
    (later, ap (request_at hash begun) (sym (append-nil bytes)) ∙ sym (h.told []) ∙ sym (s.told []) ∙ s.short)
