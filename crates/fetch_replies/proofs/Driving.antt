-- A reply is read on line by line, while its bytes come in pieces.
use Rattle.std.proofs.Common.{◌≡◌, ℕ, true, ◌≤◌, ◌<◌, List, [], ◌++◌, length, Some, None, Result, Ok, Err, refl, sym, ap, ◌∙◌, subst, arith}
use Rattle.std.proofs.lemmas.List.{append-nil}
use Rattle.fetch_replies.specs.declared.replies.reply.ReplyError.TheVariants as faults
use Rattle.fetch_lines.specs.declared.lines.line.Line.{Line}
use Rattle.fetch_replies.specs.declared.replies.parser.ReplyParser.{ReplyParser}
use Rattle.fetch_lines.specs.declared.lines.section.LineError.{LineError}
use Rattle.fetch_lines.specs.declared.lines.section.LineError.TheVariants.{Short, Broken, TooLong}
use Rattle.fetch_replies.specs.Awaited.{replies_behind, step_of, told_from}
use Rattle.fetch_replies.specs.Progressing.{told_of, is_lasting}
use Rattle.fetch_lines.specs.Feeding.{Feeding, room_at, found_in, need_in, next_in, left_by, behind_next}
use Rattle.fetch_lines.specs.Lines.{line_at}
use Rattle.fetch_lines.specs.SectionLaws.{line_at-more}
use Rattle.fetch_replies.specs.StepLaws.{read_by-step, line_then}
use Rattle.fetch_lines.specs.LineLaws.{line_at-is, line_at-len, line_at-short, least}
use Rattle.fetch_replies.specs.Stepping.{goes, ends, breaks, says, after_line, after_step, fault_of, read_within}
use Rattle.fetch_replies.specs.declared.replies.reply.ParsedReply.{ParsedReply}
use Rattle.fetch_replies.proofs.Staying.{Stays, stays}

-- what bytes tell is what their first line does
by_line : (f : Feeding) (reading : ReplyParser) (more : List ℕ) (found : Result (Line × List ℕ) LineError) → line_at f.bound f.place (f.pending ++ more) ≡ found
    → told_of f reading more ≡ after_line found (line_then step_of f.bound reading f.place)
by_line f reading more found is = read_by-step step_of f.bound f.place reading (f.pending ++ more) ∙ ap (λ (l : Result (Line × List ℕ) LineError). after_line l (line_then step_of f.bound reading f.place)) is

turned_by : (f : Feeding) (reading : ReplyParser) (line : Line) (found : Result (Line × List ℕ) LineError) → found_in f ≡ found → need_in found ≡ Ok (Some line) → (more : List ℕ)
    → told_of f reading more ≡ after_step f.place ((left_by f found).pending ++ more) (λ r. told_of (left_by f found) r more) (step_of reading line)
turned_by f reading line (Ok x) is need more =
    let same : x.0 ≡ line = cc in
    by_line f reading more (Ok (x.0, x.1 ++ more)) (line_at-more f.bound f.place f.pending more (λ p e. cc) ∙ rw is refl) ∙ rw same refl
turned_by f reading line (Err (Short place)) is need more = absurd (cc)
turned_by f reading line (Err (Broken place)) is need more = absurd (cc)
turned_by f reading line (Err TooLong) is need more = absurd (cc)

-- a line that is there is a step
pub turned : (f : Feeding) (reading : ReplyParser) (line : Line) → next_in f ≡ Ok (Some line) → (more : List ℕ)
    → told_of f reading more ≡ after_step f.place ((behind_next f).pending ++ more) (λ r. told_of (behind_next f) r more) (step_of reading line)
turned f reading line need more = turned_by f reading line (found_in f) refl need more

stopped_by : (f : Feeding) (reading : ReplyParser) (trouble : LineError) (found : Result (Line × List ℕ) LineError) → found_in f ≡ found → need_in found ≡ Err trouble → (more : List ℕ)
    → told_of f reading more ≡ Err (fault_of trouble)
stopped_by f reading trouble (Ok x) is need more = absurd (cc)
stopped_by f reading trouble (Err (Short place)) is need more = absurd (cc)
stopped_by f reading trouble (Err (Broken place)) is need more =
    let same : Broken place ≡ trouble = cc in
    by_line f reading more (Err (Broken place)) (line_at-more f.bound f.place f.pending more (λ p e. cc) ∙ rw is refl) ∙ ap (λ (t : LineError). Err (fault_of t)) same
stopped_by f reading trouble (Err TooLong) is need more =
    let same : TooLong ≡ trouble = cc in
    by_line f reading more (Err TooLong) (line_at-more f.bound f.place f.pending more (λ p e. cc) ∙ rw is refl) ∙ ap (λ (t : LineError). Err (fault_of t)) same

-- a line that is refused
pub stopped : (f : Feeding) (reading : ReplyParser) (trouble : LineError) → next_in f ≡ Err trouble → (more : List ℕ) → told_of f reading more ≡ Err (fault_of trouble)
stopped f reading trouble need more = stopped_by f reading trouble (found_in f) refl need more

lasting_by : (trouble : LineError) (found : Result (Line × List ℕ) LineError) → need_in found ≡ Err trouble → is_lasting (fault_of trouble) ≡ true
lasting_by trouble (Ok x) need = absurd (cc)
lasting_by trouble (Err (Short place)) need = absurd (cc)
lasting_by (Broken p) (Err (Broken place)) need = refl
lasting_by (Short p) (Err (Broken place)) need = absurd (cc)
lasting_by TooLong (Err (Broken place)) need = refl
lasting_by (Broken p) (Err TooLong) need = refl
lasting_by (Short p) (Err TooLong) need = absurd (cc)
lasting_by TooLong (Err TooLong) need = refl

pub lasting : (f : Feeding) (trouble : LineError) → next_in f ≡ Err trouble → is_lasting (fault_of trouble) ≡ true
lasting f trouble need = lasting_by trouble (found_in f) need

short_by : (f : Feeding) (reading : ReplyParser) (found : Result (Line × List ℕ) LineError) → f.place ≤ f.bound → found_in f ≡ found → need_in found ≡ Ok None → told_of f reading [] ≡ Err (faults.Short f.place)
short_by f reading (Ok x) within is need = absurd (cc)
short_by f reading (Err (Short place)) within is need =
    by_line f reading [] (Err (Short place)) (ap (line_at f.bound f.place) (append-nil f.pending) ∙ is) ∙ ap (λ (n : ℕ). Err (faults.Short n)) (line_at-short f.bound f.place place f.pending within is).0
short_by f reading (Err (Broken place)) within is need = absurd (cc)
short_by f reading (Err TooLong) within is need = absurd (cc)

-- no line is whole
pub short : (f : Feeding) (reading : ReplyParser) → f.place ≤ f.bound → next_in f ≡ Ok None → told_of f reading [] ≡ Err (faults.Short f.place)
short f reading within need = short_by f reading (found_in f) within refl need

same_bound_by : (f : Feeding) (found : Result (Line × List ℕ) LineError) → (left_by f found).bound ≡ f.bound
same_bound_by f (Ok x) = refl
same_bound_by f (Err t) = refl

pub same_bound : (f : Feeding) → (behind_next f).bound ≡ f.bound
same_bound f = same_bound_by f (found_in f)

same_by : (f : Feeding) (found : Result (Line × List ℕ) LineError) → need_in found ≡ Ok None → left_by f found ≡ f
same_by f (Ok x) need = absurd (cc)
same_by f (Err t) need = refl

-- what isn't read stays
pub nothing_left : (f : Feeding) → next_in f ≡ Ok None → behind_next f ≡ f
nothing_left f need = same_by f (found_in f) need

smaller_by : (f : Feeding) (line : Line) (found : Result (Line × List ℕ) LineError) → found_in f ≡ found → need_in found ≡ Ok (Some line) → length (left_by f found).pending < length f.pending
smaller_by f line (Ok x) is need = omega (arith, line_at-len f.bound f.place f.pending x.1 x.0 is, least x.0)
smaller_by f line (Err (Short place)) is need = absurd (cc)
smaller_by f line (Err (Broken place)) is need = absurd (cc)
smaller_by f line (Err TooLong) is need = absurd (cc)

-- a line that was read is over
pub smaller : (f : Feeding) (line : Line) → next_in f ≡ Ok (Some line) → length (behind_next f).pending < length f.pending
smaller f line need = smaller_by f line (found_in f) refl need

room_by : (f : Feeding) (line : Line) (found : Result (Line × List ℕ) LineError) → found_in f ≡ found → need_in found ≡ Ok (Some line)
    → room_at (left_by f found).bound (left_by f found).place (left_by f found).pending ≡ room_at f.bound f.place f.pending
room_by f line (Ok x) is need = omega (arith, line_at-len f.bound f.place f.pending x.1 x.0 is, (line_at-is f.bound f.place f.pending x.1 x.0 is).within)
room_by f line (Err (Short place)) is need = absurd (cc)
room_by f line (Err (Broken place)) is need = absurd (cc)
room_by f line (Err TooLong) is need = absurd (cc)

-- a line that is read takes from the room what it takes from the bytes
pub same_room : (f : Feeding) (line : Line) → next_in f ≡ Ok (Some line) → room_at (behind_next f).bound (behind_next f).place (behind_next f).pending ≡ room_at f.bound f.place f.pending
same_room f line need = room_by f line (found_in f) refl need

-- the same reply is read on
pub same_behind : (reading next : ReplyParser) (line : Line) → step_of reading line ≡ goes next → replies_behind next ≡ replies_behind reading
same_behind reading next line is = subst (Stays (replies_behind reading)) is (stays reading line)

-- ---- what the line that is there does

pub goes_on : (f : Feeding) (reading next : ReplyParser) (line : Line) → next_in f ≡ Ok (Some line) → step_of reading line ≡ goes next → (more : List ℕ) → told_of (behind_next f) next more ≡ told_of f reading more
goes_on f reading next line need is more = sym (turned f reading line need more ∙ rw is refl)

pub whole : (f : Feeding) (reading : ReplyParser) (told : ParsedReply) (line : Line) → next_in f ≡ Ok (Some line) → step_of reading line ≡ ends told → (more : List ℕ) → told_of f reading more ≡ Ok (told, (behind_next f).pending ++ more)
whole f reading told line need is more = turned f reading line need more ∙ rw is refl

pub broken : (f : Feeding) (reading : ReplyParser) (line : Line) → next_in f ≡ Ok (Some line) → step_of reading line ≡ breaks → (more : List ℕ) → told_of f reading more ≡ Err (faults.Broken f.place)
broken f reading line need is more = turned f reading line need more ∙ rw is refl

pub said : (f : Feeding) (reading : ReplyParser) (text : List ℕ) (line : Line) → next_in f ≡ Ok (Some line) → step_of reading line ≡ says text → (more : List ℕ) → told_of f reading more ≡ Err (faults.Said text)
said f reading text line need is more = turned f reading line need more ∙ rw is refl

-- nothing was fed yet
pub nothing : (bound : ℕ) (reading : ReplyParser) → told_from bound reading 0 [] ≡ Err (faults.Short 0)
unfolding read_within line_at
nothing bound reading = refl
