-- Lines move a reading on.
use Rattle.std.proofs.Common.{◌≡◌, ◌≢◌, ℕ, ◌+◌, ◌-◌, ◌≤◌, false, List, [], ◌∷◌, ◌++◌, length, Option, Some, None, Ok, refl, sym, ap, ◌∙◌, subst, arith, append_assoc, length-append, sum_by}
use Rattle.std.specs.Option.{option_or}
use Rattle.std.proofs.lemmas.List.{get_or_at, take_at}
use Rattle.std.proofs.lemmas.List.Sums.{sum_by-cons}
use Rattle.fetch_replies.specs.declared.replies.reply.ReplyKind.{ReplyKind}
use Rattle.fetch_replies.specs.declared.replies.reply.ParsedReply.{ParsedReply}
use Rattle.fetch_lines.specs.declared.lines.line.Line.{Line}
use Rattle.fetch_lines.specs.declared.lines.line.Line.TheVariants.{End}
use Rattle.fetch_replies.specs.declared.replies.parser.Part.TheVariants as parts
use Rattle.fetch_replies.specs.declared.replies.parser.ReplyParser.{ReplyParser}
use Rattle.fetch_replies.specs.declared.replies.parser.ReplyParser.TheVariants as reading
use Rattle.fetch_replies.specs.Awaited.{step_of, start_of, told_at}
use Rattle.fetch_lines.specs.LineLaws.{IsLine}
use Rattle.fetch_lines.specs.Lines.{line_len}
use Rattle.fetch_replies.specs.LinesTold.{Writes, Tells, lines_tell}
use Rattle.fetch_lines.specs.Requests.{sent, text_line}
use Rattle.fetch_replies.specs.Stepping.{Step, goes, ends, breaks}
use Rattle.fetch_replies.specs.Steps.{by_line}
use Rattle.fetch_lines.specs.Texts.{without_lf, is_error}
pub use Rattle.fetch_replies.specs.Bounds.{Moves}
use Rattle.fetch_lines.specs.Written.{line_text, lines_text, too_long_in, first_too_long}
use Rattle.fetch_lines.specs.WrittenLaws.{written-is}

pub first_tells : {S T : Type 0} (step : S → Line → Step S T) (s t : S) (line : Line) (lines : List Line) (x : T) → step s line ≡ goes t → Tells step t lines x → Tells step s (line ∷ lines) x
first_tells step s t line [] x goes_on tells = absurd tells
first_tells step s t line (next ∷ lines) x goes_on tells = (t, goes_on, tells)

-- what comes after them tells the same
pub moves_tell : {S T : Type 0} (step : S → Line → Step S T) (s u : S) (lines others : List Line) (x : T) → Moves step s lines u → Tells step u others x → Tells step s (lines ++ others) x
moves_tell step s u [] others x is tells = subst (λ t. Tells step t others x) (sym is) tells
moves_tell step s u (line ∷ lines) others x (t, goes_on, more) tells = first_tells step s t line (lines ++ others) x goes_on (moves_tell step t u lines others x more tells)

pub moves_on : {S T : Type 0} (step : S → Line → Step S T) (s t u : S) (lines others : List Line) → Moves step s lines t → Moves step t others u → Moves step s (lines ++ others) u
moves_on step s t u [] others is more = subst (λ x. Moves step x others u) (sym is) more
moves_on step s t u (line ∷ lines) others (v, goes_on, rest) more = (v, goes_on, moves_on step v t u lines others rest more)

-- ---- texts

pub lf_last : (text : List ℕ) → without_lf (text ++ 10 ∷ []) ≡ text
unfolding without_lf
lf_last text =
    let n : length (text ++ 10 ∷ []) - 1 ≡ length text = omega (arith, length-append text (10 ∷ [])) in
    rw (n, get_or_at text 10 [] 0 (length text) refl, take_at text (10 ∷ []) (length text) refl) refl

-- a text line of a server that doesn't fail
pub by_text_line : {S T : Type 0} (flush delim : Step S T) (f : List ℕ → Step S T) (text : List ℕ) → is_error (text ++ 10 ∷ []) ≡ false → by_line flush delim f (text_line text) ≡ f text
by_text_line flush delim f text none = rw none (ap f (lf_last text))

-- texts one after another
pub sent_on : (s t u : ReplyParser) (texts others : List (List ℕ)) → Moves step_of s (sent texts) t → Moves step_of t (sent others) u → Moves step_of s (sent (texts ++ others)) u
sent_on s t u [] others is more = subst (λ x. Moves step_of x (sent others) u) (sym is) more
sent_on s t u (text ∷ texts) others (v, goes_on, rest) more = (v, goes_on, sent_on v t u texts others rest more)

-- ---- no line is a response end

ends_break : (r : ReplyParser) → step_of r End ≡ breaks
unfolding step_of
ends_break reading.Greeting = refl
ends_break (reading.Capabilities before) = refl
ends_break reading.Version = refl
ends_break (reading.Advertisement handshake before next) = refl
ends_break (reading.Listing kind before) = refl
ends_break (reading.Reply asked parts.Beginning reply) = refl
ends_break (reading.Reply asked parts.Acknowledgments reply) = refl
ends_break (reading.Reply asked parts.Ready reply) = refl
ends_break (reading.Reply asked parts.Rest reply) = refl
ends_break (reading.Reply asked parts.ShallowInfo reply) = refl
ends_break (reading.Reply asked parts.Packfile reply) = refl
ends_break (reading.Reply asked parts.Bands reply) = refl

no_end : (r : ReplyParser) (line : Line) (step : Step ReplyParser ParsedReply) → step_of r line ≡ step → step ≢ breaks → line ≢ End
no_end r line step is other end = other (sym is ∙ ap (step_of r) end ∙ ends_break r)

-- ---- lines that fit are written

fit_parts : (a b : Option ℕ) → option_or a b ≡ None → (a ≡ None) × (b ≡ None)
fit_parts None b e = (refl, e)
fit_parts (Some n) b e = absurd cc

written : (bound place : ℕ) (line : Line) (lines : List Line) (rest : List ℕ) → line ≢ End → too_long_in line ≡ None → place + line_len line ≤ bound
    → IsLine bound place line (lines_text lines ++ rest) (lines_text (line ∷ lines) ++ rest)
written bound place line lines rest proper fits within =
    subst (IsLine bound place line (lines_text lines ++ rest)) (sym (append_assoc (line_text line) (lines_text lines) rest)) (written-is bound place line (lines_text lines ++ rest) proper fits within)

writes : (bound place : ℕ) (r : ReplyParser) (lines : List Line) (rest : List ℕ) (told : ParsedReply) → Tells step_of r lines told → first_too_long lines ≡ None → place + sum_by line_len lines ≤ bound
    → Writes bound place lines rest (lines_text lines ++ rest)
writes bound place r [] rest told tells fits within = absurd tells
writes bound place r (line ∷ []) rest told tells fits within =
    let n = sum_by-cons line_len line [] in
    (rest, written bound place line [] rest (no_end r line (ends told) tells (λ e. cc)) (fit_parts (too_long_in line) None fits).0 (omega (arith, n)), refl)
writes bound place r (line ∷ next ∷ lines) rest told (t, goes_on, tells) fits within =
    let p = fit_parts (too_long_in line) (first_too_long (next ∷ lines)) fits in
    let n = sum_by-cons line_len line (next ∷ lines) in
    (lines_text (next ∷ lines) ++ rest, written bound place line (next ∷ lines) rest (no_end r line (goes t) goes_on (λ e. cc)) p.0 (omega (arith, n)), writes bound (place + line_len line) t (next ∷ lines) rest told tells p.1 (omega (arith, n)))

-- Lines that tell a reply tell it as they are written.
pub text_tells : (bound : ℕ) (awaited : ReplyKind) (lines : List Line) (told : ParsedReply) (rest : List ℕ) → Tells step_of (start_of awaited) lines told → first_too_long lines ≡ None → sum_by line_len lines ≤ bound
    → told_at bound awaited (lines_text lines ++ rest) ≡ Ok (told, rest)
text_tells bound awaited lines told rest tells fits within =
    lines_tell step_of bound 0 (start_of awaited) lines rest (lines_text lines ++ rest) told (writes bound 0 (start_of awaited) lines rest told tells fits (omega arith)) tells
