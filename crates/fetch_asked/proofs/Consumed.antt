-- What a reading took is enough for it, whatever comes after.
use Rattle.std.proofs.Common.{◌≡◌, ℕ, ◌+◌, List, [], ◌∷◌, ◌++◌, Ok, refl, sym, ap, ◌∙◌, append_assoc}
use Rattle.fetch_lines.specs.Lines.{line_len}
use Rattle.fetch_lines.specs.LineLaws.{IsLine}
use Rattle.fetch_replies.specs.LinesTold.{Writes, lines_tell}
use Rattle.fetch_replies.specs.Stepping.{Step, read_by}
use Rattle.fetch_lines.specs.Written.{payload_of}
use Rattle.fetch_lines.specs.declared.lines.line.Line.{Line}
use Rattle.fetch_replies.proofs.ReadBack.{told_were}

-- bytes at the front that write these lines before any rest
pub record IsWriting (bound place : ℕ) (lines : List Line) (rest bytes : List ℕ) : Type 0 where
  pub front : List ℕ
  pub is : bytes ≡ front ++ rest
  pub others : (other : List ℕ) → Writes bound place lines other (front ++ other)

with_rest : (bound place : ℕ) (line : Line) (rest bytes other : List ℕ) (h : IsLine bound place line rest bytes) → IsLine bound place line other (h.digits ++ (payload_of line ++ other))
with_rest bound place line rest bytes other h =
    record { digits = h.digits; is = refl; four = h.four; number = h.number; fits = h.fits; within = h.within; proper = h.proper }

pub writing : (bound place : ℕ) (lines : List Line) (rest bytes : List ℕ) → Writes bound place lines rest bytes → IsWriting bound place lines rest bytes
writing bound place [] rest bytes same = record { front = []; is = same; others = λ other. refl }
writing bound place (line ∷ lines) rest bytes (behind, is, writes) =
    let more = writing bound (place + line_len line) lines rest behind writes in
    let joined : (other : List ℕ) → (is.digits ++ (payload_of line ++ more.front)) ++ other ≡ is.digits ++ (payload_of line ++ (more.front ++ other)) =
    λ other. append_assoc is.digits (payload_of line ++ more.front) other ∙ ap (λ (l : List ℕ). is.digits ++ l) (append_assoc (payload_of line) more.front other) in
    record {
      front = is.digits ++ (payload_of line ++ more.front);
      is = is.is ∙ ap (λ (l : List ℕ). is.digits ++ (payload_of line ++ l)) more.is ∙ sym (joined rest);
      others = λ other. (
        more.front ++ other,
        (let at : IsLine bound place line (more.front ++ other) (is.digits ++ (payload_of line ++ (more.front ++ other))) = with_rest bound place line behind bytes (more.front ++ other) is in
            rw (joined other) at),
        more.others other,
      );
    }

-- bytes at the front that are read as this, before any rest
pub record IsTaken {S T : Type 0} (step : S → Line → Step S T) (bound place : ℕ) (s : S) (told : T) (rest bytes : List ℕ) : Type 0 where
  pub front : List ℕ
  pub is : bytes ≡ front ++ rest
  pub others : (other : List ℕ) → read_by step bound s place (front ++ other) ≡ Ok (told, other)

pub taken : {S T : Type 0} (step : S → Line → Step S T) (bound place : ℕ) (s : S) (bytes rest : List ℕ) (told : T) → read_by step bound s place bytes ≡ Ok (told, rest) → IsTaken step bound place s told rest bytes
taken step bound place s bytes rest told read =
    let were = told_were step bound place s bytes rest told read in
    let w = writing bound place were.0 rest bytes were.1 in
    record { front = w.front; is = w.is; others = λ other. lines_tell step bound place s were.0 other (w.front ++ other) told (w.others other) were.2 }
