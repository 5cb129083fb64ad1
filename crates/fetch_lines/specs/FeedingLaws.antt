-- Lines are the same however their bytes are cut.
use Rattle.std.specs.Prelude.{◌≡◌, ℕ, List, Result, Ok, Err, refl}
use Rattle.fetch_lines.specs.declared.lines.line.Line.{Line}
use Rattle.fetch_lines.specs.declared.lines.section.LineError.{LineError}
use Rattle.fetch_lines.specs.declared.lines.section.LineError.TheVariants.{Short, Broken, TooLong}
use Rattle.fetch_lines.specs.SectionLaws.{IsSettled, with_more, line_at-more}
use Rattle.fetch_lines.specs.Feeding.{Feeding, fed, need_in, left_by, found_in, next_in, behind_next}

stays_by : (feeding : Feeding) (more : List ℕ) (first longer : Result (Line × List ℕ) LineError)
    → (IsSettled first → longer ≡ with_more first more) → IsSettled first
    → (need_in longer ≡ need_in first) × (left_by (fed feeding more) longer ≡ fed (left_by feeding first) more)
stays_by feeding more (Ok x) longer h settled = rw (h settled) (refl, refl)
stays_by feeding more (Err (Short place)) longer h settled = absurd (settled place refl)
stays_by feeding more (Err (Broken place)) longer h settled = rw (h settled) (refl, refl)
stays_by feeding more (Err TooLong) longer h settled = rw (h settled) (refl, refl)

-- What is given before more bytes are fed is what is given after, and the same is left.
pub next_stays : (feeding : Feeding) (more : List ℕ) → IsSettled (found_in feeding)
    → (next_in (fed feeding more) ≡ next_in feeding) × (behind_next (fed feeding more) ≡ fed (behind_next feeding) more)
next_stays feeding more settled = stays_by feeding more (found_in feeding) (found_in (fed feeding more))
    (line_at-more feeding.bound feeding.place feeding.pending more) settled
