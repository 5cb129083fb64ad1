-- What the code gives for a line, as a step.
use Rattle.std.specs.Prelude.{List, ℕ}
use Rattle.fetch_replies.specs.Stepping.{Step, goes, ends, breaks}
use Rattle.fetch_asked.specs.declared.asked.Asked.{Asked}
use Rattle.fetch_asked.specs.declared.reading.Read.{Read}
use Rattle.fetch_asked.specs.declared.reading.Read.TheVariants.{On, Whole, Broken}
use Rattle.fetch_asked.specs.declared.reading.Reading.{Reading}
use Rattle.fetch_asked.specs.declared.saying.Saying.{Saying}
use Rattle.fetch_asked.specs.declared.saying.Saying.TheVariants as saying

-- the step that a line made
abbrev pub step_in : Read → Step Reading Asked
step_in (On s) = goes s
step_in (Whole asked) = ends asked
step_in Broken = breaks

-- by what a line says
abbrev pub by_saying : Step Reading Asked → Step Reading Asked → (List ℕ → Step Reading Asked) → Saying → Step Reading Asked
by_saying flush delim text (saying.Text line) = text line.now
by_saying flush delim text saying.Flush = flush
by_saying flush delim text saying.Delim = delim
by_saying flush delim text saying.End = breaks
