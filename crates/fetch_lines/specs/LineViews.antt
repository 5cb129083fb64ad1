-- A line whose payload is lent, and one that owns it, are the same to contracts.
use Rattle.fetch_lines.specs.declared.lines.line.Line.{Line}
use Rattle.fetch_lines.specs.declared.lines.line.Line.TheVariants.{Payload, Flush, Delim, End}
use Rattle.fetch_lines.specs.declared.lines.line.LineRef.{LineRef}
use Rattle.fetch_lines.specs.declared.lines.line.LineRef.TheVariants as lent

-- the line that a lent one is
abbrev pub line_of : LineRef → Line
line_of (lent.Payload payload) = Payload payload.now
line_of lent.Flush = Flush
line_of lent.Delim = Delim
line_of lent.End = End
