use Rattle.std.proofs.Common.{rules, ◌≤◌, ◌+◌, sym, arith}
use Rattle.std.specs.Prelude.{vec_len}
use Rattle.fetch_lines.specs.LineLaws.{line_at-is}
use Rattle.fetch_lines.proofs.lines.reader.LineReader.next_line.Goals as goal

pub invariant_of-self : goal.invariant_of-self
invariant_of-self c =
    let is = line_at-is c.get.result c.self.inside.place _ _ _ (sym c.in-Ok.ensures.value) in
    let start : c.self.inside.start + c.in-Ok.count ≤ vec_len c.self.inside.bytes = search rules in
    (start, omega (arith, is.within, c.in-Ok.ensures.len, c.get.ensures.bytes))
