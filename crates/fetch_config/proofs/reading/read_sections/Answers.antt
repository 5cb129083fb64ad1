use Rattle.std.proofs.Common.{sym, ap, ◌∙◌, arith, List, ◌≡◌, ◌≤◌, length, true}
use Rattle.fetch_config.specs.declared.section.Section.{Section}
use Rattle.fetch_config.specs.Reading.{is_opened}
use Rattle.fetch_config.specs.Lines.{line_of, fits_behind}
use Rattle.fetch_config.proofs.Gathering.{joined, told, joined-start, told-start, joined-step, told-step, joined-end}
use Rattle.fetch_config.proofs.reading.read_sections.Goals as goal

pub loop-rest-init : goal.loop-rest-init
loop-rest-init c = record {
  sections = ap (λ (ss : List Section). joined c.args.meta.now ss c.args.text.now) c.new-sections.ensures.items ∙ joined-start c.args.meta.now c.args.text.now;
  broken = ap (λ (ss : List Section). told 0 ss c.args.text.now) c.new-sections.ensures.items ∙ told-start c.args.text.now;
  room = omega arith;
}

pub loop-rest-preserved : goal.loop-rest-preserved
loop-rest-preserved c =
    let line = c.first_line.result.0.now in
    let behind = c.first_line.result.1.now in
    let old = c.loop-rest.sections.items in
    let new = c.take_line.new.sections.items in
    let fits : fits_behind (is_opened old) (line_of line) ≡ true = sym c.in_ok-take_line.ensures.fits ∙ c.if-not-branch.false in
    record {
      sections = joined-step c.args.meta.now old new line c.loop-rest.rest.now behind c.first_line.ensures.first fits c.in_ok-take_line.ensures.sections ∙ c.loop-rest.invariant.sections;
      broken = told-step c.args.meta.now c.loop-rest.number old new line c.loop-rest.rest.now behind c.first_line.ensures.first fits c.in_ok-take_line.ensures.sections ∙ c.loop-rest.invariant.broken;
      room = omega arith;
    }

pub returns-clause-sections : goal.returns-clause-sections
returns-clause-sections c =
    let over : length c.loop-rest.rest.now ≤ 0 = grind arith in
    sym (joined-end c.args.meta.now c.loop-rest.sections.items c.loop-rest.rest.now over) ∙ c.loop-rest.invariant.sections
