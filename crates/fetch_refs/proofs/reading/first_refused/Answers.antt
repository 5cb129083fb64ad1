use Rattle.std.proofs.Common.{refl, sym, ◌∙◌}
use Rattle.fetch_refs.proofs.Checks.{begun, some_left, no_entry, no_name, not_after, checked, all_read}
use Rattle.fetch_refs.proofs.reading.first_refused.Goals as goal

pub lines-init : goal.lines-init
lines-init c = begun c.args.kind c.args.text.now

pub returns-in_default : goal.returns-in_default
returns-in_default c =
    no_entry c.args.kind c.args.text.now c.lines.rest.now c.lines.last.now c.lines.invariant
    (some_left c.lines.rest.now c.is_empty.result c.is_empty.ensures c.lines-test.true) (c.in_default.ensures.none refl)

pub returns-then-not-is_valid : goal.returns-then-not-is_valid
returns-then-not-is_valid c =
    no_name c.args.kind c.args.text.now c.lines.rest.now c.lines.last.now c.lines.invariant c.in-Some.line.name.now c.in-Some.line.rest.now c.in-Some.line.id c.in-Some.ensures.line
    (some_left c.lines.rest.now c.is_empty.result c.is_empty.ensures c.lines-test.true) c.in-Some.ensures.name (sym c.is_valid.ensures ∙ c.if-not-is_valid.true)

pub returns-then-not-comes_after : goal.returns-then-not-comes_after
returns-then-not-comes_after c =
    not_after c.args.kind c.args.text.now c.lines.rest.now c.lines.last.now c.lines.invariant c.in-Some.line.name.now c.in-Some.line.rest.now c.in-Some.line.id c.in-Some.ensures.line
    (record { id = c.in-Some.ensures.id; name = sym c.is_valid.ensures ∙ c.if-not-is_valid.false }) (sym c.comes_after.ensures ∙ c.if-not-comes_after.true)

pub lines-preserved : goal.lines-preserved
lines-preserved c =
    checked c.args.kind c.args.text.now c.lines.rest.now c.lines.last.now c.lines.invariant c.in-Some.line.name.now c.in-Some.line.rest.now c.in-Some.line.id c.in-Some.ensures.line
    (record { id = c.in-Some.ensures.id; name = sym c.is_valid.ensures ∙ c.if-not-is_valid.false }) (sym c.comes_after.ensures ∙ c.if-not-comes_after.false)

pub returns : goal.returns
returns c =
    all_read c.args.kind c.args.text.now c.lines.rest.now c.lines.last.now c.lines.invariant c.is_empty.result c.is_empty.ensures c.lines-test.false
