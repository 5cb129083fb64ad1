use Rattle.std.proofs.Common.{◌≡◌, ℕ, ◌-◌, ◌<◌, Bool, true, false, List, length, Err, refl, sym, ap, ◌∙◌, arith}
use Rattle.std.specs.Prelude.{◌==◌}
use Rattle.std.specs.BTreeMap.{insert_entry}
use Rattle.std.specs.Ordering.{is_lt}
use Rattle.fetch_refs.specs.Names.{name_cmp}
use Rattle.fetch_refs.specs.declared.error.PackedError.{PackedError}
use Rattle.fetch_refs.specs.declared.error.PackedError.TheVariants as errors
use Rattle.fetch_refs.proofs.PackedLines.{no_line, out_of_order, one_more, handed_on, unnamed}
use Rattle.fetch_refs.proofs.reading.read_lines.Goals as goal

unlike : false ≡ true → ⊥
unlike e = absurd cc

-- a rest that isn't empty
left_over : (rest : List ℕ) (empty : Bool) → empty ≡ (length rest == 0) → empty ≡ false → 0 < length rest
left_over rest empty is more = grind (arith)

pub returns-in_default-clause-line : goal.returns-in_default-clause-line
returns-in_default-clause-line c =
    λ place e.
    let here : place ≡ length c.args.text.now - length c.lines.rest.now = cc in
    no_line c.args.kind c.args.text.now c.lines.rest.now c.lines.names.entries c.lines.invariant place here (left_over c.lines.rest.now c.is_empty.result c.is_empty.ensures c.lines-test.true) (c.in_default.ensures.none refl)

pub returns-in_err-name-clause-line : goal.returns-in_err-name-clause-line
returns-in_err-name-clause-line c =
    λ place e.
    let told = c.name_at.ensures.line place (c.in_err-name.was ∙ ap (λ (x : PackedError). Err x) (handed_on c.from_residual.result c.in_err-name.field-0.0 (errors.Line place) c.from_residual.ensures.1 e)) in
    no_line c.args.kind c.args.text.now c.lines.rest.now c.lines.names.entries c.lines.invariant place told.0 (left_over c.lines.rest.now c.is_empty.result c.is_empty.ensures c.lines-test.true)
    (unnamed c.args.kind c.lines.rest.now c.in-Some.line.rest.now (c.in-Some.line.name.now, c.in-Some.line.id) c.in-Some.ensures.line c.in-Some.ensures.name told.1)

pub returns-then-not-is_above-clause-order : goal.returns-then-not-is_above-clause-order
returns-then-not-is_above-clause-order c =
    λ place e.
    let here : place ≡ length c.args.text.now - length c.lines.rest.now = cc in
    out_of_order c.args.kind c.args.text.now c.lines.rest.now c.lines.names.entries c.lines.invariant c.in-Some.line.name.now c.in-Some.line.rest.now c.in-Some.line.id c.in-Some.ensures.line
    (record { id = c.in-Some.ensures.id; name = c.in_ok-name.ensures.name.1 }) place here (λ none. unlike (sym c.if-not-is_above.true ∙ c.is_above.ensures.first none))
    (λ others last is. sym c.if-not-is_above.true ∙ c.is_above.ensures.last others last is ∙ ap (λ (n : List ℕ). is_lt (name_cmp last.0 n)) c.in_ok-name.ensures.name.0)

pub lines-preserved : goal.lines-preserved
lines-preserved c =
    one_more c.args.kind c.args.text.now c.lines.rest.now c.lines.names.entries c.lines.invariant c.in-Some.line.name.now c.in-Some.line.rest.now c.in-Some.line.id c.in-Some.ensures.line
    (record { id = c.in-Some.ensures.id; name = c.in_ok-name.ensures.name.1 }) c.add.new.map.entries
    (λ others last is. sym c.if-not-is_above.false ∙ c.is_above.ensures.last others last is ∙ ap (λ (n : List ℕ). is_lt (name_cmp last.0 n)) c.in_ok-name.ensures.name.0)
    (c.in_ok-add.ensures ∙ ap (λ (n : List ℕ). insert_entry name_cmp c.lines.names.entries n c.direct_slot.result) c.in_ok-name.ensures.name.0
    ∙ ap (insert_entry name_cmp c.lines.names.entries c.in-Some.line.name.now) c.direct_slot.ensures)
