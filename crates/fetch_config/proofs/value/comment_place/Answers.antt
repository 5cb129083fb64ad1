use Rattle.std.proofs.Common.{sym, arith, refl}
use Rattle.fetch_config.proofs.Decoding.{before-escape, before-quote, before-backslash, before-plain, before-stop, before-end}
use Rattle.fetch_config.proofs.value.comment_place.Goals as goal

pub loop-place-preserved-then-escaped : goal.loop-place-preserved-then-escaped
loop-place-preserved-then-escaped c = before-escape _ c.args.text.now c.loop-place.place c.loop-place.quoted c.loop-place.escaped c.loop-place-test.true c.if-escaped.true c.loop-place.invariant

pub loop-place-preserved-then-c-eq-QUOTE : goal.loop-place-preserved-then-c-eq-QUOTE
loop-place-preserved-then-c-eq-QUOTE c = before-quote _ c.args.text.now c.loop-place.place c.loop-place.quoted c.loop-place.escaped c.loop-place-test.true c.if-escaped.false c.if-c-eq-QUOTE.true c.loop-place.invariant

pub loop-place-preserved-then-c-eq-BACKSLASH : goal.loop-place-preserved-then-c-eq-BACKSLASH
loop-place-preserved-then-c-eq-BACKSLASH c =
    before-backslash _ c.args.text.now c.loop-place.place c.loop-place.quoted c.loop-place.escaped c.loop-place-test.true c.if-escaped.false c.if-c-eq-QUOTE.false c.if-c-eq-BACKSLASH.true c.loop-place.invariant

pub returns-then-ends_value-clause-place : goal.returns-then-ends_value-clause-place
returns-then-ends_value-clause-place c =
    before-stop _ c.args.text.now c.loop-place.place c.loop-place.quoted c.loop-place.escaped c.loop-place-test.true c.if-escaped.false c.if-c-eq-QUOTE.false c.if-c-eq-BACKSLASH.false (sym c.if-ends_value.ensures) c.loop-place.invariant

pub loop-place-preserved : goal.loop-place-preserved
loop-place-preserved c =
    before-plain _ c.args.text.now c.loop-place.place c.loop-place.quoted c.loop-place.escaped c.loop-place-test.true c.if-escaped.false c.if-c-eq-QUOTE.false c.if-c-eq-BACKSLASH.false (sym c.if-ends_value.ensures) c.loop-place.invariant

pub returns-clause-place : goal.returns-clause-place
returns-clause-place c = before-end _ c.args.text.now c.loop-place.place _ c.loop-place.quoted c.loop-place.escaped (omega arith) refl c.loop-place.invariant
