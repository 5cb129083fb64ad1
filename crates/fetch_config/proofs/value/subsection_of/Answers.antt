use Rattle.std.proofs.Common.{arith, ap, ◌∙◌, List, ℕ, ◌+◌, Some, false}
use Rattle.fetch_config.specs.Values.{subsection_of}
use Rattle.fetch_config.proofs.Decoding.{onto_sub, onto_sub-nil, sub-escape, sub-quote, sub-backslash, sub-plain, sub-end}
use Rattle.fetch_config.proofs.FirstLine.{to_end}
use Rattle.fetch_config.proofs.value.subsection_of.Goals as goal

pub loop-place-init : goal.loop-place-init
loop-place-init c = ap (λ (xs : List ℕ). onto_sub xs (subsection_of false c.args.text.now)) c.new-name.ensures.items ∙ onto_sub-nil (subsection_of false c.args.text.now)

pub loop-place-preserved-then-escaped : goal.loop-place-preserved-then-escaped
loop-place-preserved-then-escaped c =
    sub-escape _ c.args.text.now c.loop-place.place c.loop-place.escaped c.loop-place.name.items c.push.new.self.items c.loop-place-test.true c.if-escaped.true c.in_ok-push.ensures.items c.loop-place.invariant

pub returns-then-c-eq-QUOTE : goal.returns-then-c-eq-QUOTE
returns-then-c-eq-QUOTE c =
    ap (λ rest. Some (c.loop-place.name.items, rest)) (to_end (c.loop-place.place + 1) c.args.text.now)
    ∙ sub-quote _ c.args.text.now c.loop-place.place c.loop-place.escaped c.loop-place.name.items c.loop-place-test.true c.if-escaped.false c.if-c-eq-QUOTE.true c.loop-place.invariant

pub loop-place-preserved-then-c-eq-BACKSLASH : goal.loop-place-preserved-then-c-eq-BACKSLASH
loop-place-preserved-then-c-eq-BACKSLASH c =
    sub-backslash _ c.args.text.now c.loop-place.place c.loop-place.escaped c.loop-place.name.items c.loop-place-test.true c.if-escaped.false c.if-c-eq-QUOTE.false c.if-c-eq-BACKSLASH.true c.loop-place.invariant

pub loop-place-preserved : goal.loop-place-preserved
loop-place-preserved c =
    sub-plain _ c.args.text.now c.loop-place.place c.loop-place.escaped c.loop-place.name.items c.push-in-loop-place.new.self.items c.loop-place-test.true c.if-escaped.false c.if-c-eq-QUOTE.false c.if-c-eq-BACKSLASH.false c.in_ok-push-2.ensures.items c.loop-place.invariant

pub returns : goal.returns
returns c = sub-end _ c.args.text.now c.loop-place.place c.loop-place.escaped c.loop-place.name.items (omega arith) c.loop-place.invariant
