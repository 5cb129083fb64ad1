use Rattle.std.proofs.Common.{sym, arith}
use Rattle.std.proofs.lemmas.Bool.{or_left, or_right}
use Rattle.fetch_config.proofs.Decoding.{turn-escape, turn-no_escape, turn-quote, turn-backslash, turn-plain, turns-open, turns-end}
use Rattle.fetch_config.proofs.value.unquoted.Goals as goal
use Rattle.fetch_config.proofs.value.unquoted.Goals.{then-quoted-via-then-quoted, then-quoted-via-else-quoted+then-escaped-2}

pub returns-in_default : goal.returns-in_default
returns-in_default c = turn-no_escape _ c.args.text.now c.loop-c.c-index c.loop-c.quoted c.loop-c.escaped c.loop-c.value.items c.loop-c-test.true c.if-escaped.true (sym c.in_default.ensures) c.loop-c.invariant

pub loop-c-preserved-then-escaped : goal.loop-c-preserved-then-escaped
loop-c-preserved-then-escaped c =
    turn-escape _ c.args.text.now c.loop-c.c-index c.loop-c.quoted c.loop-c.escaped c.in-Some.byte c.loop-c.value.items c.push.new.self.items c.loop-c-test.true c.if-escaped.true (sym c.in-Some.ensures) c.in_ok-push.ensures.items c.loop-c.invariant

pub loop-c-preserved-then-c-eq-QUOTE : goal.loop-c-preserved-then-c-eq-QUOTE
loop-c-preserved-then-c-eq-QUOTE c = turn-quote _ c.args.text.now c.loop-c.c-index c.loop-c.quoted c.loop-c.escaped c.loop-c.value.items c.loop-c-test.true c.if-escaped.false c.if-c-eq-QUOTE.true c.loop-c.invariant

pub loop-c-preserved-then-c-eq-BACKSLASH : goal.loop-c-preserved-then-c-eq-BACKSLASH
loop-c-preserved-then-c-eq-BACKSLASH c = turn-backslash _ c.args.text.now c.loop-c.c-index c.loop-c.quoted c.loop-c.escaped c.loop-c.value.items c.loop-c-test.true c.if-escaped.false c.if-c-eq-BACKSLASH.true c.loop-c.invariant

pub loop-c-preserved : goal.loop-c-preserved
loop-c-preserved c =
    turn-plain _ c.args.text.now c.loop-c.c-index c.loop-c.quoted c.loop-c.escaped c.loop-c.value.items c.push-in-loop-c.new.self.items c.loop-c-test.true c.if-escaped.false c.if-c-eq-QUOTE.false c.if-c-eq-BACKSLASH.false c.in_ok-push-2.ensures.items c.loop-c.invariant

pub returns-then-quoted : goal.returns-then-quoted
returns-then-quoted c =
    turns-open _ c.args.text.now c.loop-c.c-index c.loop-c.quoted c.loop-c.escaped c.loop-c.value.items (omega arith)
    (elim c.then-quoted.branch [ then-quoted-via-then-quoted w ↦ or_left _ _ w.if-quoted.true | then-quoted-via-else-quoted+then-escaped-2 w ↦ or_right _ _ w.if-escaped-2.true ])
    c.loop-c.invariant

pub returns : goal.returns
returns c = turns-end _ c.args.text.now c.loop-c.c-index c.loop-c.quoted c.loop-c.escaped c.loop-c.value.items (omega arith) c.if-quoted.false c.if-escaped-2.false c.loop-c.invariant
