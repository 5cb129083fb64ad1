use Rattle.std.proofs.Common.{◌≡◌, [], ◌∷◌, ◌++◌, ◌∙◌, ap, sym, arith, length, length-append, ℕ, List}
use Rattle.fetch_disk.specs.declared.record.Record.{Record}
use Rattle.fetch_disk.specs.Records.{opened}
use Rattle.fetch_disk.proofs.Spelled.{opened-nil, one_more, shorter, damaged}
use Rattle.fetch_disk.proofs.reading.read_records.Goals as goal

pub loop-kind-init : goal.loop-kind-init
loop-kind-init c =
    c.in_ok-rest.ensures.rest ∙ opened-nil c.args.hash c.in_ok-rest.rest.now
    ∙ ap (λ (es : List Record). opened c.args.hash es ++ c.in_ok-rest.rest.now) (sym c.new-records.ensures)

pub loop-kind-smaller : goal.loop-kind-smaller
loop-kind-smaller c =
    shorter c.args.hash c.args.bytes.now c.loop-kind.rest.now c.in-Some.after.now c.loop-kind.records (record { kind = c.in-Some.kind; body = c.in-Some.body.now })
    (λ i. omega (arith, c.type_inv.bytes i)) c.loop-kind.invariant c.in-Some.ensures

pub loop-kind-preserved : goal.loop-kind-preserved
loop-kind-preserved c =
    let e : Record = record { kind = c.in-Some.kind; body = c.in-Some.body.now } in
    let pushed : c.push.new.self ≡ c.loop-kind.records ++ e ∷ [] =
    c.in_ok-push.ensures.ok ∙ ap (λ (b : List ℕ). c.loop-kind.records ++ (record { kind = c.in-Some.kind; body = b }) ∷ []) c.in_ok-body.ensures in
    one_more c.args.hash c.args.bytes.now c.loop-kind.rest.now c.in-Some.after.now c.loop-kind.records e
    (λ i. omega (arith, c.type_inv.bytes i)) c.loop-kind.invariant c.in-Some.ensures
    ∙ ap (λ (es : List Record). opened c.args.hash es ++ c.in-Some.after.now) (sym pushed)

pub returns-then-not-begins_shut-clause-cause : goal.returns-then-not-begins_shut-clause-cause
returns-then-not-begins_shut-clause-cause c =
    damaged c.args.hash c.args.bytes.now c.loop-kind.rest.now c.loop-kind.records _ c.loop-kind.invariant
    (omega arith) (omega (arith, ap length c.loop-kind.invariant, length-append (opened c.args.hash c.loop-kind.records) c.loop-kind.rest.now)) c.in_default.ensures (cc)
