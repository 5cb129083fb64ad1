use Rattle.std.proofs.Common.{◌≡◌, ◌<◌, ◌+◌, refl, sym, length, arith}
use Rattle.fetch_serve.proofs.Hearing.{hears_failed, hears_memory, hears_on, piece_is, takes_nothing}
use Rattle.fetch_serve.proofs.peer.hear.Goals as goal

pub bytes-init : goal.bytes-init
bytes-init c = record {
  within = omega arith;
  takes = takes_nothing c.args.server.now (c.in_default.ensures.begun (sym c.in_default.ensures.refusal));
  going = sym c.in_default.ensures.refusal;
}

pub bytes-preserved : goal.bytes-preserved
bytes-preserved c =
    let bytes = c.args.bytes.now in
    let lt : c.bytes.count < length bytes = omega arith in
    let on = hears_on c.args.server.now c.bytes.server c.feed.new.self bytes _ c.bytes.count lt (piece_is bytes _ c.bytes.count _ lt (omega arith) refl) c.bytes.invariant.going c.bytes.invariant.takes c.in-Ok.ensures in
    record { within = omega arith; takes = on.1; going = on.0 }

pub returns-then-not-is_memory-clause-hears : goal.returns-then-not-is_memory-clause-hears
returns-then-not-is_memory-clause-hears c =
    let bytes = c.args.bytes.now in
    let lt : c.bytes.count < length bytes = omega arith in
    hears_failed c.args.server.now c.bytes.server c.feed.new.self bytes _ c.bytes.count c.in-Err.e (sym c.in_default.ensures.refusal) lt (piece_is bytes _ c.bytes.count _ lt (omega arith) refl) c.bytes.invariant.going c.bytes.invariant.takes
    c.in-Err.ensures (λ memory. (let no = c.if-not-is_memory.ensures.1 memory in absurd (cc)))

pub returns-then-pending_len-pending-clause-hears : goal.returns-then-pending_len-pending-clause-hears
returns-then-pending_len-pending-clause-hears c =
    let bytes = c.args.bytes.now in
    let lt : c.bytes.count < length bytes = omega arith in
    let goes = c.bytes.invariant.going in
    let same : c.pending_len.result ≡ c.pending_len-pending.result = c.if-pending_len-pending.true in
    hears_memory c.args.server.now c.bytes.server c.feed.new.self bytes _ c.bytes.count c.bytes.count c.pending_len-pending.result c.pending_len.result (sym c.in_default.ensures.refusal) lt
    (piece_is bytes _ c.bytes.count _ lt (omega arith) refl) goes (c.pending_len-pending.ensures.begun goes) c.bytes.invariant.takes (rw (c.if-not-is_memory.ensures.0 refl) at c.in-Err.ensures)
    c.pending_len-pending.ensures.len c.pending_len.ensures.len (λ _. refl) (λ other. absurd (other same))

pub returns-in-Err-clause-hears : goal.returns-in-Err-clause-hears
returns-in-Err-clause-hears c =
    let bytes = c.args.bytes.now in
    let lt : c.bytes.count < length bytes = omega arith in
    let goes = c.bytes.invariant.going in
    hears_memory c.args.server.now c.bytes.server c.feed.new.self bytes _ c.bytes.count (c.bytes.count + 1) c.pending_len-pending.result c.pending_len.result (sym c.in_default.ensures.refusal) lt
    (piece_is bytes _ c.bytes.count _ lt (omega arith) refl) goes (c.pending_len-pending.ensures.begun goes) c.bytes.invariant.takes (rw (c.if-not-is_memory.ensures.0 refl) at c.in-Err.ensures)
    c.pending_len-pending.ensures.len c.pending_len.ensures.len (λ same. absurd (c.if-pending_len-pending.false same)) (λ _. refl)
