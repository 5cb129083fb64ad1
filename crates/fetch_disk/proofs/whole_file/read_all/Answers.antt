use Rattle.std.proofs.Common.{◌≡◌, ℕ, List, ◌++◌, length, refl, sym, ap, subst, arith, length-append, length-drop}
use Rattle.std.specs.Prelude.{Ok, Err}
use Rattle.std.proofs.lemmas.List.{length-take}
use Rattle.std.proofs.lemmas.Result.{err_from_is_err_and}
use Rattle.fetch_base.specs.Faults.{Counts-none, Counts-then}
use Rattle.fetch_disk.specs.Directory.{Directory}
use Rattle.fetch_disk.specs.Disk.{IsFront}
use Rattle.fetch_disk.proofs.Fronts.{front_length}
use Rattle.fetch_disk.proofs.Moments.{rests, joined, weaker, cause_after}
use Rattle.fetch_disk.proofs.whole_file.read_all.Goals as goal

pub loop-piece-init : goal.loop-piece-init
loop-piece-init g c =
    let v = g.D.Volume in
    let disk = c.args.disk.now in
    let file = (v.seen disk).journal in
    record {
      front = (file, ap (λ (l : List ℕ). l ++ file) (sym c.new-bytes.ensures.items));
      room = c.in_ok-piece.ensures;
      seen = refl;
      crash = λ l is. is;
      span = rests v.moment v.left_since (v.may_leave disk) disk (v.only_now disk);
      counts = Counts-none (v.faults disk);
    }

pub returns-in_err-read_piece-clause-crash : goal.returns-in_err-read_piece-clause-crash
returns-in_err-read_piece-clause-crash g c l is = c.loop-piece.invariant.crash l (c.read_piece.ensures.crash l is)

pub returns-in_err-read_piece-clause-any_moment : goal.returns-in_err-read_piece-clause-any_moment
returns-in_err-read_piece-clause-any_moment g c =
    let v = g.D.Volume in
    let first = c.args.disk.now in
    let disk = c.loop-piece.disk in
    joined v.moment v.left_since first disk c.read_piece.new.disk (v.may_leave first) c.loop-piece.invariant.span
    (weaker v.moment v.left_since disk c.read_piece.new.disk (v.may_leave disk) (v.may_leave first) c.read_piece.ensures.any_moment c.loop-piece.invariant.crash)

pub returns-in_err-read_piece-clause-cause : goal.returns-in_err-read_piece-clause-cause
returns-in_err-read_piece-clause-cause g c =
    let v = g.D.Volume in
    let p = err_from_is_err_and c.from_residual-in_err-read_piece.result c.from_residual-in_err-read_piece.ensures.1 in
    let was : c.read_piece.result ≡ Err c.in_err-read_piece.field-0.0 = c.in_err-read_piece.was in
    cause_after (v.faults c.args.disk.now) (v.faults c.loop-piece.disk) (v.faults c.read_piece.new.disk) c.read_piece.result _ c.loop-piece.invariant.counts c.read_piece.ensures.cause (λ e h. cc)

pub loop-piece-smaller : goal.loop-piece-smaller
loop-piece-smaller g c =
    let v = g.D.Volume in
    let grows = c.in_ok-read_piece.ensures.more (ap Ok c.if-branch.true) in
    omega (
      arith,
      grows,
      ap (λ (d : Directory). length d.journal) c.read_piece.ensures.seen,
      front_length c.read_piece.new.bytes.items (v.seen c.loop-piece.disk).journal c.in_ok-read_piece.ensures.front,
    )

pub loop-piece-preserved : goal.loop-piece-preserved
loop-piece-preserved g c =
    let v = g.D.Volume in
    let first = c.args.disk.now in
    let disk = c.loop-piece.disk in
    let inv = c.loop-piece.invariant in
    record {
      front = subst (λ (d : Directory). IsFront c.read_piece.new.bytes.items d.journal) inv.seen c.in_ok-read_piece.ensures.front;
      room = omega (arith, inv.room, c.read_piece.ensures.piece, c.deref_mut.ensures.len, length-take {A = ℕ}, length-append {A = ℕ}, length-drop {A = ℕ});
      seen = λ i. (subst (λ (d : Directory). v.seen c.read_piece.new.disk ≡ d) inv.seen c.read_piece.ensures.seen) i;
      crash = λ l is. inv.crash l (c.read_piece.ensures.crash l is);
      span = joined v.moment v.left_since first disk c.read_piece.new.disk (v.may_leave first) inv.span (weaker v.moment v.left_since disk c.read_piece.new.disk (v.may_leave disk) (v.may_leave first) c.read_piece.ensures.any_moment inv.crash);
      counts = Counts-then (v.faults first) (v.faults disk) (v.faults c.read_piece.new.disk) inv.counts c.read_piece.ensures.cause.counts;
    }

pub returns-clause-crash : goal.returns-clause-crash
returns-clause-crash g c l is = c.loop-piece.invariant.crash l (c.read_piece.ensures.crash l is)

pub returns-clause-any_moment : goal.returns-clause-any_moment
returns-clause-any_moment g c =
    let v = g.D.Volume in
    let first = c.args.disk.now in
    let disk = c.loop-piece.disk in
    joined v.moment v.left_since first disk c.read_piece.new.disk (v.may_leave first) c.loop-piece.invariant.span
    (weaker v.moment v.left_since disk c.read_piece.new.disk (v.may_leave disk) (v.may_leave first) c.read_piece.ensures.any_moment c.loop-piece.invariant.crash)

pub returns-clause-cause : goal.returns-clause-cause
returns-clause-cause g c =
    let v = g.D.Volume in
    cause_after (v.faults c.args.disk.now) (v.faults c.loop-piece.disk) (v.faults c.read_piece.new.disk) c.read_piece.result _ c.loop-piece.invariant.counts c.read_piece.ensures.cause (λ e h. absurd cc)
