use Rattle.std.proofs.Common.{◌+◌, ◌<◌, List, length, refl, ap, ◌∙◌, arith}
use Rattle.fetch_base.specs.declared.id.ObjectId.{ObjectId}
use Rattle.fetch_negotiate.specs.declared.common.Common.{Common}
use Rattle.fetch_negotiate.specs.Commits.{has}
use Rattle.fetch_negotiate.specs.Reading.{links_at, read_in}
use Rattle.fetch_negotiate.proofs.Commons.{acknowledged_same, close_in, covers, has_at, one_done, finish_in, finishing_further, whole_in, within_next, within_this}
use Rattle.fetch_negotiate.proofs.Choosing.{marks_exact}
use Rattle.fetch_negotiate.proofs.Growing.{grows_then}
use Rattle.fetch_negotiate.proofs.common.mark_acknowledged.Goals as goal

-- ---- the acknowledged ids

pub returns-in_err-mark_one-clause-common : goal.returns-in_err-mark_one-clause-common
returns-in_err-mark_one-clause-common g c =
    let x : Common = c.acknowledged.common in
    let lt : x.finished < length x.acknowledged.items = omega arith in
    c.in_err-mark_one.ensures.common c.args.border.now c.acknowledged.invariant.common (within_this (read_in c.acknowledged.table) c.args.border.now x c.index.result.now lt c.index.ensures)

pub returns-in_err-mark_one-clause-more : goal.returns-in_err-mark_one-clause-more
returns-in_err-mark_one-clause-more g c =
    let more = covers c.acknowledged.common.commits.items c.mark_one.new.common.commits.items c.in_err-mark_one.ensures.more in
    record { stays = λ q h. more.stays q (c.acknowledged.invariant.more.stays q h) }

pub acknowledged-preserved : goal.acknowledged-preserved
acknowledged-preserved g c =
    let l = read_in c.acknowledged.table in
    let m = read_in c.mark_one.new.table in
    let b = c.args.border.now in
    let x : Common = c.acknowledged.common in
    let y : Common = c.mark_one.new.common in
    let id = c.index.result.now in
    let i = c.acknowledged.invariant in
    let e = c.in_ok-mark_one.ensures in
    let lt : x.finished < length x.acknowledged.items = omega arith in
    let marked = e.common b i.common (within_this l b x id lt c.index.ensures) in
    finishing_further (read_in c.args.table.now) l m b c.args.common.now x (record y { finished = y.finished + 1 }) (g.O.Objects.graph c.args.objects.now) i
    (finish_in m b x y id lt c.index.ensures (one_done m y.commits.items id e.done) e.finished e.acknowledged marked) e.told e.grows (covers x.commits.items y.commits.items e.more) e.acknowledged

-- ---- the parents of what is marked

pub mark_parents-requires-clause-read : goal.mark_parents-requires-clause-read
mark_parents-requires-clause-read g c =
    let x : Common = c.marked.common in
    let id = c.index-in-marked.result.now in
    let lt : x.closed < length x.commits.items = omega arith in
    c.marked.invariant.0.common.1.stored id (ap (has x.commits.items) c.index-in-marked.ensures ∙ has_at x.commits.items x.closed id lt)

pub mark_parents-requires-clause-within : goal.mark_parents-requires-clause-within
mark_parents-requires-clause-within g c =
    let l = read_in c.marked.table in
    let x : Common = c.marked.common in
    let id = c.index-in-marked.result.now in
    let lt : x.closed < length x.commits.items = omega arith in
    within_next l c.args.border.now x id (links_at l c.args.border.now id) lt c.index-in-marked.ensures refl c.marked.invariant.0.common

pub returns-in_err-mark_parents-clause-grows : goal.returns-in_err-mark_parents-clause-grows
returns-in_err-mark_parents-clause-grows g c = grows_then (read_in c.args.table.now) (read_in c.marked.table) (read_in c.mark_parents.new.table) c.marked.invariant.0.grows c.in_err-mark_parents.ensures.grows

pub returns-in_err-mark_parents-clause-more : goal.returns-in_err-mark_parents-clause-more
returns-in_err-mark_parents-clause-more g c =
    let more = covers c.marked.common.commits.items c.mark_parents.new.common.commits.items c.in_err-mark_parents.ensures.more in
    record { stays = λ q h. more.stays q (c.marked.invariant.0.more.stays q h) }

pub marked-preserved : goal.marked-preserved
marked-preserved g c =
    let l = read_in c.marked.table in
    let m = read_in c.mark_parents.new.table in
    let b = c.args.border.now in
    let x : Common = c.marked.common in
    let y : Common = c.mark_parents.new.common in
    let id = c.index-in-marked.result.now in
    let i = c.marked.invariant.0 in
    let e = c.in_ok-mark_parents.ensures in
    let lt : x.closed < length x.commits.items = omega arith in (
      finishing_further (read_in c.args.table.now) l m b c.args.common.now x (record y { closed = y.closed + 1 }) (g.O.Objects.graph c.args.objects.now) i
          (close_in l m b x y id (links_at l b id) lt c.index-in-marked.ensures refl e.grows e.more e.done e.closed i.common e.common) e.told e.grows (covers x.commits.items y.commits.items e.more) e.acknowledged,
      omega (arith, c.marked.invariant.1, e.finished, ap (λ (l : List ObjectId). length l) (acknowledged_same x y e.acknowledged)),
    )

pub returns-clause-exact : goal.returns-clause-exact
returns-clause-exact g c =
    let finished = whole_in (read_in c.marked.table) c.args.border.now c.marked.common c.marked.invariant.1 (omega arith) c.marked.invariant.0.common in
    marks_exact (read_in c.marked.table) (g.O.Objects.graph c.args.objects.now) c.args.border.now c.marked.common.acknowledged.items c.marked.common.commits.items c.marked.invariant.0.told finished
