use Rattle.std.proofs.Common.{drop, sym, ap, ◌∙◌, subst, []}
use Rattle.fetch_asked.specs.Intakes.{IsRead}
use Rattle.fetch_asked.proofs.Intakes.{read_from, stops_read, finds_whole, finds_begun}
use Rattle.fetch_asked.proofs.intake.Intake.read.Goals as goal

pub returns-in-Err-clause-stops : goal.returns-in-Err-clause-stops
returns-in-Err-clause-stops c =
    let i = c.self.inside in
    let read : IsRead i.hash i.begun (drop i.start i.bytes.items) i.place c.take.result = subst (IsRead i.hash i.begun (drop i.start i.bytes.items) i.place) (sym c.take.ensures.value) c.self.invariant.1 in
    let at = read_from i.hash i.begun (drop i.start i.bytes.items) i.place c.take.result c.resumed-from.result read c.resumed-from.ensures in
    let bytes = c.rest_at-bytes.ensures ∙ ap (drop i.start) c.deref.ensures.value in
    rw (← c.self.view_is) (stops_read i.hash i.begun (drop i.start i.bytes.items) c.resumed-from.result.0 c.resumed-from.result.1 c.in-Err.refusal at (rw bytes at (c.in-Err.ensures.stops [])))

pub returns-in-Whole-clause-finds : goal.returns-in-Whole-clause-finds
returns-in-Whole-clause-finds c =
    let i = c.self.inside in
    let read : IsRead i.hash i.begun (drop i.start i.bytes.items) i.place c.take.result = subst (IsRead i.hash i.begun (drop i.start i.bytes.items) i.place) (sym c.take.ensures.value) c.self.invariant.1 in
    let at = read_from i.hash i.begun (drop i.start i.bytes.items) i.place c.take.result c.resumed-from.result read c.resumed-from.ensures in
    let bytes = c.rest_at-bytes.ensures ∙ ap (drop i.start) c.deref.ensures.value in
    rw (← c.self.view_is) (finds_whole i.hash i.begun (drop i.start i.bytes.items) c.resumed-from.result.0 c.in-Ok.found.1 c.resumed-from.result.1 c.in-Whole.asked at (rw bytes at (rw c.in-Whole.is at c.in-Ok.ensures.goes)))

pub returns-in-On-clause-finds : goal.returns-in-On-clause-finds
returns-in-On-clause-finds c =
    let i = c.self.inside in
    let read : IsRead i.hash i.begun (drop i.start i.bytes.items) i.place c.take.result = subst (IsRead i.hash i.begun (drop i.start i.bytes.items) i.place) (sym c.take.ensures.value) c.self.invariant.1 in
    let at = read_from i.hash i.begun (drop i.start i.bytes.items) i.place c.take.result c.resumed-from.result read c.resumed-from.ensures in
    let bytes = c.rest_at-bytes.ensures ∙ ap (drop i.start) c.deref.ensures.value in
    rw (← c.self.view_is) (finds_begun i.hash i.begun (drop i.start i.bytes.items) c.resumed-from.result.0 c.in-Ok.found.1 c.resumed-from.result.1 _ at (rw bytes at (rw c.in-On.is at c.in-Ok.ensures.goes)))
