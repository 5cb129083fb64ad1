use Rattle.std.proofs.Common.{refl, sym, ◌∙◌}
use Rattle.fetch_replies.proofs.Driving as on
use Rattle.fetch_replies.proofs.replies.progress.read_on.Goals as goal

pub returns-in-Ok-More-clause-read : goal.returns-in-Ok-More-clause-read
returns-in-Ok-More-clause-read c =
    let given = sym (rw c.in-Ok-More.field-0-is at c.in-Ok-More.ensures.given) in
    let i = c.lines.invariant in
    let same = c.next_line.follows.holds-at-none ∙ on.nothing_left c.lines.lines given in
    rw same (record {
      bound = i.bound;
      room = i.room;
      behind = i.behind;
      told = i.told;
      short = on.short c.lines.lines c.lines.reading (rw c.place-place.ensures.place at c.place-place.ensures.within) given;
    })

pub returns-in-Err-clause-read : goal.returns-in-Err-clause-read
returns-in-Err-clause-read c =
    let i = c.lines.invariant in
    let behind = c.next_line.follows.holds-at-none in
    rw (behind, c.fault.ensures) (record {
      bound = on.same_bound c.lines.lines ∙ i.bound;
      told = λ more. sym (i.told more) ∙ on.stopped c.lines.lines c.lines.reading c.in-Err.trouble (sym c.in-Err.ensures.given) more;
      lasting = on.lasting c.lines.lines c.in-Err.trouble (sym c.in-Err.ensures.given);
    })

pub lines-smaller : goal.lines-smaller
lines-smaller c =
    let given = sym (rw c.in-Ok-Line.field-0-is at c.in-Ok-Line.ensures.given) in
    rw c.next_line.follows.holds-at-none (on.smaller c.lines.lines _ given)

pub lines-preserved : goal.lines-preserved
lines-preserved c =
    let given = sym (rw c.in-Ok-Line.field-0-is at c.in-Ok-Line.ensures.given) in
    let i = c.lines.invariant in
    let behind = c.next_line.follows.holds-at-none in
    let step = rw c.in-On.is at c.in_ok-read-in-Ok-Line.ensures in
    rw behind (record {
      bound = on.same_bound c.lines.lines ∙ i.bound;
      room = on.same_room c.lines.lines _ given ∙ i.room;
      behind = on.same_behind c.lines.reading c.in-On.next _ (sym step) ∙ i.behind;
      told = λ more. on.goes_on c.lines.lines c.lines.reading c.in-On.next _ given (sym step) more ∙ i.told more;
    })

pub returns-in-Whole-clause-read : goal.returns-in-Whole-clause-read
returns-in-Whole-clause-read c =
    let given = sym (rw c.in-Ok-Line.field-0-is at c.in-Ok-Line.ensures.given) in
    let i = c.lines.invariant in
    let behind = c.next_line.follows.holds-at-none in
    let step = rw c.in-Whole.is at c.in_ok-read-in-Ok-Line.ensures in
    rw behind (record { bound = on.same_bound c.lines.lines ∙ i.bound; told = λ more. sym (i.told more) ∙ on.whole c.lines.lines c.lines.reading c.in-Whole.told _ given (sym step) more })

pub returns-in-Broken-clause-read : goal.returns-in-Broken-clause-read
returns-in-Broken-clause-read c =
    let given = sym (rw c.in-Ok-Line.field-0-is at c.in-Ok-Line.ensures.given) in
    let i = c.lines.invariant in
    let behind = c.next_line.follows.holds-at-none in
    let step = rw c.in-Broken.is at c.in_ok-read-in-Ok-Line.ensures in
    rw (behind, c.place-place.ensures.place) (record { bound = on.same_bound c.lines.lines ∙ i.bound; told = λ more. sym (i.told more) ∙ on.broken c.lines.lines c.lines.reading _ given (sym step) more; lasting = refl })

pub returns-in-Said-clause-read : goal.returns-in-Said-clause-read
returns-in-Said-clause-read c =
    let given = sym (rw c.in-Ok-Line.field-0-is at c.in-Ok-Line.ensures.given) in
    let i = c.lines.invariant in
    let behind = c.next_line.follows.holds-at-none in
    let step = rw c.in-Said.is at c.in_ok-read-in-Ok-Line.ensures in
    rw behind (record { bound = on.same_bound c.lines.lines ∙ i.bound; told = λ more. sym (i.told more) ∙ on.said c.lines.lines c.lines.reading c.in-Said.text _ given (sym step) more; lasting = refl })

pub returns-in-BrokenBehind-clause-read : goal.returns-in-BrokenBehind-clause-read
returns-in-BrokenBehind-clause-read c =
    let given = sym (rw c.in-Ok-Line.field-0-is at c.in-Ok-Line.ensures.given) in
    let i = c.lines.invariant in
    let behind = c.next_line.follows.holds-at-none in
    let step = rw c.in-BrokenBehind.is at c.in_ok-read-in-Ok-Line.ensures in
    rw (behind, c.place-place.ensures.place) (record { bound = on.same_bound c.lines.lines ∙ i.bound; told = λ more. sym (i.told more) ∙ on.broken c.lines.lines c.lines.reading _ given (sym step) more; lasting = refl })

pub returns-in-SaidBehind-clause-read : goal.returns-in-SaidBehind-clause-read
returns-in-SaidBehind-clause-read c =
    let given = sym (rw c.in-Ok-Line.field-0-is at c.in-Ok-Line.ensures.given) in
    let i = c.lines.invariant in
    let behind = c.next_line.follows.holds-at-none in
    let step = rw c.in-SaidBehind.is at c.in_ok-read-in-Ok-Line.ensures in
    rw behind (record { bound = on.same_bound c.lines.lines ∙ i.bound; told = λ more. sym (i.told more) ∙ on.said c.lines.lines c.lines.reading c.in-SaidBehind.text _ given (sym step) more; lasting = refl })
