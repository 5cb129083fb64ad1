use Rattle.std.proofs.Common.{◌+◌, ◌-◌, ◌≤◌, List, ℕ, length, sym, ap, ◌∙◌, arith}
use Rattle.std.proofs.lemmas.Result.{err_from_is_err_and}
use Rattle.fetch_objects.specs.Objects.{Stored}
use Rattle.fetch_pack.specs.Records.{Written}
use Rattle.fetch_pack.specs.Views.{written}
use Rattle.fetch_pack.proofs.Steps.{record_is}
use Rattle.fetch_pack.proofs.Namings.{with_front, parsed_from, goes_on, ends, is_short}
use Rattle.fetch_pack.proofs.reading.all_parsed.Goals as goal

pub returns-in_err-object-in-Some : goal.returns-in_err-object-in-Some
returns-in_err-object-in-Some c =
    let p = err_from_is_err_and c.from_residual-in_err-object-in-Some.result c.from_residual-in_err-object-in-Some.ensures.1 in
    let f = c.args.framed.now in
    let x : Written × List ℕ = (written c.in-Some.record, c.in-Some.after.now) in
    let fits : length c.loop-i.rest.now ≤ c.args.pack_len = omega (arith, c.loop-i.invariant.within, c.requires) in
    let total = parsed_from f.version c.args.hash c.args.pack_len f.count f.records.now in
    rw (p.1, p.2)
    (ends c.in_err-object-in-Some.field-0.0 c.loop-i.objects.items f.version c.args.hash c.args.pack_len f.count c.loop-i.i c.loop-i.rest.now x total fits c.loop-i-test.true (sym c.in-Some.ensures) c.in_err-object-in-Some.ensures c.loop-i.invariant.same)

pub returns-in-None : goal.returns-in-None
returns-in-None c =
    let f = c.args.framed.now in
    let total = parsed_from f.version c.args.hash c.args.pack_len f.count f.records.now in
    is_short c.loop-i.objects.items f.version c.args.hash c.args.pack_len f.count c.loop-i.i c.loop-i.rest.now total c.loop-i-test.true (sym c.in-None.ensures) c.loop-i.invariant.same

pub loop-i-preserved : goal.loop-i-preserved
loop-i-preserved c =
    let f = c.args.framed.now in
    let x : Written × List ℕ = (written c.in-Some.record, c.in-Some.after.now) in
    let o = c.in_ok-object-in-Some.object in
    let fits : length c.loop-i.rest.now ≤ c.args.pack_len = omega (arith, c.loop-i.invariant.within, c.requires) in
    let total = parsed_from f.version c.args.hash c.args.pack_len f.count f.records.now in
    let rest = parsed_from f.version c.args.hash c.args.pack_len (f.count - (c.loop-i.i + 1)) x.1 in
    record {
      within = omega (arith, (record_is f.version c.args.hash c.loop-i.rest.now x (sym c.in-Some.ensures)).0, c.loop-i.invariant.within);
      same = ap (λ (os : List Stored). with_front os rest) c.in_ok-push-in-Some.ensures.items
          ∙ goes_on c.loop-i.objects.items f.version c.args.hash c.args.pack_len f.count c.loop-i.i c.loop-i.rest.now x o total fits c.loop-i-test.true (sym c.in-Some.ensures) c.in_ok-object-in-Some.ensures c.loop-i.invariant.same;
    }
