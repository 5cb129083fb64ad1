use Rattle.std.proofs.Common.{◌+◌, ◌<◌, ◌++◌, [], List, drop, length, get_or, sym, ap, ◌∙◌, arith}
use Rattle.fetch_base.specs.declared.id.ObjectId.{ObjectId}
use Rattle.fetch_base.specs.declared.id.ObjectId.TheVariants.{Sha1}
use Rattle.fetch_lines.specs.RequestLines.{id_lines}
use Rattle.fetch_lines.specs.Requests.{sent}
use Rattle.fetch_lines.specs.Written.{lines_text}
use Rattle.fetch_serve.proofs.Appending.{ids_on}
use Rattle.fetch_serve.proofs.Collecting.{drop_one}
use Rattle.fetch_serve.proofs.fetching.append_ids.Goals as goal

pub loop-id-preserved : goal.loop-id-preserved
loop-id-preserved c =
    let word = c.args.word.now in
    let ids = c.args.ids.now in
    let i = c.loop-id.id-index in
    let none = Sha1 [] in
    let lt : i < length ids = omega (arith, c.loop-id-test.true) in
    ids_on word c.loop-id.out.items c.append_id.new.out.items (get_or ids i none) (drop (i + 1) ids) _
    (ap (λ (l : List ObjectId). c.loop-id.out.items ++ lines_text (sent (id_lines word l))) (sym (drop_one ids i none lt)) ∙ c.loop-id.invariant) c.in_ok-append_id.ensures
