use Rattle.std.proofs.Common.{List, [], ℕ, Err, length, sym, ◌∙◌, refl, ap, slice_index_or}
use Rattle.fetch_base.specs.declared.id.ObjectId.{ObjectId}
use Rattle.fetch_base.specs.declared.id.ObjectId.TheVariants as ids
use Rattle.fetch_pack.specs.declared.error.PackError.TheVariants.{IdMismatch}
use Rattle.fetch_pack.specs.declared.version.PackVersion.TheVariants.{V2}
use Rattle.fetch_pack.specs.Records.{Written, records}
use Rattle.fetch_pack.specs.Reading.{is_id, compared}
use Rattle.fetch_pack.specs.Views.{written}
use Rattle.fetch_pack.proofs.Compared.{goes_on, differs, is_short}
use Rattle.fetch_pack.proofs.reading.compared.Goals as goal

pub returns-else-is_same : goal.returns-else-is_same
returns-else-is_same c =
    let x : Written × List ℕ = (written c.in-Some.record, c.in-Some.after.now) in
    let d : ObjectId = ids.Sha1 [] in
    let id = slice_index_or c.args.ids.now c.loop-id.id-index d in
    let total = compared c.args.hash (records V2 c.args.hash (length c.args.ids.now) c.args.bytes.now).written c.args.ids.now in
    let other = ap (λ (w : ObjectId). is_id w id) (sym c.from_bytes-written.ensures) ∙ sym c.is_same.ensures ∙ c.if-is_same.false in
    differs c.args.hash c.args.ids.now c.loop-id.id-index id d c.loop-id.rest.now x total c.loop-id-test.true refl (sym c.in-Some.ensures) other c.loop-id.invariant
    ∙ ap (λ (w : ObjectId). Err (IdMismatch w id)) (sym c.from_bytes-written.ensures)

pub returns-in-None : goal.returns-in-None
returns-in-None c =
    let total = compared c.args.hash (records V2 c.args.hash (length c.args.ids.now) c.args.bytes.now).written c.args.ids.now in
    is_short c.args.hash c.args.ids.now c.loop-id.id-index c.loop-id.rest.now total c.loop-id-test.true (sym c.in-None.ensures) c.loop-id.invariant

pub loop-id-preserved : goal.loop-id-preserved
loop-id-preserved c =
    let x : Written × List ℕ = (written c.in-Some.record, c.in-Some.after.now) in
    let d : ObjectId = ids.Sha1 [] in
    let id = slice_index_or c.args.ids.now c.loop-id.id-index d in
    let total = compared c.args.hash (records V2 c.args.hash (length c.args.ids.now) c.args.bytes.now).written c.args.ids.now in
    let same = ap (λ (w : ObjectId). is_id w id) (sym c.from_bytes-written.ensures) ∙ sym c.is_same.ensures ∙ c.if-is_same.true in
    goes_on c.args.hash c.args.ids.now c.loop-id.id-index id d c.loop-id.rest.now x total c.loop-id-test.true refl (sym c.in-Some.ensures) same c.loop-id.invariant
