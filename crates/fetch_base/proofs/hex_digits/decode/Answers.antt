use Rattle.std.proofs.Common.{◌*◌, ◌∙◌, ap, sym, arith}
use Rattle.std.proofs.lemmas.List.{length-set}
use Rattle.std.specs.Result.{result_ok}
use Rattle.hex.proofs.Pairs.{decode_step, decode_done, decode_err, decode_sized-pairs}
use Rattle.fetch_base.proofs.HexTables.{ok_from, err_from}
use Rattle.fetch_base.proofs.hex_digits.decode.Goals as goal

pub returns-in-None : goal.returns-in-None
returns-in-None g c =
    let e = err_from _ (c.in-None.ensures (2 * c.bytes.i)) in
    sym (ap result_ok (decode_sized-pairs _ _ c.if-text-ne0.false c.if-text.false ∙ decode_err _ c.bytes.bytes c.bytes.i e.0 (omega arith) e.1 c.bytes.invariant.1))

pub bytes-preserved : goal.bytes-preserved
bytes-preserved g c =
    let fits = c.bytes.invariant.0 in (
      length-set _ _ _ ∙ c.bytes.invariant.0,
      decode_step _ _ c.bytes.i _ (omega arith) (omega arith) (ok_from _ _ (c.in-Some.ensures (2 * c.bytes.i))) c.bytes.invariant.1,
    )

pub returns : goal.returns
returns g c =
    sym (ap result_ok (decode_sized-pairs _ _ c.if-text-ne0.false c.if-text.false ∙ decode_done _ c.bytes.bytes c.bytes.i (omega arith) (omega arith) c.bytes.invariant.1))
