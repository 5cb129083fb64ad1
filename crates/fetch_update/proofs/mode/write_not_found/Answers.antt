use Rattle.std.proofs.Common.{refl, ap}
use Rattle.std.proofs.Output.{has_written_append, has_written_of_eq}
use Rattle.hex.specs.Hex.{encode_lower}
use Rattle.fetch_update.specs.Modes.{not_found_text}
use Rattle.fetch_update.proofs.mode.write_not_found.Goals as goal

pub returns : goal.returns
unfolding not_found_text
returns g c = λ plain ok.
    let before = c.in_ok-write_str.ensures.writes plain refl in
    let id = has_written_of_eq _ _ _ _ _ (ap encode_lower c.as_bytes.ensures.bytes) (c.in_ok-write_hex.ensures before.plain refl) in
    let after = c.write_str-2.ensures.writes id.plain ok in
    has_written_append _ _ _ _ _ _ before (has_written_append _ _ _ _ _ _ id after)
