use Rattle.std.proofs.Common.{refl}
use Rattle.std.proofs.Output.{has_written_append}
use Rattle.fetch_update.specs.Modes.{checked_out_text}
use Rattle.fetch_update.proofs.mode.write_checked_out.Goals as goal

pub returns : goal.returns
unfolding checked_out_text
returns g c = λ plain ok.
    let before = c.in_ok-write_str.ensures.writes plain refl in
    let dirs = c.in_ok-write_directories.ensures before.plain refl in
    let after = c.write_str-2.ensures.writes dirs.plain ok in
    has_written_append _ _ _ _ _ _ before (has_written_append _ _ _ _ _ _ dirs after)
