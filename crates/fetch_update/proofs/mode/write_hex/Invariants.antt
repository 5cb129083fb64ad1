use Rattle.std.proofs.Common.{take}
use Rattle.std.specs.Fmt.{HasWritten, IsPlainFormatter}
use Rattle.hex.specs.Hex.{encode_lower}
use Rattle.fetch_update.proofs.mode.write_hex.Given as goal

abbrev pub invariant-bytes : goal.invariant-bytes
invariant-bytes g l = IsPlainFormatter l.initial.f → HasWritten g.W.Write.write_str_gives l.initial.f (encode_lower (take l.byte-index l.bytes)) l.f
