use Rattle.std.proofs.Common.{[], refl, arith}
use Rattle.fetch_disk.proofs.laws.what_is_written_is_read.Goals as goal

pub returns : goal.returns
returns c hash es small = record { gate = 0; behind = []; shut = λ h. absurd (omega arith); whole = refl; small = small }
