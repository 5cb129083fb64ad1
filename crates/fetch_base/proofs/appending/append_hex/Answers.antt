use Rattle.std.proofs.Common.{arith}
use Rattle.fetch_base.proofs.appending.append_hex.Goals as goal

pub unwrap-requires : goal.unwrap-requires
unwrap-requires c =
    let len = rw c.in-Sha1.is at c.as_bytes.ensures.len in
    c.encode_to_slice.ensures.fits.1 (omega arith)

pub unwrap-requires-in-Sha256 : goal.unwrap-requires-in-Sha256
unwrap-requires-in-Sha256 c =
    let len = rw c.in-Sha256.is at c.as_bytes-in-Sha256.ensures.len in
    c.encode_to_slice-in-Sha256.ensures.fits.1 (omega arith)
