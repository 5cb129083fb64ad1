use Rattle.fetch_shared.proofs.PackTaken.{has_taken, untaken}
use Rattle.fetch_shared.proofs.pack_taken.take.Goals as goal

pub returns-in-Ok-clause-pack_taken : goal.returns-in-Ok-clause-pack_taken
returns-in-Ok-clause-pack_taken g c =
    let s = c.take-pass.ensures in
    let t = rw (c.into_vec.ensures, c.as_slice.ensures, c.as_slice-2.ensures, c.in-Ok.is) at s.turn in
    let added = rw (c.into_vec.ensures, c.as_slice.ensures, c.as_slice-2.ensures, c.in-Ok.is) at s.added in
    has_taken _ _ c.args.wants.now c.args.received c.in-Ok.taken s.back t added

pub returns-in-Err-clause-refused : goal.returns-in-Err-clause-refused
returns-in-Err-clause-refused g c =
    let s = c.take-pass.ensures in
    let t = rw (c.into_vec.ensures, c.as_slice.ensures, c.as_slice-2.ensures, c.in-Err.is) at s.turn in
    let none = rw c.in-Err.is at s.none in
    untaken _ _ c.args.wants.now c.args.received c.in-Err.e s.back t none
