use Rattle.std.proofs.Common.{arith}
use Rattle.fetch_disk.proofs.Fronts.{front_grows}
use Rattle.fetch_disk.proofs.whole_file.read_piece.Goals as goal

pub returns-clause-front : goal.returns-clause-front
returns-clause-front g c =
    front_grows c.args.bytes.now.items (g.D.Volume.seen c.args.disk.now).journal _ c.extend_from_slice.new.self.items c.len.result c.in_ok-count.count c.requires.front (omega arith) c.in_ok-count.ensures.bytes c.in_ok-extend_from_slice.ensures.items
