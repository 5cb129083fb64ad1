use Rattle.fetch_serve.proofs.Appending.{moves_are, on_ok}
use Rattle.fetch_serve.proofs.fetching.append_moves.Goals as goal

pub returns : goal.returns
returns c =
    on_ok c.append_line-2.result _ _
    (moves_are c.args.depth.now.shallow c.args.depth.now.unshallow c.as_slice.result.now c.as_slice-2.result.now c.args.out.now.items c.append_line.new.out.items c.append_ids.new.out.items c.append_ids-2.new.out.items c.append_line-2.new.out.items c.as_slice.ensures c.as_slice-2.ensures
    c.in_ok-append_line.ensures c.in_ok-append_ids.ensures c.in_ok-append_ids-2.ensures) c.append_line-2.ensures
