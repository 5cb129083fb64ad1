use Rattle.fetch_serve.specs.Parts.{held_by}
use Rattle.fetch_serve.proofs.Collecting.{starts_are}
use Rattle.fetch_serve.proofs.served.starts.Goals as goal

pub returns : goal.returns
returns c =
    starts_are (held_by c.args.parts) c.args.asked.now c.args.depth.now _ _ _ _ _ _ c.as_slice.ensures c.as_slice-2.ensures c.as_slice-3.ensures c.in_ok-ids.ensures.items c.in_ok-extend_from_slice.ensures.items c.in_ok-append_parents_of.ensures
