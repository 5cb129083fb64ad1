use Rattle.std.proofs.Common.{List, ℕ, ◌++◌, sym, ap, ◌∙◌}
use Rattle.fetch_reach.specs.Stored.{objects_at}
use Rattle.fetch_serve.specs.Parts.{held_by}
use Rattle.fetch_serve.specs.Replies.{pack_with}
use Rattle.fetch_serve.proofs.Appending.{can_hold, large_is, on_ok, pack_is}
use Rattle.fetch_serve.proofs.fetching.append_pack.Goals as goal

pub write_stored-requires-clause-fits : goal.write_stored-requires-clause-fits
write_stored-requires-clause-fits c = can_hold c.args.asked.now.version (objects_at (held_by c.args.parts).objects c.args.ids.now) (sym c.is_too_large.ensures ∙ c.if-is_too_large.false)

pub returns-then-is_too_large : goal.returns-then-is_too_large
returns-then-is_too_large c =
    on_ok c.append_too_large.result _ _
    (large_is (held_by c.args.parts) c.args.asked.now (objects_at (held_by c.args.parts).objects c.args.ids.now) c.args.out.now.items c.append_too_large.new.out.items (sym c.is_too_large.ensures ∙ c.if-is_too_large.true)) c.append_too_large.ensures

pub returns : goal.returns
returns c =
    on_ok c.append_bytes.result _ _
    (pack_is (held_by c.args.parts) c.args.asked.now (objects_at (held_by c.args.parts).objects c.args.ids.now) c.args.out.now.items c.append_change.new.out.items c.append_bytes.new.out.items c.as_slice.result.now
    (sym c.is_too_large.ensures ∙ c.if-is_too_large.false) (c.as_slice.ensures.value ∙ c.in_ok-write_stored.ensures.pack ∙ ap (λ (l : List ℕ). l ++ pack_with (held_by c.args.parts) c.args.asked.now (objects_at (held_by c.args.parts).objects c.args.ids.now)) c.new-pack.ensures.items) c.in_ok-append_change.ensures) c.append_bytes.ensures
