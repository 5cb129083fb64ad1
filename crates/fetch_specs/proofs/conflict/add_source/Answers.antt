use Rattle.std.proofs.Common.{List, ℕ, Option, cond, sym, ap, ◌∙◌}
use Rattle.fetch_specs.specs.Conflicts.{is_side, sources_at, more_sources}
use Rattle.fetch_specs.proofs.Taking.{source-more}
use Rattle.fetch_specs.proofs.conflict.add_source.Goals as goal

pub returns : goal.returns
returns c = λ text.
    let old = c.args.sources.now.entries in
    let found = c.args.found.now in
    source-more text c.in-Some.destination c.in_ok-key.key found.lhs old c.taken_out-before.new.sources.entries c.insert.new.self.entries c.taken_out-before.result c.in_ok-after.after
    c.in_ok-key.ensures c.taken_out-before.ensures.taken (c.taken_out-before.ensures.others text) c.in_ok-after.ensures c.in_ok-insert.ensures.updates.0
    ∙ ap (λ (o : Option (List ℕ)). cond (is_side text o) (more_sources (sources_at old text) found.lhs) (sources_at old text)) (sym c.in-Some.is)
