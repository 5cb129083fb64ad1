use Rattle.std.proofs.Common.{take, ◌++◌, List, map, get_or, sym, ap, ◌∙◌}
use Rattle.std.specs.List.{filter}
use Rattle.std.proofs.lemmas.List.{take_all, take_more}
use Rattle.fetch_specs.specs.declared.conflict.Conflict.{Conflict}
use Rattle.fetch_specs.specs.declared.found.Match.{Match}
use Rattle.fetch_specs.specs.Conflicts.{is_double, sourced, destinations_of, conflict_in, conflicts_of}
use Rattle.fetch_specs.proofs.Conflicting.{conflicts-more}
use Rattle.fetch_specs.proofs.Taking.{conflict-taken, others-turn}
use Rattle.fetch_specs.proofs.conflict.conflicts.Goals as goal

pub loop-i-preserved : goal.loop-i-preserved
loop-i-preserved c =
    let ms = c.args.matches.now in
    let i = c.loop-i.i in
    let m = get_or ms i c.index-matches-i.result in
    let before = c.loop-i.sources.entries in
    record {
      found =
          c.in_ok-take_conflict.ensures.found
          ∙ ap (λ (cs : List Conflict). cs ++ conflict_in before m.rhs) c.loop-i.invariant.found
          ∙ ap (λ (cs : List Conflict). filter is_double (map (sourced ms) (destinations_of (take i ms))) ++ cs) (conflict-taken ms (take i ms) before m.rhs c.loop-i.invariant.others)
          ∙ sym (conflicts-more ms (take i ms) m)
          ∙ ap (λ (xs : List Match). filter is_double (map (sourced ms) (destinations_of xs))) (sym (take_more ms i c.index-matches-i.result c.loop-i-test.true));
      others = others-turn ms i m before c.take_conflict.new.sources.entries c.loop-i-test.true (ap (get_or ms i) c.index-matches-i.is) c.loop-i.invariant.others c.in_ok-take_conflict.ensures.others;
    }

pub returns : goal.returns
unfolding conflicts_of
returns c =
    let ms = c.args.matches.now in
    c.loop-i.invariant.found ∙ ap (λ (xs : List Match). filter is_double (map (sourced ms) (destinations_of xs))) (take_all c.loop-i.i ms c.loop-i-test.false)
