use Rattle.std.proofs.Common.{◌≡◌, ◌+◌, ℕ, List, [], ◌∷◌, ◌++◌, drop, map, sym, ap, ◌∙◌}
use Rattle.std.proofs.lemmas.List.{drop_all}
use Rattle.fetch_specs.specs.declared.found.Match.{Match}
use Rattle.fetch_specs.specs.Matches.{added_all, leading}
use Rattle.fetch_specs.proofs.Keys.{turn, from}
use Rattle.fetch_specs.proofs.leading.add_leading.Goals as goal

pub loop-k-preserved : goal.loop-k-preserved
loop-k-preserved c =
    let sources = c.args.sources.now in
    let k = c.loop-k.k in
    let lead = leading c.args.index c.args.item c.args.name.now in
    let one = c.in_ok-one.one in
    let rest : List Match = map lead (drop (k + 1) sources) in
    let whole : map lead (drop k sources) ≡ (one ∷ []) ++ rest =
    ap (map lead) (from sources k c.index-sources-k.result c.loop-k-test.true c.index-sources-k.is) ∙ ap (λ (m : Match). m ∷ rest) (sym c.in_ok-one.ensures) in
    record {
      pairs = c.add.ensures.pairs ∙ c.loop-k.invariant.pairs;
      added = turn c.loop-k.found.pairs c.add.new.self.pairs c.loop-k.found.matches c.add.new.self.matches (one ∷ []) rest _ _ c.add.ensures.pairs c.in_ok-add.ensures.added whole c.loop-k.invariant.added;
    }

pub returns-clause-added : goal.returns-clause-added
returns-clause-added c =
    sym (ap (λ (ss : List (List ℕ)). added_all c.loop-k.found.pairs c.loop-k.found.matches (map (leading c.args.index c.args.item c.args.name.now) ss)) (drop_all c.loop-k.k c.args.sources.now c.loop-k-test.false))
    ∙ c.loop-k.invariant.added
