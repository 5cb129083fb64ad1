use Rattle.std.proofs.Common.{cond, List, [], ◌∷◌, ◌++◌, ap, ◌∙◌}
use Rattle.fetch_specs.specs.declared.found.Match.{Match}
use Rattle.fetch_specs.specs.FoundSets.{FoundValue}
use Rattle.fetch_specs.specs.Matches.{added}
use Rattle.fetch_specs.proofs.Keys.{grown}
use Rattle.fetch_specs.proofs.found.Found.add.Goals as goal

pub invariant_of-self-2 : goal.invariant_of-self-2
invariant_of-self-2 c =
    (grown c.self.inside.pairs c.self.inside.matches.items c.self.inside.keys.keys c.insert.new.self.keys c.args.found c.in_ok-key.key c.in_ok-is_new.is_new c.push_if.new.matches.items c.self.invariant c.in_ok-key.ensures
    c.in_ok-is_new.ensures.added c.in_ok-is_new.ensures.updates.0 c.in_ok-is_new.ensures.unchanged
    (c.push_if.ensures ∙ ap (λ (xs : List Match). cond c.in_ok-is_new.is_new (xs ++ c.args.found ∷ []) xs) c.in_ok-reserve.ensures.items)).has

pub returns-clause-added : goal.returns-clause-added
returns-clause-added c =
    (grown c.self.inside.pairs c.self.inside.matches.items c.self.inside.keys.keys c.insert.new.self.keys c.args.found c.in_ok-key.key c.in_ok-is_new.is_new c.push_if.new.matches.items c.self.invariant c.in_ok-key.ensures
    c.in_ok-is_new.ensures.added c.in_ok-is_new.ensures.updates.0 c.in_ok-is_new.ensures.unchanged
    (c.push_if.ensures ∙ ap (λ (xs : List Match). cond c.in_ok-is_new.is_new (xs ++ c.args.found ∷ []) xs) c.in_ok-reserve.ensures.items)).added
    ∙ ap (λ (s : FoundValue). added s.pairs s.matches c.args.found) c.self.view_is
