use Rattle.std.proofs.Common.{◌≡◌, ℕ, List, [], ◌∷◌, length, refl, ap, arith}
use Rattle.std.specs.Vec.Iter.{into_iter_items}
use Rattle.fetch_update.specs.declared.verdict.Verdict.{Verdict}
use Rattle.fetch_update.specs.Outcomes.{adjusted}
use Rattle.fetch_update.proofs.Lists.{mapped_more, mapped_all}
use Rattle.fetch_update.proofs.adjusting.adjust_all.Goals as goal

pub verdicts-preserved : goal.verdicts-preserved
verdicts-preserved c = record {
  next = tt;
  ends = tt;
  so_far = λ edits h.
      mapped_more (λ (v : ℕ × Verdict). (v.0, adjusted c.args.refs.now.names edits v.1 v.1.edit)) c.args.verdicts.items (into_iter_items c.verdicts.index-iterator) (into_iter_items c.next.new.self)
      c.verdicts.out.items c.push.new.self.items (c.in-Some.index, c.in-Some.verdict) (c.in-Some.index, c.in_ok-verdict.verdict)
      c.in-Some.ensures.steps.0 c.in_ok-push.ensures.items (ap (λ (v : Verdict). (c.in-Some.index, v)) (c.in_ok-verdict.ensures edits h)) (c.verdicts.invariant.so_far edits h);
}

no_items : (vs : List (ℕ × Verdict)) → length vs ≡ 0 → vs ≡ []
no_items [] e = refl
no_items (v ∷ vs) e = absurd (omega arith)

pub returns : goal.returns
returns c = λ edits h.
    mapped_all (λ (v : ℕ × Verdict). (v.0, adjusted c.args.refs.now.names edits v.1 v.1.edit)) c.args.verdicts.items (into_iter_items c.verdicts.index-iterator) c.verdicts.out.items
    (no_items (into_iter_items c.verdicts.index-iterator) (omega (arith, c.verdicts.index-iterator.rest.ok.0, c.in-None.ensures.steps.0))) (c.verdicts.invariant.so_far edits h)
