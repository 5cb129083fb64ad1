use Rattle.std.proofs.Common.{◌+◌, ℕ, List, drop, sym, ap, ◌∙◌}
use Rattle.std.specs.List.{flat_map}
use Rattle.std.proofs.lemmas.List.{drop_all}
use Rattle.fetch_specs.specs.declared.spec.RefSpec.{RefSpec}
use Rattle.fetch_specs.specs.Prefixes.{put_all, spec_prefixes}
use Rattle.fetch_specs.proofs.Keys.{from}
use Rattle.fetch_specs.proofs.Placing.{put_all-append}
use Rattle.fetch_specs.proofs.listing.put_specs.Goals as goal

pub loop-i-preserved : goal.loop-i-preserved
loop-i-preserved c =
    let specs = c.args.specs.now in
    let i = c.loop-i.i in
    let rest : List (List ℕ) = flat_map spec_prefixes (drop (i + 1) specs) in
    ap (λ (ts : List (List ℕ)). put_all ts rest) c.in_ok-put_spec.ensures
    ∙ sym (put_all-append c.loop-i.texts.keys (spec_prefixes c.index-specs-i.result) rest)
    ∙ sym (ap (λ (xs : List RefSpec). put_all c.loop-i.texts.keys (flat_map spec_prefixes xs)) (from specs i c.index-specs-i.result c.loop-i-test.true c.index-specs-i.is))
    ∙ c.loop-i.invariant

pub returns : goal.returns
returns c =
    sym (ap (λ (xs : List RefSpec). put_all c.loop-i.texts.keys (flat_map spec_prefixes xs)) (drop_all c.loop-i.i c.args.specs.now c.loop-i-test.false))
    ∙ c.loop-i.invariant
