use Rattle.std.proofs.Common.{subst, arith}
use Rattle.fetch_base.specs.Answers.{AnswersBy}
use Rattle.fetch_store.specs.Collisions.{HasDistinctIds}
use Rattle.fetch_store.specs.Stores.{AreOf}
use Rattle.fetch_pack.specs.Once.{AreNamed}
use Rattle.fetch_pack.specs.Reading.{is_memory, Contents}
use Rattle.fetch_pack.specs.Views.{contents}
use Rattle.fetch_pack.proofs.Laws.{is_found, read_again}
use Rattle.fetch_pack.proofs.Members.{of_contents, once_of_kind, once_named, once_distinct}
use Rattle.fetch_pack.proofs.Refused.{is_refused}
use Rattle.fetch_pack.proofs.reading.read_pack_gated.Goals as goal

pub returns : goal.returns
returns g c =
    let hash = c.args.kind in
    let bytes = c.args.bytes.now in
    let r = c.exactly.result in
    let exact = c.exactly.ensures.exact in
    let found = is_found hash bytes r (λ i. omega (arith, c.type_inv.bytes i)) exact in
    record {
      found = found;
      only = λ v ps is. subst (λ x. AnswersBy contents is_memory x r) (read_again v hash bytes ps is) exact;
      of_kind = of_contents hash bytes (λ (t : Contents). AreOf hash t.objects) r (λ v ps. once_of_kind hash ps) found;
      ids = of_contents hash bytes (λ (t : Contents). AreNamed t.objects) r (λ v ps. once_named hash ps) found;
      distinct = of_contents hash bytes (λ (t : Contents). HasDistinctIds t.objects) r (λ v ps. once_distinct hash ps) found;
      refused = is_refused hash bytes r (λ i. omega (arith, c.type_inv.bytes i)) exact;
      exact = exact;
      at_once = c.exactly.ensures.at_once;
    }
