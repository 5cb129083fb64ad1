use Rattle.std.proofs.Common.{◌≡◌, ◌/◌, subst, sym, ◌∙◌}
use Rattle.fetch_store.specs.Stores.{AreOf}
use Rattle.fetch_base.specs.declared.id.Kind.TheVariants.{Sha1}
use Rattle.fetch_bench.specs.Commits.{line_of}
use Rattle.fetch_bench.proofs.Halves.{line_of_hash}
use Rattle.fetch_bench.proofs.generated.generate.Goals as goal

pub returns-clause-of_hash : goal.returns-clause-of_hash
returns-clause-of_hash c =
    let half = c.args.count / 2 in
    let tree = c.in_ok-objects.ensures in
    let is : c.from.result ≡ line_of half = c.from.ensures ∙ (rw tree at c.in_ok-tip.ensures.commits) in
    subst (AreOf Sha1) (sym is) (line_of_hash half)
