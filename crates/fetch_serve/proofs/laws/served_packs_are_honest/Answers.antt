use Rattle.fetch_serve.specs.Depths.{depth_of}
use Rattle.fetch_serve.proofs.Honest.{honest_with}
use Rattle.fetch_serve.proofs.Kept.{depth_is}
use Rattle.fetch_serve.proofs.laws.served_packs_are_honest.Goals as goal

pub returns-clause-pack : goal.returns-clause-pack
returns-clause-pack c = λ d r client haves s offered is more. honest_with d s r client is (depth_of d r) (depth_is d r) offered haves more

pub returns-clause-any_depth : goal.returns-clause-any_depth
returns-clause-any_depth c = λ d r x client haves s offered k is more. honest_with d s r client is x k offered haves more
