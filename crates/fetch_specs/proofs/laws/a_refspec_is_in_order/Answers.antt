use Rattle.fetch_specs.proofs.InOrder.{in_order}
use Rattle.fetch_specs.proofs.laws.a_refspec_is_in_order.Goals as goal

pub returns : goal.returns
returns c = λ spec is. in_order spec is
