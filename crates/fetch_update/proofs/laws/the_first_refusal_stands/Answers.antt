use Rattle.fetch_update.proofs.Refused.{refused_with, with_refused}
use Rattle.fetch_update.proofs.laws.the_first_refusal_stands.Goals as goal

pub returns : goal.returns
returns c = λ p specs extra mappings e. (λ is. refused_with p specs extra mappings e is, λ r. with_refused p specs extra mappings e r)
