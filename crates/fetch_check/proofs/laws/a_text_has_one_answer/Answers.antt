use Rattle.std.proofs.Common.{refl}
use Rattle.fetch_check.specs.Bundles.{bundle_text}
use Rattle.fetch_check.proofs.Unique.{refused_one, refused_bundle, one_bundle}
use Rattle.fetch_check.proofs.laws.a_text_has_one_answer.Goals as goal

pub returns-clause-one : goal.returns-clause-one
returns-clause-one c = refused_one

pub returns-clause-none : goal.returns-clause-none
returns-clause-none c = λ b e m is cause. refused_bundle (bundle_text b) e b m cause is refl

pub returns-clause-bundle : goal.returns-clause-bundle
returns-clause-bundle c = λ b c ib ic same. one_bundle (bundle_text b) c b ic ib same refl
