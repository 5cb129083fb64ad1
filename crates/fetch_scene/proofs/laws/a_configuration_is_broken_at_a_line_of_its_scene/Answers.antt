use Rattle.fetch_scene.proofs.ConfigLines.{one_of}
use Rattle.fetch_scene.proofs.laws.a_configuration_is_broken_at_a_line_of_its_scene.Goals as goal

pub returns : goal.returns
returns c = one_of
