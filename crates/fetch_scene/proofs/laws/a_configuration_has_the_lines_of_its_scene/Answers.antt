use Rattle.fetch_scene.proofs.ConfigLines.{own_lines}
use Rattle.fetch_scene.proofs.laws.a_configuration_has_the_lines_of_its_scene.Goals as goal

pub returns : goal.returns
returns c = own_lines
