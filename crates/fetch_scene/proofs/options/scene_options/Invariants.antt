use Rattle.std.proofs.Common.{◌≡◌}
use Rattle.std.specs.Prelude.{fold}
use Rattle.std.specs.Vec.Iter.{into_iter_items}
use Rattle.fetch_scene.specs.SceneOptions.{with_option, no_options}
use Rattle.fetch_scene.proofs.options.scene_options.Given as goal

abbrev pub invariant-loop-option : goal.invariant-loop-option
invariant-loop-option l = record {
  next : (goal.iterator-loop-option).can_next l.option-iterator;
  ends : (goal.iterator-loop-option).is_finite l.option-iterator;
  rest : fold with_option l.all (into_iter_items l.option-iterator) ≡ fold with_option no_options l.fn.options;
}
