-- The scene of a bench.
use Rattle.std.specs.Prelude.{ℕ, false, List, [], ◌∷◌, codes, Some, option_to_list, option_map}
use Rattle.std.specs.FinSet as set
use Rattle.fetch_base.specs.declared.id.Kind.TheVariants.{Sha1}
use Rattle.fetch_base.specs.declared.id.ObjectId.{ObjectId}
use Rattle.fetch_specs.specs.declared.tags.Tags.TheVariants as tags
use Rattle.fetch_config.specs.Contents.{Contents}
use Rattle.fetch_config.specs.Lines.{sections_of}
use Rattle.fetch_refs.specs.declared.target.Target.TheVariants.{Object}
use Rattle.fetch_bench.specs.Generated.{generated}
use Rattle.fetch_bench.specs.declared.generated.Generated.{Generated}
use Rattle.fetch_scene.specs.LineKinds.{refspec_in}
use Rattle.fetch_scene.specs.SceneConfig.{own, text_of}
use Rattle.fetch_scene.specs.SceneOptions.{no_options}
use Rattle.fetch_scene.specs.declared.references.Reference.{Reference}
use Rattle.fetch_scene.specs.declared.scene.Scene.{Scene}

-- no commit is told to the server as one that is there
abbrev pub configuration : List ℕ
configuration = text_of (codes "[fetch]" ∷ codes "negotiationAlgorithm = noop" ∷ [])

-- the configuration of a bench
unfoldable pub config : Contents
config = record { meta = own; sections = sections_of own configuration }

-- the reference that an earlier fetch left, where there was one
abbrev pub tracking : ObjectId → Reference
tracking id = record { name = codes "refs/remotes/origin/main"; target = Object id }

-- the refspec by which each branch is fetched
abbrev pub refspec : List ℕ
refspec = codes "+refs/heads/*:refs/remotes/origin/*"

-- the scene of what was generated
unfoldable pub scene_with : Generated → Scene
scene_with g = record {
  hash = Sha1;
  git_dir = codes "/b/.git";
  workdir = Some (codes "/b");
  lenient = false;
  refs = option_to_list (option_map tracking g.tip);
  border = set.empty;
  config = config;
  worktrees = [];
  objects = g.objects;
  address = codes "/b/s.git";
  specs = option_to_list (refspec_in refspec);
  tags = tags.None;
  extra = [];
  options = no_options;
  pieces = g.pieces;
}

-- the scene of a line of n commits, of which the second half is fetched
abbrev pub generated_scene : ℕ → Scene
generated_scene n = scene_with (generated n)
