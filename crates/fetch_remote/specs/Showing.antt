-- What a repository shows to a fetch, where tips that nothing asks for are left out.
use Rattle.std.specs.Prelude.{◌≡◌, Bool, true, false, not, ◌&&◌, List}
use Rattle.fetch_store.specs.Graph.{graph_of}
use Rattle.fetch_base.specs.declared.id.ObjectId.{ObjectId}
use Rattle.fetch_specs.specs.declared.tags.Tags.{Tags}
use Rattle.fetch_negotiate.specs.Tips.{tips_of}
use Rattle.fetch_negotiate.specs.Wants.{wants_of}
use Rattle.fetch_negotiate.specs.declared.algorithm.Algorithm.{Algorithm}
use Rattle.fetch_negotiate.specs.declared.algorithm.Algorithm.TheVariants as algorithms
use Rattle.fetch_negotiate.specs.declared.algorithm.Shallow.{Shallow}
use Rattle.fetch_map.specs.declared.mapping.RefMap.{RefMap}
use Rattle.fetch_conversation.specs.ConverseStage.{algorithm_in}
use Rattle.fetch_conversation.specs.ListStage.{is_nil}
use Rattle.fetch_conversation.specs.declared.conversing.View.{View}
use Rattle.fetch_conversation.specs.declared.settings.Settings.{Settings}
use Rattle.fetch_remote.specs.Repositories.{State}

-- whether an algorithm walks from the tips
abbrev pub walks : Algorithm → Bool
walks algorithms.Noop = false
walks algorithms.Consecutive = true
walks algorithms.Skipping = true

-- whether the tips are asked for: something is wanted, and the algorithm walks from them
abbrev pub needs_tips : Algorithm → List ObjectId → Bool
needs_tips algorithm wants = not (is_nil wants) && walks algorithm

-- The wants, the border, and the tips where they are asked for.
pub record Shows (s : State) (settings : Settings) (m : RefMap) (tags : Tags) (shallow : Shallow) (v : View) : Type 0 where
  pub wants : v.wants ≡ wants_of m tags shallow (graph_of s.objects)
  pub border : v.border ≡ s.border
  pub tips : needs_tips (algorithm_in settings) v.wants ≡ true → v.tips ≡ tips_of s.refs.names (graph_of s.objects)
