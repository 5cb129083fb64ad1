-- Where the code's steps lead.
use Rattle.fetch_store.specs.Graph.{Graph}
use Rattle.fetch_store.specs.Spread.{Nexts}
use Rattle.fetch_serve.specs.declared.depth.Way.{Way}
use Rattle.fetch_serve.specs.declared.depth.Way.TheVariants.{All, Within, Limited}
use Rattle.fetch_serve.specs.Depths.{may_be_kept, parent_steps, steps_to, steps_within}

-- the steps of a way
abbrev pub steps_by : Graph → Way → Nexts
steps_by history All = parent_steps history
steps_by history (Within border) = steps_within history border.now
steps_by history (Limited cutoff excluded) = steps_to history (may_be_kept history cutoff excluded.now)
