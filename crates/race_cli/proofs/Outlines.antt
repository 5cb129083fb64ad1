-- What the lines of an outline are, of a repository.
use Rattle.std.proofs.Common.{◌≡◌, ◌++◌, List, ap}
use Rattle.std.specs.FinMap as map
use Rattle.std.specs.List.{flat_map}
use Rattle.fetch_base.specs.declared.id.ObjectId.{ObjectId}
use Rattle.fetch_store.specs.Borders.{set_of, ids_of}
use Rattle.fetch_store.specs.Stores.{ObjectMap}
use Rattle.fetch_store.proofs.Borders.{ids_of-set}
use Rattle.fetch_store.proofs.Keys.{keys-rise}
use Rattle.fetch_cli.specs.Report.{ref_lines}
use Rattle.fetch_cli.specs.ReportLines.{border_line, id_line}
use Rattle.fetch_remote.specs.RepositoryValues.{RepositoryValue}
use Rattle.fetch_journal.specs.Replays.{outline}
use Rattle.race_cli.specs.RaceReports.{outline_lines}

-- The ids of an outline are those of the repository's objects.
ids_are : (objects : ObjectMap) → ids_of (set_of (map.keys objects)) ≡ map.keys objects
ids_are objects = ids_of-set (map.keys objects) (keys-rise objects)

-- the lines of its references, of its border and of its ids
pub lines_are : (r : RepositoryValue) → outline_lines (outline r) ≡ ref_lines r.state.refs.names ++ flat_map border_line (ids_of r.state.border) ++ flat_map id_line (map.keys r.state.objects)
unfolding outline_lines
lines_are r = ap (λ (ids : List ObjectId). ref_lines r.state.refs.names ++ flat_map border_line (ids_of r.state.border) ++ flat_map id_line ids) (ids_are r.state.objects)
