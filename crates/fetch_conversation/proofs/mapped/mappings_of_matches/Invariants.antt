use Rattle.std.proofs.Common.{◌≡◌, take}
use Rattle.std.specs.List.{filter_map}
use Rattle.fetch_conversation.specs.Mapped.{mapping_by}
use Rattle.fetch_conversation.proofs.mapped.mappings_of_matches.Given as goal

abbrev pub invariant-loop-found : goal.invariant-loop-found
invariant-loop-found l = l.mappings.items ≡ filter_map (mapping_by l.remote l.refs) (take l.found-index l.matches)
