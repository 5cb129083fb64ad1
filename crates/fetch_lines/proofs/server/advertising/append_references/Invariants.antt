use Rattle.std.proofs.Common.{◌≡◌, ◌++◌, drop}
use Rattle.std.specs.List.{flat_map}
use Rattle.fetch_lines.specs.AdvertisementLines.{advertised_texts}
use Rattle.fetch_lines.proofs.server.advertising.append_references.Given as goal

abbrev pub invariant-loop-reference : goal.invariant-loop-reference
invariant-loop-reference l = l.texts.items ++ flat_map advertised_texts (drop l.reference-index l.refs) ≡ l.fn.texts.items ++ flat_map advertised_texts l.refs
