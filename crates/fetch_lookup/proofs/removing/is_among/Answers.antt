use Rattle.std.proofs.Common.{◌∙◌}
use Rattle.std.specs.Str.{bytes_eq}
use Rattle.std.proofs.lemmas.Map.Text.{is_eq-slice_cmp}
use Rattle.fetch_lookup.proofs.Removal.{any-same}
use Rattle.fetch_lookup.proofs.removing.is_among.Goals as goal

pub returns : goal.returns
returns c = c.contains.ensures ∙ any-same _ (bytes_eq c.args.name.now) (λ k. is_eq-slice_cmp c.args.name.now k) c.args.names.now.keys
