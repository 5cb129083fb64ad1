use Rattle.std.proofs.Common.{not, rules}
use Rattle.std.proofs.lemmas.Map.Made.{filter_same_pairs}
use Rattle.fetch_files.specs.Paths.{is_same_path, parts_of}
use Rattle.fetch_files.proofs.TreeChanges.{from_other}
use Rattle.fetch_files.proofs.file_tree.remove_told.Goals as goal

pub returns : goal.returns
returns c = from_other (parts_of c.args.path.now) _ _ (filter_same_pairs _ (λ e. not (is_same_path (parts_of c.args.path.now) e.0)) _ (λ k v b w f' t. search rules) _ _ c.retain.ensures.filtered)
