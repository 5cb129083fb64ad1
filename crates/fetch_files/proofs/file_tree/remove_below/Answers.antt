use Rattle.std.proofs.Common.{rules}
use Rattle.std.specs.Prelude.{is_none}
use Rattle.std.proofs.lemmas.Map.Made.{filter_same_pairs}
use Rattle.fetch_files.specs.Paths.{after_path, parts_of}
use Rattle.fetch_files.proofs.TreeChanges.{from_filter}
use Rattle.fetch_files.proofs.file_tree.remove_below.Goals as goal

pub returns : goal.returns
returns c = from_filter (λ key. is_none (after_path (parts_of c.args.path.now) key)) _ _ (filter_same_pairs _ (λ e. is_none (after_path (parts_of c.args.path.now) e.0)) _ (λ k v b w f' t. search rules) _ _ c.retain.ensures.filtered)
