use Rattle.fetch_files.proofs.Rooted.{none_rooted, directories_rooted, written_rooted, renamed_rooted, file_removed_rooted, all_removed_rooted}
use Rattle.fetch_files.proofs.laws.trees.nothing_stands_below_a_file.Goals as goal

pub returns-clause-empty : goal.returns-clause-empty
returns-clause-empty c = none_rooted

pub returns-clause-make_dir_all : goal.returns-clause-make_dir_all
returns-clause-make_dir_all c = directories_rooted

pub returns-clause-write : goal.returns-clause-write
returns-clause-write c = written_rooted

pub returns-clause-rename : goal.returns-clause-rename
returns-clause-rename c = renamed_rooted

pub returns-clause-remove_file : goal.returns-clause-remove_file
returns-clause-remove_file c = file_removed_rooted

pub returns-clause-remove_dir_all : goal.returns-clause-remove_dir_all
returns-clause-remove_dir_all c = all_removed_rooted
