use Rattle.fetch_files.specs.Paths.{parts_of}
use Rattle.fetch_files.proofs.Slashes.{same-some, same-none}
use Rattle.fetch_files.proofs.file_path.FilePath.is_told_by.Goals as goal

pub returns-in-Some : goal.returns-in-Some
returns-in-Some c = same-some (parts_of c.args.path.now) c.args.self.now c.in-Some.rest.now c.is_empty.result c.in-Some.ensures c.is_empty.ensures

pub returns-in-None : goal.returns-in-None
returns-in-None c = same-none (parts_of c.args.path.now) c.args.self.now c.in-None.ensures
