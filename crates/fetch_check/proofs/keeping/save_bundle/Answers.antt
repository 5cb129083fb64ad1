use Rattle.fetch_check.proofs.Putting.{begun_left}
use Rattle.fetch_check.proofs.keeping.save_bundle.Goals as goal

pub returns-in-Err-Failed-clause-left : goal.returns-in-Err-Failed-clause-left
returns-in-Err-Failed-clause-left g c = begun_left (g.F.Files.told c.args.files.now) (g.F.Files.told c.put.new.files) c.args.path.now c.as_slice-2.result.now c.in-Err-Failed.ensures.begun

pub returns-clause-left : goal.returns-clause-left
returns-clause-left g c = begun_left (g.F.Files.told c.args.files.now) (g.F.Files.told c.put.new.files) c.args.path.now c.as_slice-2.result.now c.in-Err-NoMemory.ensures.begun
