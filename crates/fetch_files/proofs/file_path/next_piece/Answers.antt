use Rattle.std.proofs.Common.{sym}
use Rattle.fetch_files.proofs.Slashes.{parts-some, parts-none}
use Rattle.fetch_files.proofs.file_path.next_piece.Goals as goal

pub returns-in-Some-clause-parts : goal.returns-in-Some-clause-parts
returns-in-Some-clause-parts c = parts-some c.args.text.now c.in-Some.piece.now c.in-Some.rest.now (sym c.in-Some.ensures)

pub returns-in-None-clause-parts : goal.returns-in-None-clause-parts
returns-in-None-clause-parts c = parts-none c.args.text.now (sym c.in-None.ensures)
