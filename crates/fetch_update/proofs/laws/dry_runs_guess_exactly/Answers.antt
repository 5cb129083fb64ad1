use Rattle.fetch_update.proofs.Wholes.{guesses_exactly}
use Rattle.fetch_update.proofs.laws.dry_runs_guess_exactly.Goals as goal

pub returns : goal.returns
returns c = λ p specs extra mappings o is dry. guesses_exactly p specs extra mappings o is dry
