use Rattle.fetch_shared.proofs.shared.SharedRepository.split.Given as goal

abbrev pub ghosts-cut : goal.ghosts-cut
ghosts-cut a = record { numbers = a.numbers }
