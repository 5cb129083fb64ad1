use Rattle.graph_rows.proofs.reaching.tell_found.Given as goal

abbrev pub ghosts-finds : goal.ghosts-finds
ghosts-finds a = record { name = a.blank.name; parts = a.blank.parts }
