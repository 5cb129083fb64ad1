use Rattle.graph_rows.proofs.walks.spread_from.Given as goal

abbrev pub ghosts-count_spread : goal.ghosts-count_spread
ghosts-count_spread a = record { name = a.blank.name; parts = a.blank.parts }
