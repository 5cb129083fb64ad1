-- Lists of ids.
use Rattle.std.specs.Prelude.{not, List, [], ◌∷◌, filter}
use Rattle.std.specs.Ordering.{eq_by_cmp}
use Rattle.fetch_base.specs.declared.id.ObjectId.{ObjectId}
use Rattle.fetch_base.specs.Id.{id_cmp}

-- each id once, where it comes first
abbrev pub firsts : List ObjectId → List ObjectId
firsts [] = []
firsts (id ∷ ids) = id ∷ filter (λ other. not (eq_by_cmp id_cmp other id)) (firsts ids)
