-- What a reference points to.
use Rattle.std.specs.Prelude.{Bool, false}
use Rattle.std.specs.Ordering.{eq_by_cmp}
use Rattle.std.specs.Str.{bytes_eq}
use Rattle.fetch_base.specs.Id.{id_cmp}
use Rattle.fetch_refs.specs.declared.target.Target.{Target}
use Rattle.fetch_refs.specs.declared.target.Target.TheVariants.{Object, Symbolic}
use Rattle.fetch_refs.specs.declared.target.TargetRef.{TargetRef}
use Rattle.fetch_refs.specs.declared.target.TargetRef.TheVariants as refs

-- the target that is lent
abbrev pub seen : TargetRef → Target
seen (refs.Object id) = Object id
seen (refs.Symbolic name) = Symbolic name.now

-- whether two targets are equal
abbrev pub is_same : Target → Target → Bool
is_same (Object a) (Object b) = eq_by_cmp id_cmp a b
is_same (Symbolic a) (Symbolic b) = bytes_eq a b
is_same a b = false
