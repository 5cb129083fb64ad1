-- The order of names is total, and names that tie are one.
use Rattle.std.specs.Cmp.{IsTotalOrder}
use Rattle.std.specs.Cmp.Lexicographic.{nat_list_cmp_total}
use Rattle.std.specs.FinMap.{IsAntisymmetric, slice_cmp-IsAntisymmetric, nat_cmp-IsAntisymmetric}
use Rattle.fetch_refs.specs.Names.{name_cmp}

pub name_cmp_total : IsTotalOrder name_cmp
name_cmp_total = nat_list_cmp_total

pub name_cmp_exact : IsAntisymmetric name_cmp
name_cmp_exact = slice_cmp-IsAntisymmetric nat_cmp-IsAntisymmetric
