-- References and reflogs: finite maps of names.
use Rattle.std.specs.Prelude.{ℕ, List, refl}
use Rattle.std.specs.Coded.{Coded, code_by, coded_ℕ, coded_list, coded×}
use Rattle.std.specs.Cmp.Lexicographic.{slice_cmp}
use Rattle.std.specs.FinMap as map
use Rattle.std.specs.Ordering.{nat_cmp}
use Rattle.std.specs.declared.cmp.Ordering.{Ordering}
use Rattle.fetch_objects.specs.Codes.{coded_kind, coded_id}
use Rattle.fetch_base.specs.declared.id.Kind.{Kind}
use Rattle.fetch_base.specs.declared.id.ObjectId.{ObjectId}
use Rattle.fetch_refs.specs.declared.target.Target.{Target}
use Rattle.fetch_refs.specs.declared.log.LogLine.{LogLine}
use Rattle.fetch_refs.specs.Codes.{coded_target, coded_line}

-- names are ordered byte by byte
abbrev pub name_cmp : List ℕ → List ℕ → Ordering
name_cmp = slice_cmp nat_cmp

-- the references by name
abbrev pub Names : Type 0
Names = map.FinMap name_cmp Target

-- the reflogs by name
abbrev pub Logs : Type 0
Logs = map.FinMap name_cmp (List LogLine)

-- names with ids, by ascending name
abbrev pub PackedList : Type 0
PackedList = map.FinMap name_cmp ObjectId

-- references, reflogs and the packed list of a repository with this hash
pub record RefsValue : Type 0 where
  pub hash : Kind
  pub names : Names
  pub logs : Logs
  pub packed : PackedList

-- references with reflogs, coded
abbrev pub coded_refs : Coded RefsValue
coded_refs =
    code_by (Kind × (Names × (Logs × PackedList)))
    (coded× coded_kind (coded× (map.code {R = name_cmp} (coded_list coded_ℕ) coded_target)
    (coded× (map.code {R = name_cmp} (coded_list coded_ℕ) (coded_list coded_line))
    (map.code {R = name_cmp} (coded_list coded_ℕ) coded_id))))
    (λ r. (r.hash, (r.names, (r.logs, r.packed)))) (λ p. record { hash = p.0; names = p.1.0; logs = p.1.1.0; packed = p.1.1.1 }) (λ _. refl)
