-- A repository that has no id yet, and so may be of any hash.
use Rattle.std.specs.Prelude.{◌≡◌, true}
use Rattle.std.specs.FinMap as map
use Rattle.std.specs.FinSet as set
use Rattle.fetch_base.specs.declared.id.Kind.{Kind}
use Rattle.fetch_refs.specs.Hashing.{has_no_ids, of_hash as refs_of_hash}
use Rattle.fetch_remote.specs.RepositoryValues.{State, Setup}

-- no object, no commit in the border, and no id in references and reflogs
pub record HasNoIds (s : State) : Type 0 where
  pub objects : map.len s.objects ≡ 0
  pub border : s.border ≡ set.empty
  pub refs : has_no_ids s.refs ≡ true

-- the same state in a repository of this hash
abbrev pub of_hash : Kind → State → State
of_hash kind s = record { hash = kind; objects = s.objects; border = s.border; refs = refs_of_hash kind s.refs }

-- the same setup, whose settings tell this hash
abbrev pub with_kind : Kind → Setup → Setup
with_kind kind s = record s { settings = record s.settings { kind = kind } }
