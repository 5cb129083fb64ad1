-- The report of a mirror: what it holds, whatever the order in which its workers brought it.
use Rattle.std.specs.Prelude.{◌≡◌, ◌↔◌, ℕ, List, ◌++◌, codes, Contains, Some}
use Rattle.std.specs.FinMap as finmap
use Rattle.std.specs.FinSet as set
use Rattle.std.specs.List.{flat_map}
use Rattle.std.specs.List.Sorted.{IsStrictlySortedBy}
use Rattle.fetch_store.specs.Closed.{IsStored, Reached, holding}
use Rattle.fetch_base.specs.Id.{id_cmp}
use Rattle.fetch_base.specs.declared.id.ObjectId.{ObjectId}
use Rattle.fetch_refs.specs.Names.{Names}
use Rattle.fetch_refs.specs.declared.target.Target.{Target}
use Rattle.fetch_remote.specs.Repositories.{State}
use Rattle.fetch_serve.specs.Served.{Data}
use Rattle.fetch_mirror.specs.Mirrors.{born_ids, mirrored_of}
use Rattle.fetch_cli.specs.Report.{ref_lines}
use Rattle.fetch_cli.specs.ReportLines.{id_line}

-- the references and the ids, each in ascending order, and the end
unfoldable pub mirror_text : State → List ℕ
mirror_text s = ref_lines s.refs.names ++ flat_map id_line (finmap.keys s.objects) ++ codes "ok\n"

-- ---- what a whole mirror is told as

-- These are the born references of a repository, each as its id.
abbrev pub AreBorn : Data → Names → Type 0
AreBorn d names = (name : List ℕ) (target : Target) → (finmap.get names name ≡ Some target) ↔ Contains (mirrored_of d) (name, target)

-- The born references of a repository reach this id.
abbrev pub IsReached : Data → ObjectId → Type 0
IsReached d id = Reached (holding d.objects set.empty) (born_ids d) id

-- These ids, ascending, are what they reach.
pub record AreReached (d : Data) (ids : List ObjectId) : Type 0 where
  pub each : (id : ObjectId) → Contains ids id ↔ IsReached d id
  pub ascending : IsStrictlySortedBy id_cmp ids

-- The report of a repository's mirror: the born references, each as its id, and all that they reach.
pub record IsReportOf (d : Data) (text : List ℕ) : Type 0 where
  pub names : Names
  pub born : AreBorn d names
  pub ids : List ObjectId
  pub reached : AreReached d ids
  pub text_is : text ≡ ref_lines names ++ flat_map id_line ids ++ codes "ok\n"

-- A repository has the born references of another one, each as its id, and stores what they reach.
pub record HasBorn (d : Data) (s : State) : Type 0 where
  pub names : AreBorn d s.refs.names
  pub ids : (id : ObjectId) → IsStored s.objects id ↔ IsReached d id
