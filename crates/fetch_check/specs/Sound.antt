-- Repositories of one hash.
use Rattle.std.specs.List.{AllByRecursion}
use Rattle.std.specs.FinMap as finmap
use Rattle.fetch_base.specs.declared.id.Kind.{Kind}
use Rattle.fetch_store.specs.Borders.{ids_of}
use Rattle.fetch_store.specs.Closed.{AreAllOf, Holding}
use Rattle.fetch_reach.specs.Named.{AreObjects, AreOwnIds}
use Rattle.fetch_refs.specs.Names.{Names}
use Rattle.fetch_check.specs.Payloads.{IsOfHash, IsReference}

-- References, objects and a border of this hash: each object obeys its grammar, and its id is its hash.
pub record IsSound (hash : Kind) (names : Names) (h : Holding) : Type 0 where
  pub of_hash : AreAllOf hash h.objects
  pub objects : AreObjects h.objects
  pub own : AreOwnIds h.objects
  pub references : AllByRecursion (IsReference hash) (finmap.entries names)
  pub border : AllByRecursion (IsOfHash hash) (ids_of h.border)
