-- The one report of a repository's mirror.
use Rattle.std.proofs.Common.{◌≡◌, ◌++◌, ℕ, List, Contains, Option, Some, None, refl, sym, ap, ◌∙◌}
use Rattle.std.specs.Prelude.{codes}
use Rattle.std.specs.FinMap as finmap
use Rattle.std.specs.List.{flat_map}
use Rattle.fetch_store.specs.Borders.{ids_of}
use Rattle.fetch_store.specs.Closed.{IsStored}
use Rattle.fetch_store.specs.Stores.{ObjectMap}
use Rattle.fetch_base.specs.declared.id.ObjectId.{ObjectId}
use Rattle.fetch_store.proofs.Borders.{Contains-named, ids_of-set, named-Contains, same_sets}
use Rattle.fetch_store.proofs.Keys.{keys-rise}
use Rattle.fetch_refs.specs.Names.{Names}
use Rattle.fetch_refs.specs.declared.target.Target.{Target}
use Rattle.fetch_refs.proofs.Names.{name_cmp_exact, name_cmp_total}
use Rattle.fetch_remote.specs.Repositories.{State}
use Rattle.fetch_serve.specs.Served.{Data}
use Rattle.fetch_cli.specs.Report.{ref_lines}
use Rattle.fetch_cli.specs.ReportLines.{id_line}
use Rattle.mirror_cli.specs.MirrorReports.{AreBorn, AreReached, HasBorn, IsReportOf, mirror_text}

-- an ascending list is known by its members
one_list : (d : Data) (xs ys : List ObjectId) → AreReached d xs → AreReached d ys → xs ≡ ys
one_list d xs ys a b =
    sym (ids_of-set xs a.ascending)
    ∙ ap ids_of (same_sets xs ys (λ q is. (b.each q).1 ((a.each q).0 is)) (λ q is. (a.each q).1 ((b.each q).0 is)))
    ∙ ids_of-set ys b.ascending

-- a map is known by what it has at each name
one_at : (d : Data) (m n : Names) → AreBorn d m → AreBorn d n → (name : List ℕ) (x y : Option Target) → finmap.get m name ≡ x → finmap.get n name ≡ y → finmap.get m name ≡ finmap.get n name
one_at d m n a b name None None is at = is ∙ sym at
one_at d m n a b name None (Some target) is at = (a name target).1 ((b name target).0 at) ∙ sym at
one_at d m n a b name (Some target) y is at = is ∙ sym ((b name target).1 ((a name target).0 is))

one_map : (d : Data) (m n : Names) → AreBorn d m → AreBorn d n → m ≡ n
one_map d m n a b = finmap.same_map name_cmp_total name_cmp_exact m n (λ q. one_at d m n a b q (finmap.get m q) (finmap.get n q) refl refl)

abbrev lines_of : Names → List ObjectId → List ℕ
lines_of names ids = ref_lines names ++ flat_map id_line ids ++ codes "ok\n"

pub one_report : (d : Data) (text other : List ℕ) → IsReportOf d text → IsReportOf d other → text ≡ other
one_report d text other a b =
    let names : a.names ≡ b.names = one_map d a.names b.names a.born b.born in
    let ids : a.ids ≡ b.ids = one_list d a.ids b.ids a.reached b.reached in
    a.text_is ∙ (λ i. lines_of (names i) (ids i)) ∙ sym b.text_is

key_stored : (objects : ObjectMap) (id : ObjectId) → Contains (finmap.keys objects) id → IsStored objects id
key_stored objects id here = finmap.contains_key-keys objects id ∙ named-Contains id (finmap.keys objects) here

stored_key : (objects : ObjectMap) (id : ObjectId) → IsStored objects id → Contains (finmap.keys objects) id
stored_key objects id is = Contains-named id (finmap.keys objects) (sym (finmap.contains_key-keys objects id) ∙ is)

pub told_whole : (d : Data) (s : State) → HasBorn d s → IsReportOf d (mirror_text s)
unfolding mirror_text
told_whole d s h = record {
  names = s.refs.names;
  born = h.names;
  ids = finmap.keys s.objects;
  reached = record {
    each = λ id. (λ here. (h.ids id).0 (key_stored s.objects id here), λ there. stored_key s.objects id ((h.ids id).1 there));
    ascending = keys-rise s.objects;
  };
  text_is = refl;
}
