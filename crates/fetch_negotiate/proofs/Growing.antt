-- What was read stays as more is read.
use Rattle.std.proofs.Common.{◌≡◌, Bool, true, false, cond, List, [], ◌∷◌, Option, Some, None, true≢false, refl, sym, ap, subst, ◌∙◌}
use Rattle.std.specs.Prelude.{is_some}
use Rattle.std.specs.BTreeMap.{is_at}
use Rattle.std.specs.FinMap as map
use Rattle.std.specs.FinMap.{find, get-from_entries}
use Rattle.std.specs.FinSet as set
use Rattle.std.specs.Map.{lookup}
use Rattle.std.specs.Ordering.{is_eq}
use Rattle.std.specs.Option.{option_and_then, option_map_or}
use Rattle.fetch_base.specs.declared.id.ObjectId.{ObjectId}
use Rattle.fetch_store.specs.Graph.{Graph}
use Rattle.fetch_base.specs.Id.{id_cmp}
use Rattle.fetch_base.proofs.Ids.{id_cmp_total}
use Rattle.fetch_negotiate.specs.declared.commits.Commit.{Commit}
use Rattle.fetch_negotiate.specs.Commits.{has}
use Rattle.fetch_negotiate.specs.Reading.{Read, Table, Grows, IsTold, commit_at, links_at, read_in}
use Rattle.fetch_negotiate.specs.Kept.{read_by}
use Rattle.fetch_negotiate.specs.Sharing.{IsDone, IsReached}

some_of : {A : Type 0} (o : Option A) → is_some o ≡ true → (v : A) × (o ≡ Some v)
some_of None h = absurd (true≢false (sym h))
some_of (Some v) h = (v, refl)

pub grown_at : (k l : Read) → Grows k l → (q : ObjectId) → is_some (k q) ≡ true → l q ≡ k q
grown_at k l grows q h = let found = some_of (k q) h in grows.stays q found.0 found.1 ∙ sym found.1

joined_some : (o : Option (Option Commit)) → is_some (option_and_then (λ c. c) o) ≡ true → is_some o ≡ true
joined_some None h = h
joined_some (Some c) h = refl

-- a commit that was found was read
pub read_of : (k : Read) (q : ObjectId) → is_some (commit_at k q) ≡ true → is_some (k q) ≡ true
read_of k q h = joined_some (k q) h

pub commit_grown : (k l : Read) → Grows k l → (q : ObjectId) → is_some (k q) ≡ true → commit_at l q ≡ commit_at k q
commit_grown k l grows q h = ap (option_and_then (λ (c : Option Commit). c)) (grown_at k l grows q h)

of_commit : (b : Bool) (c : Option Commit) (y : ObjectId) → has (cond b [] (option_map_or (λ (c : Commit). c.parents) c [])) y ≡ true → is_some c ≡ true
of_commit true c y h = absurd (true≢false (sym h))
of_commit false None y h = absurd (true≢false (sym h))
of_commit false (Some c) y h = refl

-- only a commit that was found has parents
pub commit_from_link : (k : Read) (border : set.FinSet id_cmp) (x y : ObjectId) → has (links_at k border x) y ≡ true → is_some (commit_at k x) ≡ true
commit_from_link k border x y h = of_commit (set.contains border x) (commit_at k x) y h

pub links_grown : (k l : Read) → Grows k l → (border : set.FinSet id_cmp) (x : ObjectId) → is_some (commit_at k x) ≡ true → links_at l border x ≡ links_at k border x
links_grown k l grows border x h = ap (λ (c : Option Commit). cond (set.contains border x) [] (option_map_or (λ (c : Commit). c.parents) c [])) (commit_grown k l grows x (read_of k x h))

pub reached_grown : (k l : Read) → Grows k l → (border : set.FinSet id_cmp) (acknowledged : List ObjectId) (q : ObjectId) → IsReached k border acknowledged q → IsReached l border acknowledged q
reached_grown k l grows border acknowledged q r =
    record {
      holds = λ P start step. r.holds P start (λ x y px link stored.
          let found = commit_from_link k border x y link in
          step x y px (ap (λ (ls : List ObjectId). has ls y) (links_grown k l grows border x found) ∙ link)
          (ap (λ (c : Option Commit). is_some c) (commit_grown k l grows y (read_of k y stored)) ∙ stored));
    }

pub done_grown : (k l : Read) → Grows k l → (commits : List ObjectId) (q : ObjectId) → IsDone k commits q → IsDone l commits q
done_grown k l grows commits q d =
    record {
      read = ap (λ (o : Option (Option Commit)). is_some o) (grown_at k l grows q d.read) ∙ d.read;
      marked = λ h. d.marked (sym (ap (λ (c : Option Commit). is_some c) (commit_grown k l grows q d.read)) ∙ h);
    }

pub commit_stays : (k l : Read) → Grows k l → (q : ObjectId) → is_some (commit_at k q) ≡ true → is_some (commit_at l q) ≡ true
commit_stays k l grows q h = ap (λ (c : Option Commit). is_some c) (commit_grown k l grows q (read_of k q h)) ∙ h

pub grows_then : (k l m : Read) → Grows k l → Grows l m → Grows k m
grows_then k l m a b = record { stays = λ id found is. b.stays id found (a.stays id found is) }

pub grows_none : (k : Read) → Grows k k
grows_none k = record { stays = λ id found is. is }

-- ---- what was read, as a finite map
find-lookup : (q : ObjectId) (es : List (ObjectId × Option Commit)) → lookup (is_at (id_cmp q)) es ≡ find id_cmp q es
find-lookup q [] = refl
find-lookup q (e ∷ es) = ap (λ o. cond (is_eq (id_cmp q e.0)) (Some e.1) o) (find-lookup q es)

pub known_is : (t : Table) → read_by (map.from_entries t.entries) ≡ read_in t
known_is t = λ i q. (get-from_entries id_cmp_total t.entries q ∙ sym (find-lookup q t.entries)) i

-- what was read is told, either way
pub told_by : (t : Table) (g : Graph) → IsTold (read_in t) g → IsTold (read_by (map.from_entries t.entries)) g
told_by t g told = subst (λ (k : Read). IsTold k g) (sym (known_is t)) told

pub told_in : (t : Table) (g : Graph) → IsTold (read_by (map.from_entries t.entries)) g → IsTold (read_in t) g
told_in t g told = subst (λ (k : Read). IsTold k g) (known_is t) told
