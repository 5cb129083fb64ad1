-- The digests of the names listed so far, in a set.
use Rattle.std.proofs.Common.{◌≡◌, ℕ, Bool, true, false, cond, not, ◌||◌, List, [], ◌∷◌, ◌++◌, refl, sym, ap, subst, ◌∙◌}
use Rattle.std.specs.BTreeSet as tree
use Rattle.std.specs.BTreeSet.{BTreeSet}
use Rattle.std.specs.Cmp.{eq_by_cmp_equiv}
use Rattle.std.specs.List.{list_any}
use Rattle.std.specs.Ordering.{eq_by_cmp}
use Rattle.std.specs.Str.{bytes_eq}
use Rattle.std.specs.declared.cmp.Ordering.{Ordering}
use Rattle.std.proofs.lemmas.List.Folds.{list_any-append}
use Rattle.std.proofs.lemmas.Slice.Eq.{bytes_eq-Decides}
use Rattle.fetch_base.specs.Hashing.{digest}
use Rattle.fetch_base.specs.Id.{id_cmp}
use Rattle.fetch_base.specs.contracts.id.ObjectIdOrd.TheImpl as order
use Rattle.fetch_base.specs.declared.id.Kind.TheVariants.{Sha256}
use Rattle.fetch_base.specs.declared.id.ObjectId.{ObjectId}
use Rattle.fetch_base.proofs.Ids.{id_cmp_total}
use Rattle.fetch_base.proofs.Orders.{cmp_is}
use Rattle.fetch_lines.specs.declared.listings.reference.Ref.{Ref}
use Rattle.fetch_replies.specs.Listings.{HasDigests, is_listed}
use Rattle.fetch_lines.specs.References.{name_in}

abbrev Digests : Type 0
Digests = BTreeSet ObjectId

abbrev has : Digests → ObjectId → Bool
has s d = tree.contains id_cmp s d

abbrev name_digest : List ℕ → ObjectId
name_digest name = digest Sha256 name

abbrev is_name : List ℕ → Ref → Bool
is_name name r = bytes_eq (name_in r) name

-- a set that gains a digest, which it may have had
abbrev Gains : Digests → Digests → ObjectId → Type 0
Gains s t d = (q : ObjectId) → has t q ≡ cond (eq_by_cmp id_cmp d q) true (has s q)

gains : (s t : Digests) (d : ObjectId) → tree.Updates (order.ghosts).cmp s t d true → Gains s t d
gains s t d updates = subst (λ (cmp : ObjectId → ObjectId → Ordering). (q : ObjectId) → tree.contains cmp t q ≡ cond (eq_by_cmp cmp d q) true (tree.contains cmp s q)) cmp_is updates.0

had : (s : Digests) (d : ObjectId) → tree.contains (order.ghosts).cmp s d ≡ has s d
had s d = ap (λ (cmp : ObjectId → ObjectId → Ordering). tree.contains cmp s d) cmp_is

still : (b c : Bool) → c ≡ true → cond b true c ≡ true
still true c e = refl
still false c e = e

stays : (s t : Digests) (d q : ObjectId) → Gains s t d → has s q ≡ true → has t q ≡ true
stays s t d q gains is = gains q ∙ still (eq_by_cmp id_cmp d q) (has s q) is

gained : (s t : Digests) (d : ObjectId) → Gains s t d → has t d ≡ true
gained s t d gains = gains d ∙ ap (λ (b : Bool). cond b true (has s d)) ((eq_by_cmp_equiv id_cmp_total).refl d)

kept : (refs : List Ref) (s t : Digests) (d : ObjectId) → Gains s t d → HasDigests refs s → HasDigests refs t
kept refs s t d gains holds = λ name listed. stays s t d (name_digest name) gains (holds name listed)

one_of : (refs : List Ref) (s t : Digests) (r : Ref) (name : List ℕ) (a b : Bool) → list_any (is_name name) refs ≡ a → is_name name r ≡ b → (a || (b || false)) ≡ true
    → Gains s t (name_digest (name_in r)) → HasDigests refs s → has t (name_digest name) ≡ true
one_of refs s t r name true b among same either gains holds = stays s t (name_digest (name_in r)) (name_digest name) gains (holds name among)
one_of refs s t r name false true among same either gains holds = subst (λ (n : List ℕ). has t (name_digest n) ≡ true) ((bytes_eq-Decides (name_in r) name).0 same) (gained s t (name_digest (name_in r)) gains)
one_of refs s t r name false false among same either gains holds = absurd cc

-- one name more
more : (refs : List Ref) (s t : Digests) (r : Ref) → Gains s t (name_digest (name_in r)) → HasDigests refs s → HasDigests (refs ++ r ∷ []) t
more refs s t r gains holds = λ name listed.
    one_of refs s t r name (list_any (is_name name) refs) (is_name name r) refl refl (sym (list_any-append (is_name name) refs (r ∷ [])) ∙ listed) gains holds

-- a reference that is added where its name was new
pub record Grown (refs : List Ref) (r : Ref) (is_new : Bool) (items : List Ref) (now : BTreeSet ObjectId) : Type 0 where
  pub has : HasDigests items now
  pub new : is_new ≡ not (is_listed refs r)
  pub added : items ≡ cond (is_listed refs r) refs (refs ++ r ∷ [])

or_true : (b : Bool) → (b || true) ≡ true
or_true true = refl
or_true false = refl

pub grown : (refs : List Ref) (before now : BTreeSet ObjectId) (r : Ref) (key : ObjectId) (first is_new : Bool) (items : List Ref) → HasDigests refs before → key ≡ digest Sha256 (name_in r)
    → first ≡ not (tree.contains (order.ghosts).cmp before key) → tree.Updates (order.ghosts).cmp before now key true
    → is_new ≡ (first || not (is_listed refs r)) → items ≡ cond is_new (refs ++ r ∷ []) refs → Grown refs r is_new items now
grown refs before now r key first is_new items holds is is_first updates new items_are = by_test (is_listed refs r) refl
  where
    gains_one : Gains before now (name_digest (name_in r))
    gains_one = subst (λ (d : ObjectId). Gains before now d) is (gains before now key updates)

    by_test : (b : Bool) → is_listed refs r ≡ b → Grown refs r is_new items now
    by_test true on =
        let not_first : first ≡ false = is_first ∙ ap not (had before key ∙ ap (has before) is ∙ holds (name_in r) on) in
        let none : is_new ≡ false = new ∙ ap (λ (b : Bool). b || not (is_listed refs r)) not_first ∙ ap not on in
        let same : items ≡ refs = items_are ∙ ap (λ (b : Bool). cond b (refs ++ r ∷ []) refs) none in
        record {
          has = subst (λ (xs : List Ref). HasDigests xs now) (sym same) (kept refs before now (name_digest (name_in r)) gains_one holds);
          new = none ∙ sym (ap not on);
          added = same ∙ ap (λ (b : Bool). cond b refs (refs ++ r ∷ [])) (sym on);
        }
    by_test false off =
        let one : is_new ≡ true = new ∙ ap (λ (b : Bool). first || not b) off ∙ or_true first in
        let grows : items ≡ refs ++ r ∷ [] = items_are ∙ ap (λ (b : Bool). cond b (refs ++ r ∷ []) refs) one in
        record {
          has = subst (λ (xs : List Ref). HasDigests xs now) (sym grows) (more refs before now r gains_one holds);
          new = one ∙ sym (ap not off);
          added = grows ∙ ap (λ (b : Bool). cond b refs (refs ++ r ∷ [])) (sym off);
        }
