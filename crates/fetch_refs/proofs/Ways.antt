-- Ways through symbolic references and through tags, one step at a time.
use Rattle.std.proofs.Common.{◌≡◌, ℕ, zero, suc, ◌-◌, ◌<◌, Bool, true, false, cond, List, [], ◌∷◌, ◌++◌, map, Option, Some, None, Result, Ok, Err, refl, sym, ap, ◌∙◌, subst, arith}
use Rattle.std.specs.Prelude.{if◌then◌else◌, ◌||◌, is_some, IsTrue}
use Rattle.std.specs.BTreeSet.{BTreeSet, contains, Updates}
use Rattle.std.specs.Cmp.{eq_by_cmp_equiv}
use Rattle.std.specs.FinMap as finmap
use Rattle.std.specs.List.{list_any}
use Rattle.std.specs.Option.{option_map, option_and_then}
use Rattle.std.specs.Ordering.{eq_by_cmp}
use Rattle.std.specs.Result.{IsErrAnd}
use Rattle.std.specs.declared.cmp.Ordering.{Ordering}
use Rattle.std.proofs.lemmas.List.Folds.{list_any-append}
use Rattle.fetch_store.specs.Graph.{Graph, Node}
use Rattle.fetch_base.specs.Id.{id_cmp}
use Rattle.fetch_base.specs.contracts.id.ObjectIdOrd.TheImpl as order
use Rattle.fetch_base.specs.declared.id.ObjectId.{ObjectId}
use Rattle.fetch_base.proofs.Ids.{id_cmp_total}
use Rattle.fetch_base.proofs.Orders.{cmp_is}
use Rattle.fetch_refs.specs.declared.error.RefError.{RefError}
use Rattle.fetch_refs.specs.declared.error.RefError.TheVariants as errors
use Rattle.fetch_refs.specs.declared.target.Target.{Target}
use Rattle.fetch_refs.specs.declared.target.Target.TheVariants.{Symbolic}
use Rattle.fetch_base.specs.Answers.{AnswersUnless}
use Rattle.fetch_refs.specs.Answers.{is_memory}
use Rattle.fetch_refs.specs.Names.{Names}
use Rattle.fetch_refs.specs.Peeled.{is_met, is_met_id, read, open_tag, follow, through, and_then, peeled, has_name}

pub list_any-map : {X Y : Type 0} (p : Y → Bool) (f : X → Y) (xs : List X) → list_any p (map f xs) ≡ list_any (λ x. p (f x)) xs
list_any-map p f [] = refl
list_any-map p f (x ∷ xs) = ap (λ b. p (f x) || b) (list_any-map p f xs)

pub map-append_one : {X Y : Type 0} (f : X → Y) (xs : List X) (x : X) → map f (xs ++ x ∷ []) ≡ map f xs ++ f x ∷ []
map-append_one f [] x = refl
map-append_one f (y ∷ xs) x = ap (λ ys. f y ∷ ys) (map-append_one f xs x)

module _ (names : Names) (met : List (List ℕ)) (name : List ℕ) where
  pub follow-cycle : (left : ℕ) → is_met met name ≡ true → follow names left met name ≡ Err (errors.Cycle name)
  unfolding follow
  follow-cycle zero is = ap (λ b. Err (if b then errors.Cycle name else errors.Depth name)) is
  follow-cycle (suc left) is = ap (λ b. if b then Err (errors.Cycle name) else read name (finmap.get names name) (λ id. Ok id) (λ target. follow names left (met ++ name ∷ []) target)) is

  pub follow-depth : (left : ℕ) → (0 < left → ⊥) → is_met met name ≡ false → follow names left met name ≡ Err (errors.Depth name)
  unfolding follow
  follow-depth zero none is = ap (λ b. Err (if b then errors.Cycle name else errors.Depth name)) is
  follow-depth (suc left) none is = absurd (none (omega arith))

  pub follow-read : (left : ℕ) → 0 < left → is_met met name ≡ false → follow names left met name ≡ read name (finmap.get names name) (λ id. Ok id) (λ target. follow names (left - 1) (met ++ name ∷ []) target)
  unfolding follow
  follow-read zero some is = absurd (omega arith)
  follow-read (suc left) some is =
      let e : suc left - 1 ≡ left = omega arith in
      ap (λ b. if b then Err (errors.Cycle name) else read name (finmap.get names name) (λ id. Ok id) (λ target. follow names left (met ++ name ∷ []) target)) is
      ∙ ap (λ n. read name (finmap.get names name) (λ id. Ok id) (λ target. follow names n (met ++ name ∷ []) target)) (sym e)

  pub follow-some : (left : ℕ) (found : Option Target) → 0 < left → is_met met name ≡ false → finmap.get names name ≡ found
      → follow names left met name ≡ read name found (λ id. Ok id) (λ target. follow names (left - 1) (met ++ name ∷ []) target)
  follow-some left found some is at = follow-read left some is ∙ ap (λ o. read name o (λ id. Ok id) (λ target. follow names (left - 1) (met ++ name ∷ []) target)) at

module _ (graph : Graph) (met : List ObjectId) (id : ObjectId) where
  pub through-cycle : (left : ℕ) → is_met_id met id ≡ true → through graph left met id ≡ Err (errors.TagCycle id)
  unfolding through
  through-cycle zero is = ap (λ b. Err (if b then errors.TagCycle id else errors.MissingObject id)) is
  through-cycle (suc left) is = ap (λ b. if b then Err (errors.TagCycle id) else open_tag id (finmap.get graph id) (λ target. through graph left (met ++ id ∷ []) target)) is

  pub through-end : (left : ℕ) → (0 < left → ⊥) → is_met_id met id ≡ false → through graph left met id ≡ Err (errors.MissingObject id)
  unfolding through
  through-end zero none is = ap (λ b. Err (if b then errors.TagCycle id else errors.MissingObject id)) is
  through-end (suc left) none is = absurd (none (omega arith))

  pub through-open : (left : ℕ) → 0 < left → is_met_id met id ≡ false → through graph left met id ≡ open_tag id (finmap.get graph id) (λ target. through graph (left - 1) (met ++ id ∷ []) target)
  unfolding through
  through-open zero some is = absurd (omega arith)
  through-open (suc left) some is =
      let e : suc left - 1 ≡ left = omega arith in
      ap (λ b. if b then Err (errors.TagCycle id) else open_tag id (finmap.get graph id) (λ target. through graph left (met ++ id ∷ []) target)) is
      ∙ ap (λ n. open_tag id (finmap.get graph id) (λ target. through graph n (met ++ id ∷ []) target)) (sym e)

-- a way goes by which tags were met, and not by how often or in which order
pub through-members : (graph : Graph) (left : ℕ) (met others : List ObjectId) (id : ObjectId) → ((q : ObjectId) → is_met_id met q ≡ is_met_id others q) → through graph left met id ≡ through graph left others id
unfolding through
through-members graph zero met others id same = ap (λ b. Err (if b then errors.TagCycle id else errors.MissingObject id)) (same id)
through-members graph (suc left) met others id same =
    ap (λ b. if b then Err (errors.TagCycle id) else open_tag id (finmap.get graph id) (λ target. through graph left (met ++ id ∷ []) target)) (same id)
    ∙ ap (λ (next : ObjectId → Result ObjectId RefError). if is_met_id others id then Err (errors.TagCycle id) else open_tag id (finmap.get graph id) next)
    (λ i target. through-members graph left (met ++ id ∷ []) (others ++ id ∷ []) target (λ q. one_more q) i)
  where
    one_more : (q : ObjectId) → is_met_id (met ++ id ∷ []) q ≡ is_met_id (others ++ id ∷ []) q
    one_more q = list_any-append (λ m. eq_by_cmp id_cmp m q) met (id ∷ []) ∙ ap (λ b. b || is_met_id (id ∷ []) q) (same q) ∙ sym (list_any-append (λ m. eq_by_cmp id_cmp m q) others (id ∷ []))

-- the order in which a set keeps ids
abbrev pub order_of : ObjectId → ObjectId → Ordering
order_of = (order.ghosts).cmp

turned : (a b : ObjectId) → eq_by_cmp id_cmp a b ≡ eq_by_cmp id_cmp b a
turned = (eq_by_cmp_equiv id_cmp_total).symm

-- the ids that a set has were met
pub contains_is : (met : BTreeSet ObjectId) (id : ObjectId) → contains order_of met id ≡ is_met_id met.keys id
contains_is met id = ap (λ (cmp : ObjectId → ObjectId → Ordering). contains cmp met id) cmp_is ∙ each met.keys
  where
    each : (ids : List ObjectId) → list_any (λ k. eq_by_cmp id_cmp id k) ids ≡ is_met_id ids id
    each [] = refl
    each (k ∷ ids) = ap (λ b. b || list_any (λ m. eq_by_cmp id_cmp id m) ids) (turned id k) ∙ ap (λ b. eq_by_cmp id_cmp k id || b) (each ids)

either : (b c : Bool) → cond b true c ≡ (c || (b || false))
either true true = refl
either true false = refl
either false true = refl
either false false = refl

-- a set with one id more
pub inserted : (met more : BTreeSet ObjectId) (id : ObjectId) → Updates order_of met more id true → (q : ObjectId) → is_met_id more.keys q ≡ is_met_id (met.keys ++ id ∷ []) q
inserted met more id updates q =
    let v = subst (λ (cmp : ObjectId → ObjectId → Ordering). Updates cmp met more id true) cmp_is updates in
    sym (contains_is more q) ∙ ap (λ (cmp : ObjectId → ObjectId → Ordering). contains cmp more q) cmp_is ∙ v.0 q
    ∙ ap (λ b. cond (eq_by_cmp id_cmp id q) true b) (sym (ap (λ (cmp : ObjectId → ObjectId → Ordering). contains cmp met q) cmp_is) ∙ contains_is met q)
    ∙ either (eq_by_cmp id_cmp id q) (is_met_id met.keys q)
    ∙ sym (list_any-append (λ m. eq_by_cmp id_cmp m q) met.keys (id ∷ []))

-- what the calls of `Objects` say of an object, by cases
module _ (id : ObjectId) (next : ObjectId → Result ObjectId RefError) where
  pub open-missing : {K : Type 0} (kind : Node → K) (n : Option Node) → is_some (option_map kind n) ≡ false → open_tag id n next ≡ Err (errors.MissingObject id)
  open-missing kind None is = refl
  open-missing kind (Some n) is = absurd cc

  pub open-plain : {K : Type 0} (kind : Node → K) (n : Option Node) → is_some (option_map kind n) ≡ true → option_and_then (λ (x : Node). x.target) n ≡ None → open_tag id n next ≡ Ok id
  open-plain kind None is target = absurd cc
  open-plain kind (Some n) is target = plain n.target target
    where
      plain : (t : Option ObjectId) → t ≡ None → Rattle.std.specs.Option.option_map_or next t (Ok id) ≡ Ok id
      plain None e = refl
      plain (Some x) e = absurd cc

  pub open-tag : (n : Option Node) (t : ObjectId) → option_and_then (λ (x : Node). x.target) n ≡ Some t → open_tag id n next ≡ next t
  open-tag None t is = absurd cc
  open-tag (Some n) t is = ap (λ (o : Option ObjectId). Rattle.std.specs.Option.option_map_or next o (Ok id)) is

-- the first of the names
pub follow-first : (names : Names) (name next : List ℕ) → finmap.get names name ≡ Some (Symbolic next) → follow names 5 [] name ≡ follow names 4 (name ∷ []) next
follow-first names name next is = follow-some names [] name 5 (Some (Symbolic next)) (omega arith) refl is

-- what a symbolic reference is peeled to, by the next name
pub peeled-symbolic : (names given : Names) (graph : Graph) (name bytes next : List ℕ) → names ≡ given → bytes ≡ name → finmap.get names name ≡ Some (Symbolic next)
    → peeled given graph name ≡ and_then (follow names 4 (bytes ∷ []) next) (through graph (finmap.len graph) [])
unfolding peeled
peeled-symbolic names given graph name bytes next same also is =
    sym (ap (λ (ns : Names). read name (finmap.get ns name) (λ id. Ok id) (λ _. and_then (follow ns 5 [] name) (through graph (finmap.len graph) []))) same)
    ∙ ap (λ o. read name o (λ id. Ok id) (λ _. and_then (follow names 5 [] name) (through graph (finmap.len graph) []))) is
    ∙ ap (λ r. and_then r (through graph (finmap.len graph) [])) (follow-first names name next is)
    ∙ ap (λ (n : List ℕ). and_then (follow names 4 (n ∷ []) next) (through graph (finmap.len graph) [])) (sym also)

-- a refusal of the first of two ways
pub answers-first : (expected first : Result ObjectId RefError) (next : ObjectId → Result ObjectId RefError) (e : RefError) → expected ≡ and_then first next → AnswersUnless is_memory first (Err e) → AnswersUnless {A = ObjectId} is_memory expected (Err e)
answers-first expected first next (errors.Expectation index found) same h = same ∙ ap (λ r. and_then r next) h
answers-first expected first next (errors.Cycle name) same h = same ∙ ap (λ r. and_then r next) h
answers-first expected first next (errors.Depth name) same h = same ∙ ap (λ r. and_then r next) h
answers-first expected first next (errors.Unborn name) same h = same ∙ ap (λ r. and_then r next) h
answers-first expected first next (errors.MissingObject id) same h = same ∙ ap (λ r. and_then r next) h
answers-first expected first next (errors.TagCycle id) same h = same ∙ ap (λ r. and_then r next) h
answers-first expected first next errors.NoMemory same h = tt

-- a refusal with a name, which is copied
pub is_named : (a b : Result ObjectId RefError) → b ≡ a → IsTrue (has_name a) → IsTrue (has_name b)
is_named a b same h = subst (λ (e : Result ObjectId RefError). IsTrue (has_name e)) (sym same) h

-- it goes past the next step
pub name_stays : (r : Result ObjectId RefError) (next : ObjectId → Result ObjectId RefError) → IsTrue (has_name r) → IsTrue (has_name (and_then r next))
name_stays (Ok id) next h = absurd cc
name_stays (Err e) next h = h

-- a name at which nothing stands
pub peeled-none : (names : Names) (graph : Graph) (name : List ℕ) → finmap.get names name ≡ None → peeled names graph name ≡ Err (errors.Unborn name)
unfolding peeled
peeled-none names graph name is = ap (λ (o : Option Target). read name o (λ id. Ok id) (λ _. and_then (follow names 5 [] name) (through graph (finmap.len graph) []))) is

abbrev same_answers : Result ObjectId RefError → Result ObjectId RefError → Type 0
same_answers a b = a ≡ b

-- what a `?` hands on
pub handed_memory : (found : Result ObjectId RefError) (e : RefError) → IsErrAnd found (λ x. x ≡ e) → found ≡ Err errors.NoMemory → e ≡ errors.NoMemory
handed_memory (Ok x) e is none = absurd is
handed_memory (Err x) e is none = sym is ∙ inner x none
  where
    inner : (y : RefError) → same_answers (Err y) (Err errors.NoMemory) → y ≡ errors.NoMemory
    inner y none = cc

-- what is answered is what is expected
pub answered : (found expected : Result ObjectId RefError) → expected ≡ found → AnswersUnless is_memory expected found
answered (Ok id) expected is = is
answered (Err (errors.Expectation index value)) expected is = is
answered (Err (errors.Cycle name)) expected is = is
answered (Err (errors.Depth name)) expected is = is
answered (Err (errors.Unborn name)) expected is = is
answered (Err (errors.MissingObject id)) expected is = is
answered (Err (errors.TagCycle id)) expected is = is
answered (Err errors.NoMemory) expected is = tt

-- an answer that is the same
pub same_answer : (a b : Result ObjectId RefError) (found : Result ObjectId RefError) → b ≡ a → AnswersUnless is_memory a found → AnswersUnless is_memory b found
same_answer a b found same h = subst (λ (e : Result ObjectId RefError). AnswersUnless is_memory e found) (sym same) h
