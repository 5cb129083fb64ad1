-- References that are deleted by an edit each, and loops over names.
use Rattle.std.proofs.Common.{◌≡◌, ℕ, ◌+◌, ◌<◌, ◌≤◌, Bool, true, false, cond, List, [], ◌∷◌, ◌++◌, length, get_or, drop, map as each, Option, Some, None, refl, sym, ap, ◌∙◌, append_assoc}
use Rattle.std.specs.Prelude.{not, ◌||◌, filter, if◌then◌else◌, position}
use Rattle.std.specs.BTreeSet.{insert_key}
use Rattle.std.specs.FinMap as finmap
use Rattle.std.specs.FinMap.{FinMap, get-remove, get-retain_keys, same_map}
use Rattle.std.specs.List.{flat_map, position_from}
use Rattle.std.specs.Option.{option_map}
use Rattle.std.specs.Str.{bytes_eq}
use Rattle.std.specs.Ordering.{eq_by_cmp}
use Rattle.std.specs.declared.cmp.Ordering.{Ordering}
use Rattle.std.proofs.lemmas.Iterator.Adapters.{position_from-zero}
use Rattle.std.proofs.lemmas.List.{append-nil, at_drop_all}
use Rattle.fetch_config.specs.Contents.{Contents}
use Rattle.fetch_config.specs.Print.{of_origin, text_of}
use Rattle.fetch_config.specs.declared.section.Section.{Section}
use Rattle.fetch_config.proofs.Flat.{drop_item}
use Rattle.fetch_lookup.specs.Ordered.{ascending, placed, is_among}
use Rattle.fetch_lookup.specs.Removed.{has_branches, without_branches}
use Rattle.fetch_lookup.proofs.Ascending.{ascends}
use Rattle.fetch_refs.specs.Edits.{refs_after}
use Rattle.fetch_refs.specs.Expectations.{fails, refusal_of}
use Rattle.fetch_refs.specs.Logs.{Logging, after, logs_after}
use Rattle.fetch_refs.specs.Names.{Logs, Names, PackedList, RefsValue, name_cmp}
use Rattle.fetch_refs.specs.Packed.{packed_after}
use Rattle.fetch_refs.specs.declared.edit.PackedRefs.TheVariants.{Never}
use Rattle.fetch_refs.specs.declared.log.Signature.{Signature}
use Rattle.fetch_refs.proofs.Names.{name_cmp_total, name_cmp_exact}
use Rattle.fetch_update.specs.Trees.{directories_in, directories_of}
use Rattle.fetch_update.specs.declared.worktrees.Worktree.{Worktree}
use Rattle.fetch_update.proofs.Directories.{as_set}
use Rattle.fetch_remote.specs.Deleting.{without, refs_without, setup_without, short_names}
use Rattle.fetch_remote.specs.DeletionSteps.{deletion, directory_of}
use Rattle.fetch_remote.specs.Repositories.{Setup, in_force, resolved_of}

-- ---- names that are taken out one by one

abbrev removed : {X : Type 0} → FinMap name_cmp X → List (List ℕ) → FinMap name_cmp X
removed m [] = m
removed m (name ∷ names) = removed (finmap.remove m name) names

either : {X : Type 0} (a b : Bool) (o : Option X) → cond b None (cond a None o) ≡ cond (a || b) None o
either true true o = refl
either true false o = refl
either false b o = refl

turned : {X : Type 0} (b : Bool) (o : Option X) → cond (not b) o None ≡ cond b None o
turned true o = refl
turned false o = refl

get-removed : {X : Type 0} (m : FinMap name_cmp X) (names : List (List ℕ)) (q : List ℕ) → finmap.get (removed m names) q ≡ cond (is_among name_cmp names q) None (finmap.get m q)
get-removed m [] q = refl
get-removed m (name ∷ names) q =
    get-removed (finmap.remove m name) names q ∙ ap (cond (is_among name_cmp names q) None) (get-remove name_cmp_total m name q)
    ∙ either (eq_by_cmp name_cmp q name) (is_among name_cmp names q) (finmap.get m q)

pub get-without : {X : Type 0} (m : FinMap name_cmp X) (names : List (List ℕ)) (q : List ℕ) → finmap.get (without names m) q ≡ cond (is_among name_cmp names q) None (finmap.get m q)
get-without m names q =
    get-retain_keys m (λ key. not (is_among name_cmp names key)) q (λ x t. ap (λ (k : List ℕ). not (is_among name_cmp names k)) (sym (name_cmp_exact q x t)))
    ∙ turned (is_among name_cmp names q) (finmap.get m q)

removed_all : {X : Type 0} (m : FinMap name_cmp X) (names : List (List ℕ)) → removed m names ≡ without names m
removed_all m names = same_map name_cmp_total name_cmp_exact (removed m names) (without names m) (λ q. get-removed m names q ∙ sym (get-without m names q))

twice_by : {X : Type 0} (b : Bool) (o : Option X) → cond b None (cond b None o) ≡ cond b None o
twice_by true o = refl
twice_by false o = refl

-- taken out again
pub without_twice : {X : Type 0} (m : FinMap name_cmp X) (names : List (List ℕ)) → without names (without names m) ≡ without names m
without_twice m names =
    same_map name_cmp_total name_cmp_exact (without names (without names m)) (without names m)
    (λ q. get-without (without names m) names q ∙ ap (cond (is_among name_cmp names q) None) (get-without m names q) ∙ twice_by (is_among name_cmp names q) (finmap.get m q) ∙ sym (get-without m names q))

-- ---- the edits

names_after : (names : Names) (gone : List (List ℕ)) → refs_after names (each deletion gone) ≡ removed names gone
names_after names [] = refl
names_after names (name ∷ gone) = names_after (finmap.remove names name) gone

logs_gone : (how : Logging) (names : Names) (logs : Logs) (gone : List (List ℕ)) → logs_after how names logs (each deletion gone) ≡ removed logs gone
logs_gone how names logs [] = refl
logs_gone how names logs (name ∷ gone) = logs_gone how (finmap.remove names name) (finmap.remove logs name) gone

packed_gone : (list : PackedList) (gone : List (List ℕ)) → packed_after Never list (each deletion gone) ≡ removed list gone
packed_gone list [] = refl
packed_gone list (name ∷ gone) = packed_gone (finmap.remove list name) gone

pub all_gone : (committer : Signature) (logging : Bool) (refs : RefsValue) (gone : List (List ℕ)) → after committer logging Never refs (each deletion gone) ≡ refs_without gone refs
all_gone committer logging refs gone =
    let how : Logging = record { hash = refs.hash; committer = committer; enabled = logging } in
    let a : refs_after refs.names (each deletion gone) ≡ without gone refs.names = names_after refs.names gone ∙ removed_all refs.names gone in
    let b : logs_after how refs.names refs.logs (each deletion gone) ≡ without gone refs.logs = logs_gone how refs.names refs.logs gone ∙ removed_all refs.logs gone in
    let c : packed_after Never refs.packed (each deletion gone) ≡ without gone refs.packed = packed_gone refs.packed gone ∙ removed_all refs.packed gone in
    rw (a, b, c) refl

none_passes : (names : Names) (gone : List (List ℕ)) (i : ℕ) → position_from (fails names) i (each deletion gone) ≡ None
unfolding fails
none_passes names [] i = refl
none_passes names (name ∷ gone) i = none_passes names gone (i + 1)

-- a deletion expects nothing
pub never_refused : (names : Names) (gone : List (List ℕ)) → refusal_of names (each deletion gone) ≡ None
never_refused names gone =
    let none : position (fails names) (each deletion gone) ≡ None = position_from-zero (fails names) (each deletion gone) ∙ none_passes names gone 0 in
    rw none refl

-- ---- loops

-- one value more
pub push-step : {A B : Type 0} (f : A → B) (xs : List A) (i : ℕ) (x : A) (out new whole : List B) → i < length xs → x ≡ get_or xs i x → new ≡ out ++ f x ∷ [] → out ++ each f (drop i xs) ≡ whole → new ++ each f (drop (i + 1) xs) ≡ whole
push-step f xs i x out new whole lt is more so_far =
    ap (λ l. l ++ each f (drop (i + 1) xs)) more ∙ append_assoc out (f x ∷ []) (each f (drop (i + 1) xs)) ∙ ap (λ ys. out ++ each f ys) (sym (drop_item xs i x lt is)) ∙ so_far

pub push-end : {A B : Type 0} (f : A → B) (xs : List A) (i : ℕ) (out whole : List B) → length xs ≤ i → out ++ each f (drop i xs) ≡ whole → out ≡ whole
push-end f xs i out whole over so_far = sym (append-nil out) ∙ sym (at_drop_all (λ ys. out ++ each f ys) xs i over) ∙ so_far

-- one value more in its place
pub put-step : {K : Type 0} (cmp : K → K → Ordering) (xs : List K) (i : ℕ) (x : K) (keys new whole : List K) → i < length xs → x ≡ get_or xs i x → new ≡ insert_key cmp keys x → placed cmp keys (drop i xs) ≡ whole → placed cmp new (drop (i + 1) xs) ≡ whole
unfolding placed
put-step cmp xs i x keys new whole lt is put so_far = ap (λ ks. placed cmp ks (drop (i + 1) xs)) put ∙ ap (placed cmp keys) (sym (drop_item xs i x lt is)) ∙ so_far

pub put-end : {K : Type 0} (cmp : K → K → Ordering) (xs : List K) (i : ℕ) (keys whole : List K) → length xs ≤ i → placed cmp keys (drop i xs) ≡ whole → keys ≡ whole
unfolding placed
put-end cmp xs i keys whole over so_far = sym (at_drop_all (placed cmp keys) xs i over) ∙ so_far

-- and one that is made of it
pub made-step : {A K : Type 0} (cmp : K → K → Ordering) (f : A → K) (xs : List A) (i : ℕ) (x : A) (keys new whole : List K) → i < length xs → x ≡ get_or xs i x → new ≡ insert_key cmp keys (f x)
    → placed cmp keys (each f (drop i xs)) ≡ whole → placed cmp new (each f (drop (i + 1) xs)) ≡ whole
unfolding placed
made-step cmp f xs i x keys new whole lt is put so_far =
    ap (λ ks. placed cmp ks (each f (drop (i + 1) xs))) put ∙ ap (λ ys. placed cmp keys (each f ys)) (sym (drop_item xs i x lt is)) ∙ so_far

pub made-end : {A K : Type 0} (cmp : K → K → Ordering) (f : A → K) (xs : List A) (i : ℕ) (keys whole : List K) → length xs ≤ i → placed cmp keys (each f (drop i xs)) ≡ whole → keys ≡ whole
unfolding placed
made-end cmp f xs i keys whole over so_far = sym (at_drop_all (λ ys. placed cmp keys (each f ys)) xs i over) ∙ so_far

-- ---- directories

one_directory : (name : List ℕ) (w : Worktree) (ws : List Worktree) → directory_of name w ++ directories_in ws name ≡ directories_in (w ∷ ws) name
one_directory name w ws = by (bytes_eq w.branch name)
  where
    by : (b : Bool) → (if b then w.directory ∷ [] else []) ++ directories_in ws name ≡ each (λ x. x.directory) (if b then w ∷ filter (λ x. bytes_eq x.branch name) ws else filter (λ x. bytes_eq x.branch name) ws)
    by true = refl
    by false = refl

gathered : (ws : List Worktree) (name : List ℕ) → flat_map (directory_of name) ws ≡ directories_in ws name
gathered [] name = refl
gathered (w ∷ ws) name = ap (λ (ds : List (List ℕ)). directory_of name w ++ ds) (gathered ws name) ∙ one_directory name w ws

pub in_all : (ws : List Worktree) (name : List ℕ) → ascending name_cmp (flat_map (directory_of name) ws) ≡ directories_of ws name
in_all ws name =
    let a = ascends name_cmp_total (directories_in ws name) in
    ap (ascending name_cmp) (gathered ws name) ∙ as_set (ascending name_cmp (directories_in ws name)) (directories_in ws name) a.ascends a.same

-- ---- the configuration

every : (ss : List Section) → of_origin None ss ≡ ss
every [] = refl
every (s ∷ ss) = ap (λ (rest : List Section). s ∷ rest) (every ss)

pub text_kept : (f g : Contents) (text : List ℕ) → f ≡ g → text ≡ text_of (of_origin None f.sections) → text ≡ text_of g.sections
text_kept f g text is told = told ∙ ap text_of (every f.sections) ∙ ap (λ (x : Contents). text_of x.sections) is

pub sections_planned : (names : List (List ℕ)) (file : Contents) (keys : List (List ℕ)) (found : Bool) → keys ≡ short_names names → found ≡ has_branches keys file.sections → found ≡ true → has_branches (short_names names) file.sections ≡ true
sections_planned names file keys found is told there = ap (λ (ks : List (List ℕ)). has_branches ks file.sections) (sym is) ∙ sym told ∙ there

pub text_planned : (names : List (List ℕ)) (file : Contents) (keys : List (List ℕ)) (text : List ℕ) → keys ≡ short_names names → text ≡ text_of (without_branches keys file).sections → text ≡ text_of (without_branches (short_names names) file).sections
text_planned names file keys text is told = told ∙ ap (λ (ks : List (List ℕ)). text_of (without_branches ks file).sections) is

pub planned : (names : List (List ℕ)) (setup : Setup) (keys : List (List ℕ)) (now file config : Contents) → keys ≡ short_names names → now ≡ without_branches keys setup.local → file ≡ now
    → resolved_of setup.base now setup.overrides ≡ Some config → setup_without names setup ≡ Some (in_force setup file config)
planned names setup keys now file config is gone same resolved =
    let local : without_branches (short_names names) setup.local ≡ now = sym (gone ∙ ap (λ (ks : List (List ℕ)). without_branches ks setup.local) is) in
    ap (λ (x : Contents). option_map (in_force setup x) (resolved_of setup.base x setup.overrides)) local ∙ ap (option_map (in_force setup now)) resolved
    ∙ ap (λ (x : Contents). Some (in_force setup x config)) (sym same)
