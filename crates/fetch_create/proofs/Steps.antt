-- One step more.
use Rattle.std.proofs.Common.{◌≡◌, ℕ, ◌+◌, ◌<◌, ◌≤◌, Bool, true, false, get_or, subst, sym, List, [], ◌∷◌, ◌++◌, take, length, Option, Some, None, Result, Ok, Err, IfErr, IsErrAnd, IfSome, refl, ap, ◌∙◌, arith}
use Rattle.std.proofs.lemmas.List.{take_more}
use Rattle.std.specs.Option.{option_and_then}
use Rattle.fetch_files.specs.Paths.{parts_of}
use Rattle.fetch_files.specs.Trees.{Tree, with_directories}
use Rattle.fetch_create.specs.declared.create.step.Step.{Step}
use Rattle.fetch_create.specs.declared.create.Error.{Error}
use Rattle.fetch_create.specs.declared.create.Error.TheVariants.{IoOpen, IoWrite, CreateDirectory, DirectoryNotEmpty, DirectoryExists, NoMemory}
use Rattle.fetch_create.specs.declared.create.Kind.{Kind as Layout}
use Rattle.fetch_create.specs.declared.create.Kind.TheVariants as kinds
use Rattle.fetch_create.specs.declared.create.step.Step.TheVariants.{Clear, Vacant, Directory, File}
use Rattle.fetch_create.specs.declared.create.Options.{Options}
use Rattle.fetch_create.specs.Plans.{steps_of, cleared, vacated, contents_of, must_be_empty, path_of, configuration_in}
use Rattle.fetch_create.specs.Creation.{Makes, Reaches, IsOpenRefusal, IsStopped, IsStopAt, HasEntry, listed_in, opened_in, tree_after, tree_after_all}

-- no step
pub none : (before : Option Tree) → Reaches before [] before
none None = record { told = refl; tree = tt }
none (Some t) = record { told = refl; tree = refl }

stays : (o : Option Tree) → option_and_then (λ u. Some u) o ≡ o
stays None = refl
stays (Some t) = refl

all-then : (t : Tree) (steps : List Step) (step : Step) → tree_after_all t (steps ++ step ∷ []) ≡ option_and_then (λ u. tree_after u step) (tree_after_all t steps)
all-then t [] step = stays (tree_after t step)
all-then t (first ∷ steps) step =
    elim (tree_after t first) as (λ o. option_and_then (λ u. tree_after_all u (steps ++ step ∷ [])) o ≡ option_and_then (λ u. tree_after u step) (option_and_then (λ u. tree_after_all u steps) o)) [
      | None ↦ refl
      | Some u ↦ all-then u steps step
    ]

pub one-more : (before stood now : Option Tree) (steps : List Step) (step : Step) → Reaches before steps stood → Makes stood step now → Reaches before (steps ++ step ∷ []) now
one-more None stood now steps step r m = record { told = m.0 ∙ r.told; tree = tt }
one-more (Some t) None now steps step r m = let e = r.told in cc
one-more (Some t) (Some u) now steps step r m =
    record { told = m.0 ∙ r.told; tree = all-then t steps step ∙ ap (option_and_then (λ v. tree_after v step)) r.tree ∙ m.1 }

-- a list that isn't empty
pub has-entry : (told : Option Tree) (path : List ℕ) (names : List (List ℕ)) → IfSome told (λ t. listed_in t path ≡ Some (Some names)) → 1 ≤ length names → IfSome told (λ t. HasEntry t path)
has-entry None path names e some = tt
has-entry (Some t) path [] e some = absurd (omega arith)
has-entry (Some t) path (name ∷ names) e some = (name, names, e)

-- A directory that can't be listed isn't opened.
pub unlisted : (may_fail : Bool) (stood now : Option Tree) (path : List ℕ) (e : Error) → IsOpenRefusal may_fail stood path (λ t. listed_in t path) now e → IsStopAt may_fail stood (Clear path) now e
unlisted may_fail stood now path (IoOpen told) r = (r.0, r.1, λ no. by stood (r.2 no))
  where
    by : (o : Option Tree) → IfSome o (λ t. listed_in t path ≡ None) → IfSome o (λ t. opened_in t path (listed_in t path) ≡ None)
    by None h = tt
    by (Some t) h = ap (opened_in t path) h
unlisted may_fail stood now path (IoWrite told) r = absurd r
unlisted may_fail stood now path (CreateDirectory told) r = absurd r
unlisted may_fail stood now path (DirectoryNotEmpty told) r = absurd r
unlisted may_fail stood now path (DirectoryExists told) r = absurd r
unlisted may_fail stood now path NoMemory r = r

-- An absent directory that can't be made isn't opened.
pub unopened : (may_fail : Bool) (stood now : Option Tree) (path : List ℕ) (e : Error) → IfSome stood (λ t. listed_in t path ≡ Some None) → IsOpenRefusal may_fail stood path (λ t. with_directories t (parts_of path)) now e → IsStopAt may_fail stood (Clear path) now e
unopened may_fail stood now path (IoOpen told) absent r = (r.0, r.1, λ no. by stood absent (r.2 no))
  where
    by : (o : Option Tree) → IfSome o (λ t. listed_in t path ≡ Some None) → IfSome o (λ t. with_directories t (parts_of path) ≡ None) → IfSome o (λ t. opened_in t path (listed_in t path) ≡ None)
    by None a h = tt
    by (Some t) a h = ap (opened_in t path) a ∙ h
unopened may_fail stood now path (IoWrite told) absent r = absurd r
unopened may_fail stood now path (CreateDirectory told) absent r = absurd r
unopened may_fail stood now path (DirectoryNotEmpty told) absent r = absurd r
unopened may_fail stood now path (DirectoryExists told) absent r = absurd r
unopened may_fail stood now path NoMemory absent r = r

-- the same of a result
pub unopened-err : {X : Type 0} (may_fail : Bool) (stood now : Option Tree) (path : List ℕ) (r : Result X Error) → IfSome stood (λ t. listed_in t path ≡ Some None) → IfErr r (IsOpenRefusal may_fail stood path (λ t. with_directories t (parts_of path)) now) → IfErr r (IsStopAt may_fail stood (Clear path) now)
unopened-err may_fail stood now path (Ok x) absent r = tt
unopened-err may_fail stood now path (Err e) absent r = unopened may_fail stood now path e absent r

-- a loop that takes one step more
pub next-step : (before stood now : Option Tree) (steps : List Step) (i : ℕ) (step : Step) → i < length steps → get_or steps i step ≡ step
    → Reaches before (take i steps) stood → Makes stood step now → Reaches before (take (i + 1) steps) now
next-step before stood now steps i step short is r m =
    let more = take_more steps i step short ∙ ap (λ s. take i steps ++ s ∷ []) is in
    subst (λ (l : List Step). Reaches before l now) (sym more) (one-more before stood now (take i steps) step r m)

-- Out of memory stops any step.
stop-memory : (may_fail : Bool) (stood : Option Tree) (step : Step) → IsStopAt may_fail stood step stood NoMemory
stop-memory may_fail stood (Clear path) = refl
stop-memory may_fail stood (Vacant path) = refl
stop-memory may_fail stood (Directory path) = refl
stop-memory may_fail stood (File path bytes) = refl

-- Before the first step nothing is changed.
at-the-first : (may_fail : Bool) (before : Option Tree) (step : Step) (steps : List Step) → IsStopped may_fail before (step ∷ steps) before NoMemory
at-the-first may_fail before step steps = record { count = 0; step = step; next = refl; stood = before; done = none before; why = stop-memory may_fail before step }

before-all : (may_fail : Bool) (before : Option Tree) (must : Bool) (directory git_dir configuration : List ℕ) (kind : Layout)
    → IsStopped may_fail before (cleared must directory ++ vacated kind git_dir ++ contents_of git_dir configuration) before NoMemory
before-all may_fail before true directory git_dir configuration kind = at-the-first may_fail before _ _
before-all may_fail before false directory git_dir configuration kinds.Bare = at-the-first may_fail before _ _
before-all may_fail before false directory git_dir configuration kinds.WithWorktree = at-the-first may_fail before _ _

pub at-once : {X : Type 0} (may_fail : Bool) (before : Option Tree) (directory : List ℕ) (kind : Layout) (options : Options) (r : Result X Error) → IsErrAnd r (λ e. e ≡ NoMemory)
    → IfErr r (IsStopped may_fail before (steps_of directory kind options) before)
unfolding steps_of
at-once may_fail before directory kind options (Ok x) is = tt
at-once may_fail before directory kind options (Err e) is =
    subst (IsStopped may_fail before (steps_of directory kind options) before) (sym is)
    (before-all may_fail before (must_be_empty kind options.destination_must_be_empty) directory (path_of directory kind).git_dir (configuration_in kind options) kind)
