-- `HEAD` takes nothing, or takes what it is aimed at and then isn't saved.
use Rattle.std.proofs.Common.{◌≡◌, ℕ, Bool, true, false, ◌&&◌, List, Option, Result, Ok, Err, inl, inr, refl, sym, ap, subst, ◌∙◌}
use Rattle.std.specs.Prelude.{is_some, IfErr, IfSome, OnErr}
use Rattle.fetch_files.specs.FileCalls.{IsRefused}
use Rattle.fetch_files.specs.Paths.{parts_of}
use Rattle.std.specs.Bool.{OnFalse}
use Rattle.fetch_files.specs.Trees.{Tree, written}
use Rattle.fetch_config.specs.Contents.{Contents}
use Rattle.fetch_config.specs.Print.{text_of}
use Rattle.fetch_remote.specs.Paths.{config_path}
use Rattle.fetch_specs.specs.Specs.{Spec}
use Rattle.fetch_map.specs.declared.mapping.RefMap.{RefMap}
use Rattle.fetch_remote.specs.Repositories.{state_of, setup_of}
use Rattle.fetch_remote.specs.RepositoryValues.{RepositoryValue, Setup, State}
use Rattle.fetch_init.specs.HeadTargets.{is_memory, takes_memory}
use Rattle.fetch_init.specs.HeadUpdates.{FollowsIf, IsHeadUpdated, IsHeadRefusal, LacksHeadTarget, IsToldAs, IsUnsaved, IsWritten, head_target_of, followed, moved, takes_memory_to_tell, told_as}
use Rattle.fetch_init.specs.declared.head_target.HeadTarget.{HeadTarget}
use Rattle.fetch_init.specs.declared.head_target.HeadError.{HeadError}
use Rattle.fetch_init.specs.declared.head_target.HeadError.TheVariants as head_errors
use Rattle.fetch_init.specs.declared.named_ref.RefNameError.TheVariants as ref_name_errors
use Rattle.fetch_init.specs.declared.clone.fetch.Error.{Error}
use Rattle.fetch_init.specs.declared.clone.fetch.Error.TheVariants as errors

-- Out of memory is told as such.
pub memory-told : (ref_name : Option (List ℕ)) (revision : Option Spec) (cause : HeadError) → is_memory cause ≡ true → told_as ref_name revision cause ≡ errors.NoMemory
memory-told ref_name revision (head_errors.Name ref_name_errors.Missing) m = absurd cc
memory-told ref_name revision (head_errors.Name (ref_name_errors.Ambiguous candidates)) m = absurd cc
memory-told ref_name revision (head_errors.Name ref_name_errors.NoMemory) m = refl
memory-told ref_name revision (head_errors.InvalidHead name) m = absurd cc
memory-told ref_name revision head_errors.Revision m = absurd cc
memory-told ref_name revision (head_errors.Find id) m = absurd cc
memory-told ref_name revision (head_errors.Peel id) m = absurd cc
memory-told ref_name revision head_errors.NoMemory m = refl

pub forgotten : (ref_name : Option (List ℕ)) (revision : Option Spec) (cause : HeadError) (e : Error) → told_as ref_name revision cause ≡ errors.NoMemory → IsToldAs ref_name revision cause e → e ≡ errors.NoMemory
forgotten ref_name revision cause errors.Consumed m told = told ∙ m
forgotten ref_name revision cause (errors.ParseConfig x) m told = told ∙ m
forgotten ref_name revision cause (errors.RemoteName x) m told = told ∙ m
forgotten ref_name revision cause (errors.Connect x) m told = told ∙ m
forgotten ref_name revision cause (errors.RemoteConnection x) m told = told ∙ m
forgotten ref_name revision cause (errors.RefMap x) m told = told ∙ m
forgotten ref_name revision cause (errors.RefNameMissing x) m told = told ∙ m
forgotten ref_name revision cause (errors.RefNameAmbiguous x y) m told = told ∙ m
forgotten ref_name revision cause (errors.InvalidHeadRef x) m told = told ∙ m
forgotten ref_name revision cause (errors.ReferenceName x) m told = told ∙ m
forgotten ref_name revision cause (errors.RemoteConfiguration x) m told = told ∙ m
forgotten ref_name revision cause (errors.SaveConfig x) m told = told ∙ m
forgotten ref_name revision cause (errors.LoadConfig x) m told = told ∙ m
forgotten ref_name revision cause errors.SaveConfigIo m told = absurd told
forgotten ref_name revision cause (errors.PrepareFetch x) m told = told ∙ m
forgotten ref_name revision cause (errors.RevisionMissing x) m told = told ∙ m
forgotten ref_name revision cause (errors.ReopenWithObjectHash x) m told = told ∙ m
forgotten ref_name revision cause (errors.Fetch x) m told = told ∙ m
forgotten ref_name revision cause (errors.FindRevision x) m told = told ∙ m
forgotten ref_name revision cause (errors.PeelRevision x) m told = told ∙ m
forgotten ref_name revision cause errors.NoMemory m told = refl

-- what takes memory to be told
told-takes : (cause : HeadError) → takes_memory_to_tell cause ≡ true → takes_memory (Err cause) ≡ true
told-takes (head_errors.Name e) takes = refl
told-takes (head_errors.InvalidHead name) takes = refl
told-takes head_errors.Revision takes = refl
told-takes (head_errors.Find id) takes = takes
told-takes (head_errors.Peel id) takes = takes
told-takes head_errors.NoMemory takes = refl

-- a refusal that is told as it is
told-head_target : (s : State) (map : RefMap) (ref_name : Option (List ℕ)) (revision : Option Spec) (cause : HeadError) (e : Error) → head_target_of s map ref_name revision ≡ Err cause → IsToldAs ref_name revision cause e → LacksHeadTarget s map ref_name revision e
told-head_target s map ref_name revision cause errors.Consumed is told = record { cause = cause; refused = is; as_told = told }
told-head_target s map ref_name revision cause (errors.ParseConfig x) is told = record { cause = cause; refused = is; as_told = told }
told-head_target s map ref_name revision cause (errors.RemoteName x) is told = record { cause = cause; refused = is; as_told = told }
told-head_target s map ref_name revision cause (errors.Connect x) is told = record { cause = cause; refused = is; as_told = told }
told-head_target s map ref_name revision cause (errors.RemoteConnection x) is told = record { cause = cause; refused = is; as_told = told }
told-head_target s map ref_name revision cause (errors.RefMap x) is told = record { cause = cause; refused = is; as_told = told }
told-head_target s map ref_name revision cause (errors.RefNameMissing x) is told = record { cause = cause; refused = is; as_told = told }
told-head_target s map ref_name revision cause (errors.RefNameAmbiguous x y) is told = record { cause = cause; refused = is; as_told = told }
told-head_target s map ref_name revision cause (errors.InvalidHeadRef x) is told = record { cause = cause; refused = is; as_told = told }
told-head_target s map ref_name revision cause (errors.ReferenceName x) is told = record { cause = cause; refused = is; as_told = told }
told-head_target s map ref_name revision cause (errors.RemoteConfiguration x) is told = record { cause = cause; refused = is; as_told = told }
told-head_target s map ref_name revision cause (errors.SaveConfig x) is told = record { cause = cause; refused = is; as_told = told }
told-head_target s map ref_name revision cause (errors.LoadConfig x) is told = record { cause = cause; refused = is; as_told = told }
told-head_target s map ref_name revision cause errors.SaveConfigIo is told = absurd told
told-head_target s map ref_name revision cause (errors.PrepareFetch x) is told = record { cause = cause; refused = is; as_told = told }
told-head_target s map ref_name revision cause (errors.RevisionMissing x) is told = record { cause = cause; refused = is; as_told = told }
told-head_target s map ref_name revision cause (errors.ReopenWithObjectHash x) is told = record { cause = cause; refused = is; as_told = told }
told-head_target s map ref_name revision cause (errors.Fetch x) is told = record { cause = cause; refused = is; as_told = told }
told-head_target s map ref_name revision cause (errors.FindRevision x) is told = record { cause = cause; refused = is; as_told = told }
told-head_target s map ref_name revision cause (errors.PeelRevision x) is told = record { cause = cause; refused = is; as_told = told }
told-head_target s map ref_name revision cause errors.NoMemory is told = ap takes_memory is ∙ told-takes cause told

no-head_target-by : (s : State) (map : RefMap) (ref_name : Option (List ℕ)) (revision : Option Spec) (cause : HeadError) (e : Error) (t m : Bool) → takes_memory (head_target_of s map ref_name revision) ≡ t → is_memory cause ≡ m
    → OnFalse (t && m) (head_target_of s map ref_name revision ≡ Err cause) → IsToldAs ref_name revision cause e
    → LacksHeadTarget s map ref_name revision e
no-head_target-by s map ref_name revision cause e true true takes memory is told = subst (LacksHeadTarget s map ref_name revision) (sym (forgotten ref_name revision cause e (memory-told ref_name revision cause memory) told)) takes
no-head_target-by s map ref_name revision cause e true false takes memory is told = told-head_target s map ref_name revision cause e is told
no-head_target-by s map ref_name revision cause e false m takes memory is told = told-head_target s map ref_name revision cause e is told

pub no-head_target : (s : State) (map : RefMap) (ref_name : Option (List ℕ)) (revision : Option Spec) (cause : HeadError) (e : Error) → OnFalse (takes_memory (head_target_of s map ref_name revision) && is_memory cause) (head_target_of s map ref_name revision ≡ Err cause)
    → IsToldAs ref_name revision cause e → LacksHeadTarget s map ref_name revision e
no-head_target s map ref_name revision cause e is told =
    no-head_target-by s map ref_name revision cause e (takes_memory (head_target_of s map ref_name revision)) (is_memory cause) refl refl is told

-- Nothing has changed.
pub not-find_head_target : (may_fail : Bool) (told : Option Tree) (repo : RepositoryValue) (map : RefMap) (message remote : List ℕ) (ref_name : Option (List ℕ)) (revision : Option Spec) (e : Error) → LacksHeadTarget (state_of repo) map ref_name revision e
    → IsHeadRefusal may_fail told told repo repo map message remote ref_name revision e
not-find_head_target may_fail told repo map message remote ref_name revision errors.Consumed why = record { why = why; state = refl; setup = refl; tree = refl }
not-find_head_target may_fail told repo map message remote ref_name revision (errors.ParseConfig x) why = record { why = why; state = refl; setup = refl; tree = refl }
not-find_head_target may_fail told repo map message remote ref_name revision (errors.RemoteName x) why = record { why = why; state = refl; setup = refl; tree = refl }
not-find_head_target may_fail told repo map message remote ref_name revision (errors.Connect x) why = record { why = why; state = refl; setup = refl; tree = refl }
not-find_head_target may_fail told repo map message remote ref_name revision (errors.RemoteConnection x) why = record { why = why; state = refl; setup = refl; tree = refl }
not-find_head_target may_fail told repo map message remote ref_name revision (errors.RefMap x) why = record { why = why; state = refl; setup = refl; tree = refl }
not-find_head_target may_fail told repo map message remote ref_name revision (errors.RefNameMissing x) why = record { why = why; state = refl; setup = refl; tree = refl }
not-find_head_target may_fail told repo map message remote ref_name revision (errors.RefNameAmbiguous x y) why = record { why = why; state = refl; setup = refl; tree = refl }
not-find_head_target may_fail told repo map message remote ref_name revision (errors.InvalidHeadRef x) why = record { why = why; state = refl; setup = refl; tree = refl }
not-find_head_target may_fail told repo map message remote ref_name revision (errors.ReferenceName x) why = record { why = why; state = refl; setup = refl; tree = refl }
not-find_head_target may_fail told repo map message remote ref_name revision (errors.RemoteConfiguration x) why = record { why = why; state = refl; setup = refl; tree = refl }
not-find_head_target may_fail told repo map message remote ref_name revision (errors.SaveConfig x) why = record { why = why; state = refl; setup = refl; tree = refl }
not-find_head_target may_fail told repo map message remote ref_name revision (errors.LoadConfig x) why = record { why = why; state = refl; setup = refl; tree = refl }
not-find_head_target may_fail told repo map message remote ref_name revision errors.SaveConfigIo why = absurd why
not-find_head_target may_fail told repo map message remote ref_name revision (errors.PrepareFetch x) why = record { why = why; state = refl; setup = refl; tree = refl }
not-find_head_target may_fail told repo map message remote ref_name revision (errors.RevisionMissing x) why = record { why = why; state = refl; setup = refl; tree = refl }
not-find_head_target may_fail told repo map message remote ref_name revision (errors.ReopenWithObjectHash x) why = record { why = why; state = refl; setup = refl; tree = refl }
not-find_head_target may_fail told repo map message remote ref_name revision (errors.Fetch x) why = record { why = why; state = refl; setup = refl; tree = refl }
not-find_head_target may_fail told repo map message remote ref_name revision (errors.FindRevision x) why = record { why = why; state = refl; setup = refl; tree = refl }
not-find_head_target may_fail told repo map message remote ref_name revision (errors.PeelRevision x) why = record { why = why; state = refl; setup = refl; tree = refl }
not-find_head_target may_fail told repo map message remote ref_name revision errors.NoMemory why = inl (record { state = refl; setup = refl; tree = refl })

-- Nothing to aim at is no fault of the files.
pub never-written : (s : State) (map : RefMap) (ref_name : Option (List ℕ)) (revision : Option Spec) (e : Error) → LacksHeadTarget s map ref_name revision e → e ≡ errors.SaveConfigIo → ⊥
never-written s map ref_name revision e why is = let p : LacksHeadTarget s map ref_name revision errors.SaveConfigIo = subst (LacksHeadTarget s map ref_name revision) is why in p

module _ (may_fail : Bool) (told now : Option Tree) (before mid after : RepositoryValue) (map : RefMap) (message remote : List ℕ) (ref_name : Option (List ℕ)) (revision : Option Spec) (head_target : HeadTarget) (local : Option Contents)
    (takes : head_target_of (state_of before) map ref_name revision ≡ Ok head_target)
    (state : state_of after ≡ moved (setup_of before) (state_of before) message head_target)
    (setup : setup_of mid ≡ setup_of before)
    (follows : local ≡ followed (setup_of before) remote head_target) where
  pub headed : FollowsIf (setup_of mid) (setup_of after) told now local → IsHeadUpdated told now before after map message remote ref_name revision
  headed f = record { head_target = head_target; takes = takes; state = state; follows = subst (λ (o : Option Contents). FollowsIf (setup_of before) (setup_of after) told now o) follows (subst (λ (s : Setup). FollowsIf s (setup_of after) told now local) setup f) }

  pub unwritten : (e : Error) → now ≡ told → setup_of after ≡ setup_of mid → IsUnsaved may_fail told (setup_of mid).settings.git_dir local e → IsHeadRefusal may_fail told now before after map message remote ref_name revision e
  unwritten errors.Consumed tree same why = absurd why
  unwritten (errors.ParseConfig x) tree same why = absurd why
  unwritten (errors.RemoteName x) tree same why = absurd why
  unwritten (errors.Connect x) tree same why = absurd why
  unwritten (errors.RemoteConnection x) tree same why = absurd why
  unwritten (errors.RefMap x) tree same why = absurd why
  unwritten (errors.RefNameMissing x) tree same why = absurd why
  unwritten (errors.RefNameAmbiguous x y) tree same why = absurd why
  unwritten (errors.InvalidHeadRef x) tree same why = absurd why
  unwritten (errors.ReferenceName x) tree same why = absurd why
  unwritten (errors.RemoteConfiguration x) tree same why = absurd why
  unwritten (errors.SaveConfig x) tree same why = absurd why
  unwritten (errors.LoadConfig x) tree same why = absurd why
  unwritten errors.SaveConfigIo tree same why =
      record {
        head_target = head_target;
        takes = takes;
        state = state;
        setup = same ∙ setup;
        local = why.0;
        follows = sym follows ∙ why.1;
        tree = tree;
        refused = subst (λ (s : Setup). IsRefused may_fail told (λ t. written t (parts_of (config_path s.settings.git_dir)) (text_of why.0.sections))) setup why.2;
      }
  unwritten (errors.PrepareFetch x) tree same why = absurd why
  unwritten (errors.RevisionMissing x) tree same why = absurd why
  unwritten (errors.ReopenWithObjectHash x) tree same why = absurd why
  unwritten (errors.Fetch x) tree same why = absurd why
  unwritten (errors.FindRevision x) tree same why = absurd why
  unwritten (errors.PeelRevision x) tree same why = absurd why
  unwritten errors.NoMemory tree same why = inr (record { head_target = head_target; takes = takes; state = state; setup = same ∙ setup; local = why.0; follows = sym follows ∙ why.1; tree = tree })

  pub not-saved : {X : Type 0} (r : Result X Error) → OnErr r (now ≡ told) → OnErr r (setup_of after ≡ setup_of mid) → IfErr r (IsUnsaved may_fail told (setup_of mid).settings.git_dir local) → IfErr r (IsHeadRefusal may_fail told now before after map message remote ref_name revision)
  not-saved (Ok x) tree same why = tt
  not-saved (Err e) tree same why = unwritten e tree same why

-- The whole file was written.
pub written-anew : (before now : Option Tree) (path bytes git_dir : List ℕ) (local : Contents) → path ≡ config_path git_dir → bytes ≡ text_of local.sections → (is_some now ≡ is_some before) × IfSome before (λ t. written t (parts_of path) bytes ≡ now)
    → IsWritten before git_dir local now
written-anew before now path bytes git_dir local p b w = rw (p, b) at w
