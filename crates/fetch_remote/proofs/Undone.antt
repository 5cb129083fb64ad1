-- What a deletion leaves that couldn't clean up after itself.
use Rattle.std.proofs.Common.{◌≡◌, ℕ, true, List, Option, sym, ap, subst, ◌∙◌, inl, inr}
use Rattle.std.specs.Prelude.{◌⊎◌}
use Rattle.fetch_config.specs.Contents.{Contents}
use Rattle.fetch_config.specs.Print.{text_of}
use Rattle.fetch_lookup.specs.Removed.{has_branches, without_branches}
use Rattle.fetch_files.specs.Paths.{parts_of}
use Rattle.fetch_files.specs.Trees.{Tree, written}
use Rattle.fetch_remote.specs.Deleting.{IsBeside, HasSections, Leaves, file_without, lock_path, short_names, state_without}
use Rattle.fetch_remote.specs.DeletionSteps.{IsRead, LeavesTree}
use Rattle.fetch_remote.specs.Keeping.{AreFiles}
use Rattle.fetch_remote.specs.Paths.{config_path}
use Rattle.fetch_remote.specs.Reloads.{Reads}
use Rattle.fetch_remote.specs.Repositories.{State}
use Rattle.fetch_remote.specs.declared.delete.CleanupError.TheVariants as cleaning
use Rattle.fetch_remote.specs.declared.delete.Error.{Error}
use Rattle.fetch_remote.specs.declared.delete.Error.TheVariants as errors

-- the file that was read has sections of the branches
sections_read : (told : Option Tree) (git_dir : List ℕ) (names : List (List ℕ)) (path : List ℕ) (file : Contents) → path ≡ config_path git_dir → IsRead told path file → has_branches (short_names names) file.sections ≡ true → HasSections told git_dir names
sections_read told git_dir names path file at r found = record {
  text = r.text;
  read = subst (λ (l : List ℕ). Reads told l r.text) at r.read;
  grammar = r.grammar;
  sections = sym (ap (λ (f : Contents). has_branches (short_names names) f.sections) r.contents) ∙ found;
}

module _ (told now : Option Tree) (git_dir : List ℕ) (names : List (List ℕ)) (before after : State) (sections : HasSections told git_dir names) (gone : after ≡ state_without names before) where
  beside : (mid : Option Tree) (lock text : List ℕ) → mid ≡ told → lock ≡ lock_path git_dir → text ≡ text_of (file_without names sections.text).sections → AreFiles mid now (λ t. written t (parts_of lock) text) → IsBeside told now git_dir names
  beside mid lock text same at says h = record {
    text = sections.text;
    read = sections.read;
    tree = subst (λ (x : Option Tree). AreFiles x now (λ t. written t (parts_of (lock_path git_dir)) (text_of (file_without names sections.text).sections))) same
        (subst (λ (l : List ℕ). AreFiles mid now (λ t. written t (parts_of l) (text_of (file_without names sections.text).sections))) at
        (subst (λ (x : List ℕ). AreFiles mid now (λ t. written t (parts_of lock) x)) says h));
  }

  -- what is left where the new text wasn't put into its place
  pub left_behind : (mid : Option Tree) (lock text : List ℕ) (e : Error) → mid ≡ told → lock ≡ lock_path git_dir → text ≡ text_of (file_without names sections.text).sections → LeavesTree mid now lock text e → Leaves told now git_dir names before after e
  left_behind mid lock text (errors.Cleanup references cleaning.Write) same at says h = (gone, h ∙ same)
  left_behind mid lock text (errors.Cleanup references cleaning.Commit) same at says h = (gone, beside mid lock text same at says h)
  left_behind mid lock text errors.NoMemory same at says h = inr (record { gone = gone; sections = sections; files = by h })
    where
      by : (now ≡ mid) ⊎ AreFiles mid now (λ t. written t (parts_of lock) text) → (now ≡ told) ⊎ IsBeside told now git_dir names
      by (inl kept) = inl (kept ∙ same)
      by (inr made) = inr (beside mid lock text same at says made)
  left_behind mid lock text (errors.NotLocal name) same at says h = absurd h
  left_behind mid lock text errors.WorktreeListing same at says h = absurd h
  left_behind mid lock text errors.OpenWorktreeRepo same at says h = absurd h
  left_behind mid lock text errors.FollowSymref same at says h = absurd h
  left_behind mid lock text (errors.CheckedOut name directories) same at says h = absurd h
  left_behind mid lock text (errors.ConfigRead cause) same at says h = absurd h

-- the same, by the file that was read
pub left_unclean : (told mid now : Option Tree) (git_dir : List ℕ) (names : List (List ℕ)) (before after : State) (path : List ℕ) (file : Contents) (lock text : List ℕ) (e : Error) → path ≡ config_path git_dir → IsRead told path file
    → has_branches (short_names names) file.sections ≡ true → after ≡ state_without names before → mid ≡ told → lock ≡ lock_path git_dir → text ≡ text_of (without_branches (short_names names) file).sections → LeavesTree mid now lock text e
    → Leaves told now git_dir names before after e
unfolding sections_read
left_unclean told mid now git_dir names before after path file lock text e at r found gone same lies says h =
    left_behind told now git_dir names before after (sections_read told git_dir names path file at r found) gone mid lock text e same lies
    (says ∙ ap (λ (f : Contents). text_of (without_branches (short_names names) f).sections) r.contents) h
