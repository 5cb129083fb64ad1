-- The keep file of a pack, which is empty. It is made before the pack is taken, and removed once the references have
-- moved, unless it stays.
use Rattle.std.specs.Prelude.{◌≡◌, ◌⊎◌, ◌==◌, ◌&&◌, not, length, if◌then◌else◌, ℕ, Bool, List, [], Option, Some, None, IfSome, is_some}
use Rattle.std.specs.Option.{option_map, option_and_then}
use Rattle.fetch_base.specs.declared.id.ObjectId.{ObjectId}
use Rattle.fetch_files.specs.Paths.{parts_of}
use Rattle.fetch_files.specs.Trees.{Tree, written, without_file}
use Rattle.fetch_update.specs.declared.update.Outcome.{Outcome as Updates}
use Rattle.fetch_conversation.specs.declared.fetch.Error.{Error}
use Rattle.fetch_conversation.specs.declared.fetch.Error.TheVariants as errors
use Rattle.fetch_remote.specs.Paths.{keep_path}
use Rattle.fetch_remote.specs.declared.fetching.outcome.Status.{Status}
use Rattle.fetch_remote.specs.declared.fetching.outcome.Status.TheVariants as statuses

-- It stays where no edit stands and the pack has objects.
abbrev pub stays : Updates → ℕ → Bool
stays updates count = length updates.edits == 0 && not (count == 0)

-- the one that stays of a pack's, by its count and its digest
abbrev pub kept : List ℕ → Updates → ℕ × ObjectId → Option (List ℕ)
kept git_dir updates pack = if stays updates pack.0 then Some (keep_path git_dir pack.1) else None

-- the one that is made, where a pack was read
abbrev pub made : List ℕ → Option (ℕ × ObjectId) → Option (List ℕ)
made git_dir pack = option_map (λ p. keep_path git_dir p.1) pack

-- ---- what a fetch tells

-- the keep file that stays
abbrev pub keep_in : Status → Option (List ℕ)
keep_in (statuses.NoPackReceived dry_run negotiate updates) = None
keep_in (statuses.Change negotiate pack updates) = pack.keep_path

-- the keep file that was made
abbrev pub made_in : List ℕ → Status → Option (List ℕ)
made_in git_dir (statuses.NoPackReceived dry_run negotiate updates) = None
made_in git_dir (statuses.Change negotiate pack updates) = Some (keep_path git_dir pack.digest)

-- the one that was made and doesn't stay
abbrev pub removed_in : List ℕ → Status → Option (List ℕ)
removed_in git_dir status = if is_some (keep_in status) then None else made_in git_dir status

-- ---- trees of files

-- with a keep file, where one is made
abbrev pub with_keep : Option (List ℕ) → Tree → Option Tree
with_keep None t = Some t
with_keep (Some path) t = written t (parts_of path) []

-- without a keep file, where one is removed
abbrev pub without_keep : Option (List ℕ) → Tree → Option Tree
without_keep None t = Some t
without_keep (Some path) t = without_file t (parts_of path)

-- with the keep file that was made, and then without it where it doesn't stay
abbrev pub left_tree : List ℕ → Status → Tree → Option Tree
left_tree git_dir status t = option_and_then (without_keep (removed_in git_dir status)) (with_keep (made_in git_dir status) t)

-- Files that told their tree tell what was made of it; others tell none still.
abbrev pub AreFiles : Option Tree → Option Tree → (Tree → Option Tree) → Type 0
AreFiles before now changed = (is_some now ≡ is_some before) × IfSome before (λ t. changed t ≡ now)

-- A keep file that couldn't be made, by a call of the files that was refused, or for want of memory: the files are those
-- found.
pub record IsUnmade (keep : Option (List ℕ)) (files left : Option Tree) (e : Error) : Type 0 where
  pub path : List ℕ
  pub made : keep ≡ Some path
  pub why : (e ≡ errors.KeepFile path) ⊎ (e ≡ errors.NoMemory)
  pub same_files : left ≡ files
