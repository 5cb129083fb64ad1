-- Keep files that are made and removed.
use Rattle.std.proofs.Common.{◌≡◌, ℕ, Bool, true, false, cond, ◌||◌, List, [], ◌∷◌, Option, Some, None, refl, sym, ap, subst, ◌∙◌}
use Rattle.std.specs.Prelude.{is_some, if◌then◌else◌}
use Rattle.std.specs.Option.{option_and_then}
use Rattle.std.specs.FinMap as map
use Rattle.std.specs.FinMap.{get-insert}
use Rattle.std.specs.Ordering.{is_eq}
use Rattle.std.specs.Cmp.{tied_itself}
use Rattle.fetch_base.specs.declared.id.ObjectId.{ObjectId}
use Rattle.fetch_files.specs.FileCalls.{IsRefused}
use Rattle.fetch_files.specs.Paths.{Path, parts_of, parents_of}
use Rattle.fetch_files.specs.Trees.{Tree, node_at, is_file, is_directory, is_blocked, with_each, written, without_file}
use Rattle.fetch_files.specs.declared.node.TreeNode.{TreeNode}
use Rattle.fetch_files.specs.declared.node.TreeNode.TheVariants.{File}
use Rattle.fetch_files.proofs.TreeChanges.{path_cmp_total}
use Rattle.fetch_update.specs.declared.update.Outcome.{Outcome as Updates}
use Rattle.fetch_conversation.specs.declared.conversing.Received.{Received}
use Rattle.fetch_remote.specs.Keeping.{AreFiles, stays, kept, made, keep_in, made_in, removed_in, with_keep, without_keep, left_tree}
use Rattle.fetch_remote.specs.Paths.{keep_path}
use Rattle.fetch_remote.specs.Applying.{pack_read, status_of, status_by, told_of, kept_of, released_of, IsUnreleased}
use Rattle.fetch_conversation.specs.declared.fetch.Error.{Error}
use Rattle.fetch_remote.specs.declared.fetching.outcome.Status.{Status}
use Rattle.fetch_remote.specs.declared.fetching.applying.TakenReply.{TakenReply}

-- ---- trees

pub files_same : (files left : Option Tree) → AreFiles files left (with_keep None) → left ≡ files
files_same None None h = refl
files_same None (Some t) h = let k : true ≡ false = h.0 in absurd (cc)
files_same (Some t) left h = sym h.1

pub same_files : (files : Option Tree) → AreFiles files files (with_keep None)
same_files None = (refl, tt)
same_files (Some t) = (refl, refl)

-- one change after another
pub files_then : (a b c : Option Tree) (f g : Tree → Option Tree) → AreFiles a b f → AreFiles b c g → AreFiles a c (λ t. option_and_then g (f t))
files_then None b c f g h k = (k.0 ∙ h.0, tt)
files_then (Some t) (Some u) c f g h k = (k.0 ∙ h.0, rw h.1 k.1)
files_then (Some t) None c f g h k = let e : false ≡ true = h.0 in absurd (cc)

-- ---- what was made can be removed

inserted_at : (t : Tree) (part : List ℕ) (path : Path) (v : TreeNode) → node_at (map.insert t (part ∷ path) v) (part ∷ path) ≡ Some v
inserted_at t part path v =
    get-insert path_cmp_total t (part ∷ path) v (part ∷ path) ∙ ap (λ (b : Bool). cond b (Some v) (map.get t (part ∷ path))) (ap is_eq (tied_itself path_cmp_total (part ∷ path)))

removes_by : (b : Bool) (u : Tree) (path : Path) → is_file (node_at u path) ≡ b → b ≡ true → without_file u path ≡ None → ⊥
removes_by true u path is there none = absurd (cc)
removes_by false u path is there none = absurd (cc)

removes_with : (b : Bool) (t u : Tree) (part : List ℕ) (path : Path) (bytes : List ℕ) → (if b then None else Some (map.insert (with_each t (parents_of (part ∷ path))) (part ∷ path) (File bytes))) ≡ Some u → without_file u (part ∷ path) ≡ None → ⊥
removes_with true t u part path bytes is none = absurd (cc)
removes_with false t u part path bytes is none =
    let same : map.insert (with_each t (parents_of (part ∷ path))) (part ∷ path) (File bytes) ≡ u = cc in
    let at : node_at u (part ∷ path) ≡ Some (File bytes) = ap (λ (m : Tree). node_at m (part ∷ path)) (sym same) ∙ inserted_at (with_each t (parents_of (part ∷ path))) part path (File bytes) in
    removes_by (is_file (node_at u (part ∷ path))) u (part ∷ path) refl (ap is_file at) none

-- a file that was written is there
removes : (t u : Tree) (path : Path) (bytes : List ℕ) → written t path bytes ≡ Some u → without_file u path ≡ None → ⊥
removes t u [] bytes is none = absurd (cc)
removes t u (part ∷ path) bytes is none = removes_with (is_blocked t (part ∷ path) || is_directory (node_at t (part ∷ path))) t u part path bytes is none

-- files that tell a tree refuse no removal of what was made
pub no_refusal : (files mid : Option Tree) (may_fail : Bool) (path : List ℕ) → AreFiles files mid (with_keep (Some path)) → IsRefused may_fail mid (without_keep (Some path)) → may_fail ≡ false → files ≡ None
no_refusal None mid may_fail path h k never = refl
no_refusal (Some t) None may_fail path h k never = let e : false ≡ true = h.0 in absurd (cc)
no_refusal (Some t) (Some u) may_fail path h k never = absurd (removes t u (parts_of path) [] h.1 (k never))

-- ---- what is told

kept_or_gone : (b : Bool) (path : List ℕ) → (if is_some (if b then Some path else None) then None else Some path) ≡ (if b then None else Some path)
kept_or_gone true path = refl
kept_or_gone false path = refl

pub status_is : (git_dir : List ℕ) (dry_run : Bool) (r : Option Received) (u : Updates) → status_by dry_run (told_of git_dir dry_run r) u ≡ status_of git_dir dry_run r u
status_is git_dir true None u = refl
status_is git_dir true (Some r) u = refl
status_is git_dir false None u = refl
status_is git_dir false (Some r) u = by r.pack
  where
    by : (p : Option (ℕ × ObjectId)) → status_by false (told_of git_dir false (Some (record r { pack = p }))) u ≡ status_of git_dir false (Some (record r { pack = p })) u
    by None = refl
    by (Some p) = refl

-- the keep file that was made for the pack
pub made_is : (git_dir : List ℕ) (dry_run : Bool) (r : Option Received) (u : Updates) → made_in git_dir (status_of git_dir dry_run r u) ≡ made git_dir (pack_read dry_run r)
made_is git_dir true None u = refl
made_is git_dir true (Some r) u = refl
made_is git_dir false None u = refl
made_is git_dir false (Some r) u = by r.pack
  where
    by : (p : Option (ℕ × ObjectId)) → made_in git_dir (status_of git_dir false (Some (record r { pack = p })) u) ≡ made git_dir (pack_read false (Some (record r { pack = p })))
    by None = refl
    by (Some p) = refl

-- the one that stays
pub keep_is : (git_dir : List ℕ) (dry_run : Bool) (r : Option Received) (u : Updates) → keep_in (status_of git_dir dry_run r u) ≡ option_and_then (kept git_dir u) (pack_read dry_run r)
keep_is git_dir true None u = refl
keep_is git_dir true (Some r) u = refl
keep_is git_dir false None u = refl
keep_is git_dir false (Some r) u = by r.pack
  where
    by : (p : Option (ℕ × ObjectId)) → keep_in (status_of git_dir false (Some (record r { pack = p })) u) ≡ option_and_then (kept git_dir u) (pack_read false (Some (record r { pack = p })))
    by None = refl
    by (Some p) = refl

-- the one that goes
pub removed_is : (git_dir : List ℕ) (dry_run : Bool) (r : Option Received) (u : Updates) → removed_in git_dir (status_of git_dir dry_run r u) ≡ released_of u (told_of git_dir dry_run r)
removed_is git_dir true None u = refl
removed_is git_dir true (Some r) u = refl
removed_is git_dir false None u = refl
removed_is git_dir false (Some r) u = by r.pack
  where
    by : (p : Option (ℕ × ObjectId)) → removed_in git_dir (status_of git_dir false (Some (record r { pack = p })) u) ≡ released_of u (told_of git_dir false (Some (record r { pack = p })))
    by None = refl
    by (Some p) = kept_or_gone (stays u p.0) (keep_path git_dir p.1)

pub kept_none : (git_dir : List ℕ) (dry_run : Bool) (r : Option Received) → pack_read dry_run r ≡ None → kept_of (told_of git_dir dry_run r) ≡ None
kept_none git_dir true None is = refl
kept_none git_dir true (Some r) is = refl
kept_none git_dir false None is = refl
kept_none git_dir false (Some r) is = rw is refl

-- what goes was made
pub gone_made : (git_dir : List ℕ) (dry_run : Bool) (r : Option Received) (u : Updates) (path : List ℕ) → released_of u (told_of git_dir dry_run r) ≡ Some path → made git_dir (pack_read dry_run r) ≡ Some path
gone_made git_dir true None u path is = absurd (cc)
gone_made git_dir true (Some r) u path is = absurd (cc)
gone_made git_dir false None u path is = absurd (cc)
gone_made git_dir false (Some r) u path is = by r.pack is
  where
    with_pack : (b : Bool) (p : List ℕ) → (if b then None else Some p) ≡ Some path → Some p ≡ Some path
    with_pack true p is = absurd (cc)
    with_pack false p is = is

    by : (p : Option (ℕ × ObjectId)) → released_of u (told_of git_dir false (Some (record r { pack = p }))) ≡ Some path → made git_dir (pack_read false (Some (record r { pack = p }))) ≡ Some path
    by None is = absurd (cc)
    by (Some p) is = with_pack (stays u p.0) (keep_path git_dir p.1) is

-- the whole change of the files
pub left_files : (files mid left : Option Tree) (git_dir : List ℕ) (dry_run : Bool) (r : Option Received) (u : Updates) (status : Status) → status ≡ status_of git_dir dry_run r u
    → AreFiles files mid (with_keep (made git_dir (pack_read dry_run r))) → AreFiles mid left (without_keep (released_of u (told_of git_dir dry_run r))) → AreFiles files left (left_tree git_dir status)
left_files files mid left git_dir dry_run r u status is h k =
    let a : made_in git_dir status ≡ made git_dir (pack_read dry_run r) = ap (λ (x : Status). made_in git_dir x) is ∙ made_is git_dir dry_run r u in
    let b : removed_in git_dir status ≡ released_of u (told_of git_dir dry_run r) = ap (λ (x : Status). removed_in git_dir x) is ∙ removed_is git_dir dry_run r u in
    let all = files_then files mid left (with_keep (made git_dir (pack_read dry_run r))) (without_keep (released_of u (told_of git_dir dry_run r))) h k in
    subst (λ (x : Option (List ℕ)). AreFiles files left (λ t. option_and_then (without_keep (removed_in git_dir status)) (with_keep x t))) (sym a)
    (subst (λ (y : Option (List ℕ)). AreFiles files left (λ t. option_and_then (without_keep y) (with_keep (made git_dir (pack_read dry_run r)) t))) (sym b) all)

-- files that tell a tree refuse no removal of a keep file
pub removable : (files mid : Option Tree) (may_fail : Bool) (git_dir : List ℕ) (dry_run : Bool) (r : Option Received) (u : Updates) (taken : Option TakenReply) (e : Error) → taken ≡ told_of git_dir dry_run r
    → AreFiles files mid (with_keep (made git_dir (pack_read dry_run r))) → IsRefused may_fail mid (without_keep (released_of u taken)) → IsUnreleased (released_of u taken) e → may_fail ≡ false → files ≡ None
removable files mid may_fail git_dir dry_run r u taken e is h k gone never =
    let goes : released_of u (told_of git_dir dry_run r) ≡ Some gone.0 = ap (λ (x : Option TakenReply). released_of u x) (sym is) ∙ gone.2 in
    let was : made git_dir (pack_read dry_run r) ≡ Some gone.0 = gone_made git_dir dry_run r u gone.0 goes in
    no_refusal files mid may_fail gone.0 (subst (λ (x : Option (List ℕ)). AreFiles files mid (with_keep x)) was h) (subst (λ (x : Option (List ℕ)). IsRefused may_fail mid (without_keep x)) gone.2 k) never

pub made_none : (git_dir : List ℕ) (dry_run : Bool) (r : Option Received) → made git_dir (pack_read dry_run r) ≡ None → pack_read dry_run r ≡ None
made_none git_dir dry_run r = by (pack_read dry_run r)
  where
    by : (p : Option (ℕ × ObjectId)) → made git_dir p ≡ None → p ≡ None
    by None is = refl
    by (Some p) is = absurd (cc)

pub dry_none : (dry_run : Bool) (r : Option Received) → dry_run ≡ true → pack_read dry_run r ≡ None
dry_none true r is = refl
dry_none false r is = absurd (cc)
