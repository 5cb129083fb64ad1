-- A second deletion of the same branches.
use Rattle.std.proofs.Common.{◌≡◌, ℕ, Bool, true, false, List, [], Option, Some, None, refl, sym, ap, ◌∙◌}
use Rattle.std.specs.Option.{option_map}
use Rattle.fetch_files.specs.Paths.{parts_of}
use Rattle.fetch_files.specs.Trees.{Tree, read_in}
use Rattle.fetch_config.specs.Contents.{Contents}
use Rattle.fetch_config.specs.Lines.{sections_of}
use Rattle.fetch_config.specs.Print.{text_of}
use Rattle.fetch_lookup.specs.Removed.{has_branches, is_branch_of, without_branches}
use Rattle.fetch_refs.specs.Names.{RefsValue}
use Rattle.fetch_update.specs.declared.worktrees.Worktree.{Worktree}
use Rattle.fetch_remote.specs.Deleting.{Cleans, IsDeleted, IsLeft, file_meta, file_without, has_sections, lock_path, refs_without, short_names, state_without, without}
use Rattle.fetch_remote.specs.Paths.{config_path}
use Rattle.fetch_remote.specs.Repositories.{RepositoryValue, Setup, State, in_force, resolved_of, with_refs}
use Rattle.fetch_remote.proofs.Deletions.{without_twice}
use Rattle.fetch_remote.proofs.Replaced.{read_replaced}
use Rattle.fetch_remote.proofs.SectionsBack.{none_read}

refs_twice : (names : List (List ℕ)) (r : RefsValue) → refs_without names (refs_without names r) ≡ refs_without names r
refs_twice names r =
    let a : without names (without names r.names) ≡ without names r.names = without_twice r.names names in
    let b : without names (without names r.logs) ≡ without names r.logs = without_twice r.logs names in
    let c : without names (without names r.packed) ≡ without names r.packed = without_twice r.packed names in
    rw (a, b, c) refl

state_twice : (names : List (List ℕ)) (before between after : State) → between ≡ state_without names before → after ≡ state_without names between → after ≡ between
state_twice names before between after first second =
    second ∙ ap (state_without names) first ∙ ap (with_refs before) (refs_twice names before.refs) ∙ sym first

-- no text has no section
no_line : (names : List (List ℕ)) → has_branches (short_names names) (sections_of file_meta []) ≡ false
unfolding has_branches sections_of
no_line names = refl

-- the new text has no section of the branches
no_section : (names : List (List ℕ)) (text : Option (List ℕ)) → has_sections names (Some (text_of (file_without names text).sections)) ≡ false
unfolding has_branches without_branches text_of
no_section names None = no_line names
no_section names (Some text) = none_read (is_branch_of (short_names names)) file_meta text

same_directory : (names : List (List ℕ)) (before after : Setup) (o : Option Contents) → option_map (in_force before (without_branches (short_names names) before.local)) o ≡ Some after → after.settings.git_dir ≡ before.settings.git_dir
same_directory names before after None e = absurd cc
same_directory names before after (Some config) e = let is : in_force before (without_branches (short_names names) before.local) config ≡ after = cc in ap (λ (s : Setup). s.settings.git_dir) (sym is)

-- ---- the file

-- what the second deletion reads has no section
reads : (names : List (List ℕ)) (b : Bool) (text next : Option (List ℕ)) (t u : Tree) (before between : Setup) → has_sections names text ≡ b → Cleans b names text (Some t) (Some u) before between
    → read_in t (parts_of (config_path before.settings.git_dir)) ≡ Some text → read_in u (parts_of (config_path between.settings.git_dir)) ≡ Some next → has_sections names next ≡ false
reads names true text next t u before between is cleaned old now =
    let dir : between.settings.git_dir ≡ before.settings.git_dir = same_directory names before between (resolved_of before.base (without_branches (short_names names) before.local) before.overrides) cleaned.setup in
    let there = read_replaced t u (parts_of (lock_path before.settings.git_dir)) (parts_of (config_path before.settings.git_dir)) (text_of (file_without names text).sections) text old cleaned.tree in
    let moved : read_in u (parts_of (config_path before.settings.git_dir)) ≡ Some next = ap (λ (d : List ℕ). read_in u (parts_of (config_path d))) (sym dir) ∙ now in
    let same : next ≡ Some (text_of (file_without names text).sections) = cc (there, moved) in
    ap (has_sections names) same ∙ no_section names text
reads names false text next t u before between is left old now =
    let tree : u ≡ t = cc (left.tree) in
    let moved : read_in t (parts_of (config_path before.settings.git_dir)) ≡ Some next =
    ap (λ (x : Tree). read_in x (parts_of (config_path before.settings.git_dir))) (sym tree) ∙ ap (λ (s : Setup). read_in u (parts_of (config_path s.settings.git_dir))) (sym left.setup) ∙ now in
    let same : next ≡ text = cc (old, moved) in
    ap (has_sections names) same ∙ is

left_alone : (names : List (List ℕ)) (b : Bool) (text : Option (List ℕ)) (u v : Tree) (between after : Setup) → b ≡ false → Cleans b names text (Some u) (Some v) between after → IsLeft (Some u) (Some v) between after
left_alone names true text u v between after is h = absurd cc
left_alone names false text u v between after is h = h

pub again : (trees more : Option (List Worktree)) (t u v : Tree) (names : List (List ℕ)) (before between after : RepositoryValue) → IsDeleted trees (Some t) (Some u) names before between → IsDeleted more (Some u) (Some v) names between after
    → (after ≡ between) × (v ≡ u)
again trees more t u v names before between after first second =
    let none : has_sections names second.text ≡ false = reads names (has_sections names first.text) first.text second.text t u before.setup between.setup refl first.cleaned first.read second.read in
    let left = left_alone names (has_sections names second.text) second.text u v between.setup after.setup none second.cleaned in
    let state : after.state ≡ between.state = state_twice names before.state between.state after.state first.state second.state in
    let setup : after.setup ≡ between.setup = left.setup in
    let tree : v ≡ u = cc (left.tree) in (
      ap (λ (s : State). record { state = s; setup = after.setup }) state ∙ ap (λ (s : Setup). record { state = between.state; setup = s }) setup,
      tree,
    )
