-- The section of a configuration by which a branch follows the one that it was cloned from.
use Rattle.std.specs.Prelude.{ℕ, Bool, true, false, ◌&&◌, if◌then◌else◌, List, [], ◌∷◌, ◌++◌, codes, position, Option, Some, None, is_some}
use Rattle.std.specs.Prelude.{is_none}
use Rattle.std.specs.List.{list_any}
use Rattle.std.specs.Str.{is_utf8}
use Rattle.fetch_base.specs.declared.id.Kind.{Kind}
use Rattle.fetch_specs.specs.Categories.{category_of, shortened}
use Rattle.fetch_specs.specs.Matches.{mappings_of}
use Rattle.fetch_specs.specs.Specs.{Spec}
use Rattle.fetch_specs.specs.declared.category.Category.{Category}
use Rattle.fetch_specs.specs.declared.category.Category.TheVariants as categories
use Rattle.fetch_specs.specs.declared.found.Match.{Match}
use Rattle.fetch_config.specs.Contents.{Contents, with_sections}
use Rattle.fetch_config.specs.Kept.{is_nul, is_nul_or_feed}
use Rattle.fetch_config.specs.declared.meta.Meta.{Meta}
use Rattle.fetch_config.specs.declared.section.Section.{Section}

-- whether a category is that of branches
abbrev pub is_local : Option Category → Bool
is_local (Some categories.LocalBranch) = true
is_local _ = false

-- a match of the name itself, and not of an id
abbrev pub is_of_item : Match → Bool
is_of_item m = is_some m.item_index

-- whether refspecs take a name
abbrev pub maps : List Spec → Kind → List ℕ → Bool
maps specs kind name = list_any is_of_item (mappings_of specs (name ∷ []) kind)

-- a branch whose short name is UTF-8, which these refspecs take
abbrev pub is_followed : List Spec → Kind → List ℕ → Bool
is_followed specs kind name = is_local (category_of name) && (is_utf8 (shortened name) && maps specs kind name)

-- the section of a branch that follows one of a remote
abbrev pub branch_section : Meta → List ℕ → List ℕ → Section
branch_section meta remote name =
    record {
      name = codes "branch";
      sub = Some (shortened name);
      meta = meta;
      entries = (codes "remote", Some remote)
          ∷ (codes "merge", Some name) ∷ [];
    }

-- A configuration keeps no NUL, and in a subsection no line feed.
abbrev pub is_kept : List ℕ → List ℕ → Bool
is_kept remote name = is_none (position is_nul_or_feed (shortened name))
    && (is_none (position is_nul remote) && is_none (position is_nul name))

-- the configuration with that section at its end
abbrev pub with_branch : Contents → List ℕ → List ℕ → Contents
with_branch local remote name = with_sections local (local.sections ++ branch_section local.meta remote name ∷ [])

-- the local file with a section for the branch, where it is one that the refspecs take and can be kept
abbrev pub following : Contents → List ℕ → List Spec → Kind → List ℕ → Option Contents
following local remote specs kind name = if is_followed specs kind name && is_kept remote name
    then Some (with_branch local remote name) else None
