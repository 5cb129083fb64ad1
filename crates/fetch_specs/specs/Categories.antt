-- What a full name is for, by what it begins with.
use Rattle.std.specs.Prelude.{ℕ, ◌==◌, Bool, true, false, List, [], codes, nat_eq, length, drop, Option, Some, None, if◌then◌else◌}
use Rattle.std.specs.List.{starts_with, list_any}
use Rattle.fetch_specs.specs.declared.category.Category.{Category}
use Rattle.fetch_specs.specs.declared.category.Category.TheVariants.{Tag, LocalBranch, RemoteBranch, Note, PseudoRef}

-- what full names begin with
unfoldable pub refs : List ℕ
refs = codes "refs/"

-- what names of tags begin with
unfoldable pub tags : List ℕ
tags = codes "refs/tags/"

-- what names of branches begin with
unfoldable pub heads : List ℕ
heads = codes "refs/heads/"

-- what names of remote-tracking branches begin with
unfoldable pub remotes : List ℕ
remotes = codes "refs/remotes/"

-- what names of notes begin with
unfoldable pub notes : List ℕ
notes = codes "refs/notes/"

-- what the names of a category begin with
abbrev pub prefix_of : Category → List ℕ
prefix_of Tag = tags
prefix_of LocalBranch = heads
prefix_of RemoteBranch = remotes
prefix_of Note = notes
prefix_of PseudoRef = []

-- whether the names of a category stand alone, after no prefix
abbrev pub is_pseudo : Category → Bool
is_pseudo Tag = false
is_pseudo LocalBranch = false
is_pseudo RemoteBranch = false
is_pseudo Note = false
is_pseudo PseudoRef = true

-- the category whose prefix a name has; one without a slash is a pseudo reference
abbrev pub category_of : List ℕ → Option Category
category_of name =
    if starts_with nat_eq name tags then Some Tag
    else if starts_with nat_eq name heads then Some LocalBranch
    else if starts_with nat_eq name remotes then Some RemoteBranch
    else if starts_with nat_eq name notes then Some Note
    else if list_any (λ b. b == 47) name then None
    else Some PseudoRef

-- a name without a prefix, where it has it
abbrev pub without : List ℕ → List ℕ → List ℕ
without front name = if starts_with nat_eq name front then drop (length front) name else name

-- what names of this category begin with
abbrev pub front_of : Option Category → List ℕ
front_of (Some category) = prefix_of category
front_of None = refs

-- a name without its category's prefix, or else without `refs/`
abbrev pub shortened : List ℕ → List ℕ
shortened name = without (front_of (category_of name)) name
