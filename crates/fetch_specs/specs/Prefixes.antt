-- The prefixes that a listing is asked for.
use Rattle.std.specs.Prelude.{◌≡◌, ℕ, ◌+◌, ◌==◌, nat_eq, Bool, true, false, not, ◌&&◌, ◌⊎◌, if◌then◌else◌, List, [], ◌∷◌, ◌++◌, take, drop}
use Rattle.std.specs.Prelude.{Option, Some, None, is_some, IsTrue}
use Rattle.std.specs.List.{list_any, list_all, starts_with, flat_map, position_or_len}
use Rattle.std.specs.Ordering.{nat_cmp, is_lt}
use Rattle.std.specs.Cmp.Lexicographic.{slice_cmp}
use Rattle.std.specs.declared.cmp.Ordering.{Ordering}
use Rattle.std.specs.declared.cmp.Ordering.TheVariants.{Less, Equal, Greater}
use Rattle.std.specs.Str.{bytes_eq}
use Rattle.fetch_specs.specs.Categories.{refs, tags, heads, remotes}
use Rattle.fetch_specs.specs.Parses.{head, id_named}
use Rattle.fetch_specs.specs.Matches.{has_star, is_exclusion, slash_head}
use Rattle.fetch_specs.specs.Specs.{Spec}

-- beside a text: before it, at it, or after it
abbrev pub placed : Ordering → List ℕ → List ℕ → List (List ℕ) → List (List ℕ) → List (List ℕ)
placed Less text t ts behind = text ∷ t ∷ ts
placed Equal text t ts behind = t ∷ ts
placed Greater text t ts behind = t ∷ behind

-- a text put into sorted ones, unless it is there
abbrev pub put : List ℕ → List (List ℕ) → List (List ℕ)
put text [] = text ∷ []
put text (t ∷ ts) = placed (slice_cmp nat_cmp text t) text t ts (put text ts)

-- how many bytes stand up to and with the second slash, or all where there is none
abbrev pub second_slash : List ℕ → ℕ
second_slash text =
    let first = position_or_len (λ b. b == 47) text + 1 in
    first + position_or_len (λ b. b == 47) (drop first text) + 1

-- the prefix of a source under `refs/`: none where a star stands in it
abbrev pub refs_prefix : List ℕ → List (List ℕ)
refs_prefix source =
    let prefix = take (second_slash source) source in
    if has_star prefix then [] else prefix ∷ []

-- the names that a short source may stand for
abbrev pub expansions : List ℕ → List (List ℕ)
expansions source =
    source ∷ (refs ++ source) ∷ (tags ++ source) ∷ (heads ++ source) ∷ (remotes ++ source) ∷ (remotes ++ (source ++ slash_head)) ∷ []

-- what a source asks for: `HEAD`, a prefix under `refs/`, or what it may stand for; an id asks for nothing, and a star elsewhere has no
-- prefix
abbrev pub source_prefixes : List ℕ → List (List ℕ)
source_prefixes source =
    if is_some (id_named source) then []
    else if bytes_eq source head then head ∷ []
    else if starts_with nat_eq source refs then refs_prefix source
    else if has_star source then []
    else expansions source

-- what a source asks for, where there is one
abbrev pub side_prefixes : Option (List ℕ) → List (List ℕ)
side_prefixes None = []
side_prefixes (Some source) = source_prefixes source

-- what a refspec asks for
abbrev pub spec_prefixes : Spec → List (List ℕ)
spec_prefixes spec = if is_exclusion spec.mode then [] else side_prefixes spec.source

-- texts put into an ascending list, each once
abbrev pub put_all : List (List ℕ) → List (List ℕ) → List (List ℕ)
put_all into [] = into
put_all into (text ∷ texts) = put_all (put text into) texts

-- whether a source has a star with no prefix `refs/x/` before it
abbrev pub has_open_star : List ℕ → Bool
has_open_star source = if starts_with nat_eq source refs then has_star (take (second_slash source) source) else has_star source

-- whether a source's star is open
abbrev pub is_open_side : Option (List ℕ) → Bool
is_open_side None = false
is_open_side (Some source) = has_open_star source

-- whether a spec takes names that no prefix finds: never an exclusion
abbrev pub asks_for_all : Spec → Bool
asks_for_all spec = not (is_exclusion spec.mode) && is_open_side spec.source

-- what the specs ask for, sorted and each once; nothing, which asks for everything, where one of them asks for all
unfoldable pub prefixes_of : List Spec → List (List ℕ)
prefixes_of specs = if list_any asks_for_all specs then [] else put_all [] (flat_map spec_prefixes specs)

-- each text stands before all that follow it
abbrev pub ascends : List (List ℕ) → Bool
ascends [] = true
ascends (text ∷ texts) = list_all (λ t. is_lt (slice_cmp nat_cmp text t)) texts && ascends texts

-- the texts ascend, and where no spec asks for all they have what some spec asks for and nothing else; else there are none
pub record IsListing (specs : List Spec) (texts : List (List ℕ)) : Type 0 where
  pub sorted : IsTrue (ascends texts)
  pub members : (text : List ℕ) → list_any (bytes_eq text) texts
      ≡ (not (list_any asks_for_all specs) && list_any (λ spec. list_any (bytes_eq text) (spec_prefixes spec)) specs)

-- a name begins with one of the prefixes, or there are none
abbrev pub IsAskedFor : List (List ℕ) → List ℕ → Type 0
IsAskedFor prefixes name = (prefixes ≡ []) ⊎ IsTrue (list_any (starts_with nat_eq name) prefixes)

-- a text is a source's prefix `refs/x/`, where x has neither a star nor a slash
pub record IsPlainFront (source text : List ℕ) : Type 0 where
  pub name : List ℕ
  pub rest : List ℕ
  pub front : text ≡ refs ++ (name ++ 47 ∷ [])
  pub begins : source ≡ text ++ rest
  pub no_star : has_star name ≡ false
  pub no_slash : list_any (λ b. b == 47) name ≡ false
