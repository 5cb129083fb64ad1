-- What is read of a remote that was saved.
use Rattle.std.specs.Prelude.{◌≡◌, true, false, List, ℕ, ◌==◌, length, Ok}
use Rattle.std.specs.List.{list_any, list_all, All}
use Rattle.fetch_specs.specs.Parses.{IsSpec}
use Rattle.fetch_specs.specs.Specs.{Spec}
use Rattle.fetch_config.specs.declared.section.Section.{Section}
use Rattle.fetch_lookup.specs.declared.direction.Direction.{Direction}
use Rattle.fetch_lookup.specs.declared.direction.Direction.TheVariants.{Push, Fetch}
use Rattle.fetch_lookup.specs.declared.remote.RemoteParts.{RemoteParts}
use Rattle.fetch_lookup.specs.Names.{name_of}
use Rattle.fetch_lookup.specs.Ordered.{ascending}
use Rattle.fetch_lookup.specs.Remotes.{is_remote, found_in, has_bytes, has_feed, operation_of}
use Rattle.fetch_lookup.specs.SpecOrder.{spec_cmp}

-- no address is empty or has a line feed
pub record AreAddresses (urls : List (List ℕ)) : Type 0 where
  pub bytes : list_all has_bytes urls ≡ true
  pub feeds : list_any has_feed urls ≡ false

-- refspecs that texts say, for this direction
abbrev pub AreSpecs : Direction → List Spec → Type 0
AreSpecs direction specs = All (λ s. (s.operation ≡ operation_of direction) × IsSpec s) specs

-- There is an address to fetch from, and what there is can be read.
pub record IsReadable (parts : RemoteParts) : Type 0 where
  pub address : (length parts.urls == 0) ≡ false
  pub urls : AreAddresses parts.urls
  pub push_urls : AreAddresses parts.push_urls
  pub fetch_specs : AreSpecs Fetch parts.fetch_specs
  pub push_specs : AreSpecs Push parts.push_specs

-- The remote is found, its addresses and its choice of tags as they were, its refspecs in order.
pub record ReadsBack (sections : List Section) (name : List ℕ) (parts : RemoteParts) : Type 0 where
  pub found : is_remote sections name ≡ true
  pub answer : found_in sections name ≡ Ok (record {
    name = name_of name;
    urls = parts.urls;
    push_urls = parts.push_urls;
    fetch_specs = ascending spec_cmp parts.fetch_specs;
    push_specs = ascending spec_cmp parts.push_specs;
    fetch_tags = parts.fetch_tags;
  })
