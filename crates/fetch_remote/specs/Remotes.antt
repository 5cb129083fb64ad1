-- Remotes.
use Rattle.std.specs.Prelude.{ℕ, List, [], ◌∷◌, slice_get, unwrap_or, Option, Some, None}
use Rattle.fetch_specs.specs.Specs.{Spec}
use Rattle.fetch_specs.specs.declared.tags.Tags.{Tags}
use Rattle.fetch_lookup.specs.declared.direction.Direction.{Direction}
use Rattle.fetch_lookup.specs.declared.direction.Direction.TheVariants.{Push, Fetch}
use Rattle.fetch_lookup.specs.declared.name.Name.{Name}
use Rattle.fetch_lookup.specs.declared.remote.RemoteParts.{RemoteParts}

-- a remote's name where it has one, where it is fetched from and pushed to, by which refspecs, and what is done with tags
pub record RemoteValue : Type 0 where
  pub name : Option Name
  pub urls : List (List ℕ)
  pub push_urls : List (List ℕ)
  pub fetch_specs : List Spec
  pub push_specs : List Spec
  pub tags : Tags

-- the remote that a configuration tells
abbrev pub value_of : RemoteParts → RemoteValue
value_of p = record {
  name = p.name;
  urls = p.urls;
  push_urls = p.push_urls;
  fetch_specs = p.fetch_specs;
  push_specs = p.push_specs;
  tags = p.fetch_tags;
}

-- what a configuration says of the remote
abbrev pub parts_of : RemoteValue → RemoteParts
parts_of r = record {
  name = r.name;
  urls = r.urls;
  push_urls = r.push_urls;
  fetch_specs = r.fetch_specs;
  push_specs = r.push_specs;
  fetch_tags = r.tags;
}

-- a remote without a name, which is pushed to where it is fetched from, by no refspecs
abbrev pub nameless : List (List ℕ) → List Spec → Tags → RemoteValue
nameless urls fetch_specs tags = record {
  name = None;
  urls = urls;
  push_urls = [];
  fetch_specs = fetch_specs;
  push_specs = [];
  tags = tags;
}

-- the refspecs for a direction
abbrev pub specs_for : RemoteValue → Direction → List Spec
specs_for remote Fetch = remote.fetch_specs
specs_for remote Push = remote.push_specs

-- these, or the others where there are none
abbrev pub or_others : List (List ℕ) → List (List ℕ) → List (List ℕ)
or_others [] others = others
or_others (url ∷ urls) others = url ∷ urls

-- the addresses: to push, those to fetch from where there are no others
abbrev pub urls_for : RemoteValue → Direction → List (List ℕ)
urls_for remote Fetch = remote.urls
urls_for remote Push = or_others remote.push_urls remote.urls

-- the first address, or the empty one where there is none
abbrev pub address_of : RemoteValue → List ℕ
address_of remote = unwrap_or (slice_get remote.urls 0) []

-- with other refspecs for one direction
abbrev pub with_specs : RemoteValue → Direction → List Spec → RemoteValue
with_specs remote Fetch specs = record remote { fetch_specs = specs }
with_specs remote Push specs = record remote { push_specs = specs }

-- under a name
abbrev pub renamed : Name → RemoteValue → RemoteValue
renamed name remote = record remote { name = Some name }
