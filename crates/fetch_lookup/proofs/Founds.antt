-- A remote whose parts are found in turn.
use Rattle.std.proofs.Common.{◌≡◌, ℕ, List, Option, Ok, Err}
use Rattle.fetch_specs.specs.Specs.{Spec}
use Rattle.fetch_specs.specs.declared.tags.Tags.{Tags}
use Rattle.fetch_config.specs.declared.section.Section.{Section}
use Rattle.fetch_lookup.specs.declared.direction.Direction.TheVariants.{Push, Fetch}
use Rattle.fetch_lookup.specs.declared.find.Error.{Error}
use Rattle.fetch_lookup.specs.declared.name.Name.{Name}
use Rattle.fetch_lookup.specs.Names.{name_of}
use Rattle.fetch_lookup.specs.Remotes.{tags_in, addresses_in, specs_in, found_in}

module _ (sections : List Section) (name : List ℕ) where
  pub no-tags : {e : Error} → tags_in sections name ≡ Err e → found_in sections name ≡ Err e
  unfolding found_in
  no-tags a = rw a

  pub no-urls : {t : Tags} {e : Error} → tags_in sections name ≡ Ok t → addresses_in sections name Fetch ≡ Err e → found_in sections name ≡ Err e
  unfolding found_in
  no-urls a b = rw (a, b)

  pub no-push_urls : {t : Tags} {us : List (List ℕ)} {e : Error} → tags_in sections name ≡ Ok t → addresses_in sections name Fetch ≡ Ok us → addresses_in sections name Push ≡ Err e → found_in sections name ≡ Err e
  unfolding found_in
  no-push_urls a b c = rw (a, b, c)

  pub no-fetch_specs : {t : Tags} {us ps : List (List ℕ)} {e : Error} → tags_in sections name ≡ Ok t → addresses_in sections name Fetch ≡ Ok us → addresses_in sections name Push ≡ Ok ps
      → specs_in sections name Fetch ≡ Err e → found_in sections name ≡ Err e
  unfolding found_in
  no-fetch_specs a b c d = rw (a, b, c, d)

  pub no-push_specs : {t : Tags} {us ps : List (List ℕ)} {fs : List Spec} {e : Error} → tags_in sections name ≡ Ok t → addresses_in sections name Fetch ≡ Ok us → addresses_in sections name Push ≡ Ok ps
      → specs_in sections name Fetch ≡ Ok fs → specs_in sections name Push ≡ Err e → found_in sections name ≡ Err e
  unfolding found_in
  no-push_specs a b c d f = rw (a, b, c, d, f)

  pub all-parts : {t : Tags} {n : Option Name} {us ps : List (List ℕ)} {fs qs : List Spec} → tags_in sections name ≡ Ok t → addresses_in sections name Fetch ≡ Ok us → addresses_in sections name Push ≡ Ok ps
      → specs_in sections name Fetch ≡ Ok fs → specs_in sections name Push ≡ Ok qs → n ≡ name_of name
      → found_in sections name ≡ Ok (record { name = n; urls = us; push_urls = ps; fetch_specs = fs; push_specs = qs; fetch_tags = t })
  unfolding found_in
  all-parts a b c d f n = rw (a, b, c, d, f, n)
