-- The section that a lent override says.
use Rattle.std.specs.Prelude.{[], ◌∷◌, option_map}
use Rattle.fetch_config.specs.declared.overrides.Override.{Override}
use Rattle.fetch_config.specs.declared.section.Section.{Section}
use Rattle.fetch_config.specs.Overrides.{api_meta}

-- the section that an override makes
abbrev pub section_of : Override → Section
section_of said =
    record {
      name = said.name.now;
      sub = option_map (λ s. s.now) said.sub;
      meta = api_meta;
      entries = (said.key.now, option_map (λ v. v.now) said.value) ∷ [];
    }
