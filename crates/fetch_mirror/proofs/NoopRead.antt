-- The settings of a mirror are read.
use Rattle.std.proofs.Common.{◌≡◌, [], ◌∷◌, Some, None, refl, codes}
use Rattle.fetch_config.specs.Lines.{line_of, sections_of}
use Rattle.fetch_config.specs.Lookups.{boolean_of, explicit, integer_of, last_or, values_of}
use Rattle.fetch_config.specs.Values.{before_comment, subsection_of, unquoted, value_of}
use Rattle.fetch_config.specs.declared.meta.Meta.{Meta}
use Rattle.fetch_config.specs.declared.section.Section.{Section}
use Rattle.fetch_conversation.specs.ReadSettings.{agent_of, agents_in, algorithm_of_config, algorithms_in, rejections_in, rejects_shallow_of, threads_in, threads_of}
use Rattle.fetch_mirror.specs.Settings.{IsRead, config_from, config_text, own_meta}

-- its one section
abbrev pub section : Section
section = record { name = codes "fetch"; sub = None; meta = own_meta; entries = (codes "negotiationAlgorithm", Some (codes "noop")) ∷ [] }

pub one_section : sections_of own_meta config_text ≡ section ∷ []
unfolding sections_of line_of value_of unquoted before_comment subsection_of
one_section = refl

read_so : (meta : Meta) → IsRead (record { meta = meta; sections = section ∷ [] })
unfolding algorithm_of_config algorithms_in rejects_shallow_of rejections_in threads_of threads_in values_of explicit last_or boolean_of integer_of
read_so meta = record { algorithm = refl; rejects = refl; threads = refl }

pub is_read : (meta : Meta) → IsRead (config_from meta)
is_read meta = rw one_section (read_so meta)

-- It doesn't say who asks.
agent_so : (meta : Meta) → agent_of (record { meta = meta; sections = section ∷ [] }) ≡ codes "oxide-0.87.1"
unfolding agent_of agents_in values_of explicit last_or
agent_so meta = refl

pub agent_read : (meta : Meta) → agent_of (config_from meta) ≡ codes "oxide-0.87.1"
agent_read meta = rw one_section (agent_so meta)
