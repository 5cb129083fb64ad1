-- Repositories as data that a model may keep.
use Rattle.std.specs.Prelude.{◌≡◌, ℕ, zero, suc, Bool, List, Option, refl}
use Rattle.std.specs.Coded.{Coded, code_by, coded_ℕ, coded_bool, coded_list, coded_option, coded×}
use Rattle.std.specs.FinMap as map
use Rattle.fetch_store.specs.Borders.{IdSet, coded_ids}
use Rattle.fetch_objects.specs.Codes.{coded_kind, coded_id, coded_stored}
use Rattle.fetch_store.specs.Stores.{ObjectMap}
use Rattle.fetch_base.specs.Id.{id_cmp}
use Rattle.fetch_base.specs.declared.id.Kind.{Kind}
use Rattle.fetch_config.specs.Contents.{Contents}
use Rattle.fetch_config.specs.declared.meta.Meta.{Meta}
use Rattle.fetch_config.specs.declared.meta.Origin.{Origin}
use Rattle.fetch_config.specs.declared.meta.Origin.TheVariants as origins
use Rattle.fetch_config.specs.declared.section.Section.{Section}
use Rattle.fetch_refs.specs.Codes.{coded_signature}
use Rattle.fetch_refs.specs.Names.{RefsValue, coded_refs}
use Rattle.fetch_refs.specs.declared.log.Signature.{Signature}
use Rattle.fetch_remote.specs.RepositoryValues.{State, Setup, RepositoryValue}
use Rattle.fetch_conversation.specs.declared.settings.Settings.{Settings}

abbrev coded_text : Coded (List ℕ)
coded_text = coded_list coded_ℕ

abbrev coded_option_text : Coded (Option (List ℕ))
coded_option_text = coded_option coded_text

abbrev number : Origin → ℕ
number origins.System = 0
number origins.Global = 1
number origins.Local = 2
number origins.Api = 3

abbrev numbered : ℕ → Origin
numbered zero = origins.System
numbered (suc zero) = origins.Global
numbered (suc (suc zero)) = origins.Local
numbered (suc (suc (suc n))) = origins.Api

-- an origin is the one that its number names
pub numbered-number : (o : Origin) → numbered (number o) ≡ o
numbered-number origins.System = refl
numbered-number origins.Global = refl
numbered-number origins.Local = refl
numbered-number origins.Api = refl

abbrev coded_origin : Coded Origin
coded_origin = code_by ℕ coded_ℕ number numbered numbered-number

abbrev coded_meta : Coded Meta
coded_meta =
    code_by (Origin × (ℕ × (Option (List ℕ) × Bool))) (coded× coded_origin (coded× coded_ℕ (coded× coded_option_text coded_bool)))
    (λ m. (m.source, (m.level, (m.path, m.trusted))))
    (λ p. record { source = p.0; level = p.1.0; path = p.1.1.0; trusted = p.1.1.1 }) (λ _. refl)

abbrev coded_section : Coded Section
coded_section =
    code_by (List ℕ × (Option (List ℕ) × (Meta × List (List ℕ × Option (List ℕ)))))
    (coded× coded_text (coded× coded_option_text (coded× coded_meta (coded_list (coded× coded_text coded_option_text)))))
    (λ s. (s.name, (s.sub, (s.meta, s.entries)))) (λ p. record { name = p.0; sub = p.1.0; meta = p.1.1.0; entries = p.1.1.1 }) (λ _. refl)

abbrev coded_contents : Coded Contents
coded_contents =
    code_by (Meta × List Section) (coded× coded_meta (coded_list coded_section)) (λ c. (c.meta, c.sections))
    (λ p. record { meta = p.0; sections = p.1 }) (λ _. refl)

abbrev coded_settings : Coded Settings
coded_settings =
    code_by (Kind × (Contents × (Bool × (List ℕ × Signature))))
    (coded× coded_kind (coded× coded_contents (coded× coded_bool (coded× coded_text coded_signature))))
    (λ s. (s.kind, (s.config, (s.lenient, (s.git_dir, s.committer)))))
    (λ p. record { kind = p.0; config = p.1.0; lenient = p.1.1.0; git_dir = p.1.1.1.0; committer = p.1.1.1.1 }) (λ _. refl)

abbrev coded_state : Coded State
coded_state =
    code_by (Kind × (ObjectMap × (IdSet × RefsValue)))
    (coded× coded_kind (coded× (map.code {R = id_cmp} coded_id coded_stored) (coded× coded_ids coded_refs)))
    (λ s. (s.hash, (s.objects, (s.border, s.refs))))
    (λ p. record { hash = p.0; objects = p.1.0; border = p.1.1.0; refs = p.1.1.1 }) (λ _. refl)

abbrev coded_setup : Coded Setup
coded_setup =
    code_by (Contents × (Contents × (List (List ℕ) × (Option (List ℕ) × (Settings × Bool)))))
    (coded× coded_contents (coded× coded_contents
    (coded× (coded_list coded_text) (coded× coded_option_text (coded× coded_settings coded_bool)))))
    (λ s. (s.base, (s.local, (s.overrides, (s.workdir, (s.settings, s.logging))))))
    (λ p. record {
      base = p.0;
      local = p.1.0;
      overrides = p.1.1.0;
      workdir = p.1.1.1.0;
      settings = p.1.1.1.1.0;
      logging = p.1.1.1.1.1;
    }) (λ _. refl)

-- a repository, coded
abbrev pub coded_repository : Coded RepositoryValue
coded_repository = code_by (State × Setup) (coded× coded_state coded_setup) (λ r. (r.state, r.setup))
    (λ p. record { state = p.0; setup = p.1 }) (λ _. refl)
