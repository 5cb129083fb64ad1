-- The empty mirror is what its parts make.
use Rattle.std.proofs.Common.{◌≡◌, Option, Bool, false, List, [], Some, None, ◌∷◌, refl, ap, ◌∙◌, codes}
use Rattle.std.specs.FinMap as map
use Rattle.std.specs.FinSet as set
use Rattle.fetch_store.specs.Closed.{IsClosed}
use Rattle.fetch_store.specs.Missing.{unclosed}
use Rattle.fetch_base.specs.Id.{id_cmp}
use Rattle.fetch_base.specs.declared.id.Kind.{Kind}
use Rattle.fetch_store.proofs.Unclosed.{closed_none}
use Rattle.fetch_config.specs.Lines.{line_of, sections_of}
use Rattle.fetch_config.specs.Lookups.{boolean_of, explicit, last_or, values_of}
use Rattle.fetch_config.specs.Values.{before_comment, subsection_of, unquoted, value_of}
use Rattle.fetch_config.specs.declared.section.Section.{Section}
use Rattle.fetch_refs.specs.declared.log.Signature.{Signature}
use Rattle.fetch_remote.specs.Repositories.{setup_in, setup_of, state_in, state_of}
use Rattle.fetch_remote.specs.RepositoryValues.{RepositoryValue, logging_of}
use Rattle.fetch_remote.specs.declared.repository.Parts.{Parts}
use Rattle.fetch_journal.specs.Machine.{held}
use Rattle.fetch_mirror.specs.Opening.{bare_setup, empty_mirror, empty_state}
use Rattle.fetch_mirror.specs.Settings.{config_from, config_text, own_meta}
use Rattle.fetch_mirror.proofs.NoopRead.{one_section, section}

-- the parts, with these sections of the base and of the local file
abbrev pub parts_by : Kind → Signature → List Section → List Section → Parts
parts_by kind committer base local = record {
  store = record { hash = kind; objects = map.empty; spare = 0; spare_bytes = 0 };
  refs = record { hash = kind; names = map.empty; logs = map.empty; packed = map.empty };
  border = set.empty;
  local = record { meta = own_meta; sections = local };
  committer = committer;
  git_dir = codes ".";
  workdir = None;
  options = record { lenient_config = false; api_config_overrides = []; base = record { meta = own_meta; sections = base } };
}

pub no_sections : sections_of own_meta [] ≡ []
unfolding sections_of line_of value_of unquoted before_comment subsection_of
no_sections = refl

quiet : logging_of (record { meta = own_meta; sections = section ∷ [] }) None ≡ false
unfolding logging_of values_of explicit last_or boolean_of
quiet = refl

not_logged : logging_of (config_from own_meta) None ≡ false
not_logged = ap (λ (s : List Section). logging_of (record { meta = own_meta; sections = s }) None) one_section ∙ quiet

pub set_up : (kind : Kind) (committer : Signature) → setup_in (parts_by kind committer (sections_of own_meta []) (sections_of own_meta config_text)) ≡ Some (bare_setup kind committer)
set_up kind committer =
    ap (λ (b : List Section). setup_in (parts_by kind committer b (sections_of own_meta config_text))) no_sections
    ∙ ap (λ (logs : Bool). Some (record (bare_setup kind committer) { logging = logs })) not_logged

pub opened_so : (kind : Kind) (committer : Signature) (repo : RepositoryValue) → let parts = parts_by kind committer (sections_of own_meta []) (sections_of own_meta config_text) in
    state_of repo ≡ state_in parts → setup_in parts ≡ Some (setup_of repo) → repo ≡ empty_mirror kind committer
opened_so kind committer repo state setup =
    let same : repo.setup ≡ bare_setup kind committer = cc (setup, set_up kind committer) in
    let there : repo.state ≡ empty_state kind = state in
    λ i. record { state = there i; setup = same i }

-- the empty mirror is closed
nothing_there : {X : Type 0} (o : Option X) (x : X) → o ≡ None → o ≡ Some x → ⊥
nothing_there o x none some = absurd (cc (none, some))

empty_closed : (kind : Kind) (committer : Signature) → IsClosed (held (empty_mirror kind committer))
empty_closed kind committer = record {
  linked = λ id o is. absurd (nothing_there _ o (map.get-empty id_cmp id) is);
  bordered = λ id is. let none = set.contains-empty id_cmp id in absurd cc;
}

pub none_unclosed : (kind : Kind) (committer : Signature) (repo : RepositoryValue) → repo ≡ empty_mirror kind committer → unclosed (held repo) ≡ []
none_unclosed kind committer repo is = ap (λ (r : RepositoryValue). unclosed (held r)) is ∙ closed_none (held (empty_mirror kind committer)) (empty_closed kind committer)
