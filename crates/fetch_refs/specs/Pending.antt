-- Edits that are ready to be made: the references without them, and with them.
use Rattle.std.specs.Prelude.{refl}
use Rattle.std.specs.Coded.{Coded, code_by, coded×}
use Rattle.fetch_refs.specs.Names.{RefsValue, coded_refs}

-- the references before the edits, and after them
pub record PendingValue : Type 0 where
  pub before : RefsValue
  pub after : RefsValue

-- edits that are made ready, coded
abbrev pub coded_pending : Coded PendingValue
coded_pending = code_by (RefsValue × RefsValue) (coded× coded_refs coded_refs) (λ p. (p.before, p.after))
    (λ p. record { before = p.0; after = p.1 }) (λ _. refl)
