-- Passes as data that a model may keep.
use Rattle.std.specs.Prelude.{ℕ, List, refl}
use Rattle.std.specs.Coded.{Coded, code_by, coded_ℕ, coded_list, coded×}
use Rattle.atomic_table.specs.Seated.{TableId, table_id_coded}
use Rattle.fetch_remote.specs.Codes.{coded_repository}
use Rattle.fetch_remote.specs.RepositoryValues.{RepositoryValue}
use Rattle.fetch_journal.specs.declared.entry.Entry.{Entry}
use Rattle.fetch_shared.specs.declared.view.Span.{Span}
use Rattle.fetch_journal.specs.Codes.{coded_entry}
use Rattle.fetch_shared.specs.Passes.{Which, Holder}

abbrev coded_span : Coded Span
coded_span = code_by (ℕ × ℕ) (coded× coded_ℕ coded_ℕ) (λ s. (s.first, s.end)) (λ p. record { first = p.0; end = p.1 }) (λ _. refl)

-- which shared repository a pass is of, coded
abbrev pub coded_which : Coded Which
coded_which =
    code_by (TableId × RepositoryValue) (coded× table_id_coded coded_repository) (λ w. (w.table, w.opening))
    (λ p. record { table = p.0; opening = p.1 }) (λ _. refl)

-- what a pass is seen as, coded
abbrev pub coded_holder : Coded Holder
coded_holder =
    code_by (Which × (ℕ × (Span × (List Span × List Entry))))
    (coded× coded_which (coded× coded_ℕ (coded× coded_span (coded× (coded_list coded_span) (coded_list coded_entry)))))
    (λ h. (h.shared, (h.number, (h.unused, (h.held, h.front)))))
    (λ p. record { shared = p.0; number = p.1.0; unused = p.1.1.0; held = p.1.1.1.0; front = p.1.1.1.1 }) (λ _. refl)
