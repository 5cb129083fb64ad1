use Rattle.std.proofs.Common.{◌≡◌, ℕ, Bool, true, [], ◌∷◌, length, unwrap_or, refl, ap, sym, ◌∙◌, arith}
use Rattle.std.specs.Prelude.{◌==◌, is_some, List, Option}
use Rattle.std.specs.Map.{lookup}
use Rattle.std.specs.BTreeMap.{is_at}
use Rattle.fetch_refs.specs.declared.log.LogLine.{LogLine}
use Rattle.fetch_refs.specs.Names.{Logs, name_cmp}
use Rattle.fetch_refs.specs.Contents.{names_of, list_of}
use Rattle.fetch_refs.proofs.Overlays.{lines_gone}
use Rattle.fetch_refs.proofs.Undoing.{lines_put, lines_undone}
use Rattle.fetch_refs.proofs.contents.Contents.clear_lines.Goals as goal

none_in : (n : ℕ) (b : Bool) → b ≡ (n == 0) → b ≡ true → n ≡ 0
none_in n b is so = grind (arith)

nothing : (ls : List LogLine) (b : Bool) → b ≡ (length ls == 0) → b ≡ true → ls ≡ []
nothing [] b is so = refl
nothing (l ∷ ls) b is so = absurd (let none = none_in (length (l ∷ ls)) b is so in omega (arith, none))

pub returns-then-is_empty-clause-written : goal.returns-then-is_empty-clause-written
returns-then-is_empty-clause-written c =
    ap (λ (m : Logs). record { hash = c.args.self.now.hash; names = names_of c.args.self.now.names.entries; logs = m; packed = list_of c.args.self.now.names.entries })
    (lines_gone c.args.self.now.logs.entries c.args.name.now (sym c.lines.ensures ∙ nothing c.lines.result.now c.is_empty.result c.is_empty.ensures c.if-is_empty.true))

pub returns-clause-written : goal.returns-clause-written
returns-clause-written c =
    ap (λ (m : Logs). record { hash = c.args.self.now.hash; names = names_of c.args.self.now.names.entries; logs = m; packed = list_of c.args.self.now.names.entries })
    (lines_put c.args.self.now.logs.entries c.insert.new.self.entries c.in_ok-key.key c.args.name.now c.new.result c.in_ok-key.ensures c.in_ok-old.ensures.updates.0
    ∙ ap (λ (ls : List LogLine). Rattle.fetch_refs.specs.Overlay.with_lines (Rattle.fetch_refs.specs.Overlay.logs_of c.args.self.now.logs.entries) c.args.name.now ls) c.new.ensures)

pub returns-clause-undo : goal.returns-clause-undo
returns-clause-undo c = record {
  shown =
      ap (λ (m : Logs). record { hash = c.args.self.now.hash; names = names_of c.args.self.now.names.entries; logs = m; packed = list_of c.args.self.now.names.entries })
      (lines_undone c.args.self.now.logs.entries c.insert.new.self.entries c.in_ok-key.key c.args.name.now c.in_ok-name.name c.new.result c.lines_or_none.result
      c.in_ok-key.ensures c.in_ok-name.ensures c.in_ok-old.ensures.updates.0
      (c.lines_or_none.ensures ∙ ap (λ (o : Option (List LogLine)). unwrap_or o []) c.in_ok-old.ensures.old));
  place = ap (λ k. is_some (lookup (is_at (name_cmp k)) c.insert.new.self.entries)) (c.in_ok-name.ensures ∙ sym c.in_ok-key.ensures) ∙ ap is_some c.in_ok-old.ensures.updates.1;
}
