use Rattle.std.proofs.Common.{◌≡◌, ℕ, List, [], refl, ap, ◌∙◌}
use Rattle.std.specs.FinMap as finmap
use Rattle.fetch_refs.specs.declared.log.LogLine.{LogLine}
use Rattle.fetch_refs.specs.Overlay.{logs_of}
use Rattle.fetch_refs.proofs.PackedLines.{whole}
use Rattle.fetch_refs.proofs.PackedReads.{sound_error, where_ok, where_line, where_order}
use Rattle.fetch_refs.proofs.refs.Refs.read_packed.Goals as goal

pub returns-in_err-names-clause-ok : goal.returns-in_err-names-clause-ok
returns-in_err-names-clause-ok c =
    where_ok c.args.kind c.args.text.now c.from_residual.result (sound_error c.args.kind c.args.text.now c.from_residual.result c.in_err-names.field-0.0 c.from_residual.ensures.1 c.in_err-names.ensures.refused)

pub returns-in_err-names-clause-line : goal.returns-in_err-names-clause-line
returns-in_err-names-clause-line c =
    where_line c.args.kind c.args.text.now c.from_residual.result (sound_error c.args.kind c.args.text.now c.from_residual.result c.in_err-names.field-0.0 c.from_residual.ensures.1 c.in_err-names.ensures.refused)

pub returns-in_err-names-clause-order : goal.returns-in_err-names-clause-order
returns-in_err-names-clause-order c =
    where_order c.args.kind c.args.text.now c.from_residual.result (sound_error c.args.kind c.args.text.now c.from_residual.result c.in_err-names.field-0.0 c.from_residual.ensures.1 c.in_err-names.ensures.refused)

pub returns-in_err-text-clause-ok : goal.returns-in_err-text-clause-ok
returns-in_err-text-clause-ok c =
    where_ok c.args.kind c.args.text.now c.from_residual-in_err-text.result (sound_error c.args.kind c.args.text.now c.from_residual-in_err-text.result _ c.from_residual-in_err-text.ensures.1 (_, whole c.args.kind c.args.text.now c.in_ok-names.names.entries finmap.empty c.in_ok-names.ensures.ok refl))

pub returns-in_err-text-clause-line : goal.returns-in_err-text-clause-line
returns-in_err-text-clause-line c =
    where_line c.args.kind c.args.text.now c.from_residual-in_err-text.result (sound_error c.args.kind c.args.text.now c.from_residual-in_err-text.result _ c.from_residual-in_err-text.ensures.1 (_, whole c.args.kind c.args.text.now c.in_ok-names.names.entries finmap.empty c.in_ok-names.ensures.ok refl))

pub returns-in_err-text-clause-order : goal.returns-in_err-text-clause-order
returns-in_err-text-clause-order c =
    where_order c.args.kind c.args.text.now c.from_residual-in_err-text.result (sound_error c.args.kind c.args.text.now c.from_residual-in_err-text.result _ c.from_residual-in_err-text.ensures.1 (_, whole c.args.kind c.args.text.now c.in_ok-names.names.entries finmap.empty c.in_ok-names.ensures.ok refl))

no_logs : (places : List (List ℕ × List LogLine)) → places ≡ [] → logs_of places ≡ finmap.empty
no_logs places none = ap logs_of none

pub invariant_of-result : goal.invariant_of-result
invariant_of-result c = c.in_ok-text.ensures ∙ (whole c.args.kind c.args.text.now c.in_ok-names.names.entries finmap.empty c.in_ok-names.ensures.ok refl).whole

pub returns-clause-ok : goal.returns-clause-ok
returns-clause-ok c =
    where_ok c.args.kind c.args.text.now _ (whole c.args.kind c.args.text.now c.in_ok-names.names.entries (logs_of c.new-2.result.entries) c.in_ok-names.ensures.ok (no_logs c.new-2.result.entries c.new-2.ensures.empty))

pub returns-clause-line : goal.returns-clause-line
returns-clause-line c =
    where_line c.args.kind c.args.text.now _ (whole c.args.kind c.args.text.now c.in_ok-names.names.entries (logs_of c.new-2.result.entries) c.in_ok-names.ensures.ok (no_logs c.new-2.result.entries c.new-2.ensures.empty))

pub returns-clause-order : goal.returns-clause-order
returns-clause-order c =
    where_order c.args.kind c.args.text.now _ (whole c.args.kind c.args.text.now c.in_ok-names.names.entries (logs_of c.new-2.result.entries) c.in_ok-names.ensures.ok (no_logs c.new-2.result.entries c.new-2.ensures.empty))
