use Rattle.std.proofs.Common.{[], ◌∷◌, Some, Err, refl, sym, ap, ◌∙◌}
use Rattle.std.specs.FinMap.{len}
use Rattle.std.proofs.lemmas.Result.{err_from_is_err_and}
use Rattle.fetch_refs.specs.declared.error.RefError.{RefError}
use Rattle.fetch_refs.specs.declared.target.TargetRef.{TargetRef}
use Rattle.fetch_refs.specs.Targets.{seen}
use Rattle.fetch_refs.specs.Names.{Names}
use Rattle.fetch_refs.specs.Peeled.{and_then, follow, peeled, through}
use Rattle.fetch_refs.proofs.TagWays.{never_memory}
use Rattle.fetch_refs.proofs.Ways.{answered, answers-first, handed_memory, is_named, name_stays, peeled-none, peeled-symbolic}
use Rattle.fetch_refs.proofs.refs.Refs.peel.Goals as goal

pub returns-in-None-clause-memory : goal.returns-in-None-clause-memory
returns-in-None-clause-memory g c =
    λ _. is_named _ _ (peeled-none c.args.self.now.names (g.O.Objects.graph c.args.objects.now) c.args.name.now (sym c.in-None.ensures)) refl

pub returns-in_err-id-in-Some-Symbolic-clause-answer : goal.returns-in_err-id-in-Some-Symbolic-clause-answer
returns-in_err-id-in-Some-Symbolic-clause-answer g c =
    let p = err_from_is_err_and c.from_residual.result c.from_residual.ensures.1 in
    let names : Names = c.args.self.now.names in
    let graph = g.O.Objects.graph c.args.objects.now in
    let first = follow names 4 (c.as_bytes.result.now ∷ []) c.in-Some-Symbolic.next.now in
    rw (p.1, p.2) (answers-first (peeled c.args.self.now.names graph c.args.name.now) first (through graph (len graph) []) c.in_err-id-in-Some-Symbolic.field-0.0
    (peeled-symbolic names c.args.self.now.names graph c.args.name.now c.as_bytes.result.now c.in-Some-Symbolic.next.now
    refl c.as_bytes.ensures.bytes (sym c.in-Some-Symbolic.ensures ∙ ap (λ (t : TargetRef). Some (seen t)) c.in-Some-Symbolic.field-0-is))
    c.in_err-id-in-Some-Symbolic.ensures.answer)

pub returns-in_err-id-in-Some-Symbolic-clause-memory : goal.returns-in_err-id-in-Some-Symbolic-clause-memory
returns-in_err-id-in-Some-Symbolic-clause-memory g c =
    λ none.
    let names : Names = c.args.self.now.names in
    let graph = g.O.Objects.graph c.args.objects.now in
    let first = follow names 4 (c.as_bytes.result.now ∷ []) c.in-Some-Symbolic.next.now in
    let was = c.in_err-id-in-Some-Symbolic.was ∙ ap (λ (x : RefError). Err x) (handed_memory c.from_residual.result c.in_err-id-in-Some-Symbolic.field-0.0 c.from_residual.ensures.1 none) in
    is_named _ _
    (peeled-symbolic names c.args.self.now.names graph c.args.name.now c.as_bytes.result.now c.in-Some-Symbolic.next.now
    refl c.as_bytes.ensures.bytes (sym c.in-Some-Symbolic.ensures ∙ ap (λ (t : TargetRef). Some (seen t)) c.in-Some-Symbolic.field-0-is))
    (name_stays first (through graph (len graph) []) (c.end_of_names.ensures.memory was))

pub returns-in_ok-id-in-Some-Symbolic-clause-answer : goal.returns-in_ok-id-in-Some-Symbolic-clause-answer
returns-in_ok-id-in-Some-Symbolic-clause-answer g c =
    let names : Names = c.args.self.now.names in
    let graph = g.O.Objects.graph c.args.objects.now in
    answered c.peel_tags.result (peeled names graph c.args.name.now)
    (peeled-symbolic names c.args.self.now.names graph c.args.name.now c.as_bytes.result.now c.in-Some-Symbolic.next.now
    refl c.as_bytes.ensures.bytes (sym c.in-Some-Symbolic.ensures ∙ ap (λ (t : TargetRef). Some (seen t)) c.in-Some-Symbolic.field-0-is)
    ∙ ap (λ r. and_then r (through graph (len graph) [])) c.in_ok-id-in-Some-Symbolic.ensures.answer
    ∙ sym c.peel_tags.ensures)

pub returns-in_ok-id-in-Some-Symbolic-clause-memory : goal.returns-in_ok-id-in-Some-Symbolic-clause-memory
returns-in_ok-id-in-Some-Symbolic-clause-memory g c =
    λ none. absurd (never_memory (g.O.Objects.graph c.args.objects.now) c.in_ok-id-in-Some-Symbolic.id (sym c.peel_tags.ensures ∙ none))
