use Rattle.std.proofs.Common.{◌≡◌, Bool, true, false, [], Result, Ok, Err, sym, ap, subst, ◌∙◌}
use Rattle.std.specs.Prelude.{IfOk}
use Rattle.std.specs.Bool.{OnFalse}
use Rattle.std.specs.FinMap as map
use Rattle.fetch_base.specs.Answers.{AnswersUnless}
use Rattle.fetch_base.specs.declared.id.ObjectId.{ObjectId}
use Rattle.fetch_store.specs.Graph.{graph_of}
use Rattle.fetch_refs.specs.Answers.{is_memory}
use Rattle.fetch_refs.specs.declared.error.RefError.{RefError}
use Rattle.fetch_refs.specs.Peeled.{resolved, and_then, through}
use Rattle.fetch_refs.specs.Targets.{seen}
use Rattle.fetch_check.specs.Finding.{cause_in, cause_of, end_of}
use Rattle.fetch_check.proofs.breaking.cause.Goals as goal

-- what holds unless an error is free
unless_free : (b : Bool) (P Q : Type 0) → (P → Q) → OnFalse b P → OnFalse b Q
unless_free true P Q f h = tt
unless_free false P Q f h = f h

freely : (b : Bool) (P : Type 0) → P → OnFalse b P
freely true P h = tt
freely false P h = h

as_told : (expected found : Result ObjectId RefError) → found ≡ expected → AnswersUnless is_memory expected found
as_told expected (Ok id) is = sym is
as_told expected (Err e) is = freely (is_memory e) (expected ≡ Err e) (sym is)

pub returns-in-Object-clause-cause : goal.returns-in-Object-clause-cause
returns-in-Object-clause-cause c = c.unstored.ensures ∙ sym (ap (λ t. cause_of c.args.refs.now.names c.args.store.now.objects (c.args.name.now, seen t)) c.in-Object.is)

pub returns-in-Ok-clause-cause : goal.returns-in-Ok-clause-cause
returns-in-Ok-clause-cause c =
    let names = c.args.refs.now.names in
    let objects = c.args.store.now.objects in
    let graph = graph_of objects in
    let name = c.args.name.now in
    let end = end_of names graph (name, seen c.args.target) in
    let answers : AnswersUnless is_memory end c.peel.result = as_told end c.peel.result (c.peel.ensures.answer ∙ ap (λ r. and_then r (through graph (map.len graph) [])) (sym c.in-Ok.ensures.answer)) in
    let same : cause_in objects end ≡ cause_of names objects (name, seen c.args.target) =
    ap (λ t. cause_in objects (end_of names graph (name, seen t))) c.in-Symbolic.is ∙ sym (ap (λ t. cause_of names objects (name, seen t)) c.in-Symbolic.is) in
    subst (λ x. IfOk c.told.result (λ cause. cause ≡ x)) same (c.told.ensures end answers)

pub returns-in-Err-clause-cause : goal.returns-in-Err-clause-cause
returns-in-Err-clause-cause c =
    let names = c.args.refs.now.names in
    let objects = c.args.store.now.objects in
    let graph = graph_of objects in
    let name = c.args.name.now in
    let end = end_of names graph (name, seen c.args.target) in
    let answers : OnFalse (is_memory c.in-Err.e) (end ≡ Err c.in-Err.e) =
    unless_free (is_memory c.in-Err.e) (resolved names name (seen c.args.target) ≡ Err c.in-Err.e) (end ≡ Err c.in-Err.e) (λ is. ap (λ r. and_then r (through graph (map.len graph) [])) is) c.in-Err.ensures.answer in
    let same : cause_in objects end ≡ cause_of names objects (name, seen c.args.target) =
    ap (λ t. cause_in objects (end_of names graph (name, seen t))) c.in-Symbolic.is ∙ sym (ap (λ t. cause_of names objects (name, seen t)) c.in-Symbolic.is) in
    subst (λ x. IfOk c.told-in-Err.result (λ cause. cause ≡ x)) same (c.told-in-Err.ensures end answers)
