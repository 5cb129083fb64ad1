use Rattle.std.proofs.Common.{◌≡◌, true, false, [], ◌∷◌, ◌++◌, length-append, Some, refl, sym, ap, ◌∙◌, arith}
use Rattle.std.specs.Option.{option_and_then}
use Rattle.std.specs.Str.{bytes_eq}
use Rattle.fetch_refs.specs.declared.target.TargetRef.{TargetRef}
use Rattle.fetch_refs.specs.Leading.{name_in, next_name}
use Rattle.fetch_refs.specs.Names.{Names}
use Rattle.fetch_refs.specs.Peeled.{is_met}
use Rattle.fetch_refs.specs.Targets.{seen}
use Rattle.fetch_refs.proofs.Walks.{leads_on}
use Rattle.fetch_refs.proofs.Ways.{follow-cycle, follow-depth, follow-some, is_named, same_answer}
use Rattle.fetch_refs.proofs.peel.end_of_names.Goals as goal

pub names-init : goal.names-init
names-init c = ([], refl, refl, refl, omega arith)

pub returns-then-is_met-clause-answer : goal.returns-then-is_met-clause-answer
returns-then-is_met-clause-answer c =
    let names : Names = c.args.refs.now.names in
    let way = c.names.invariant.0 in
    let leads = c.names.invariant.1 in
    let count = c.names.invariant.2 in
    let same = c.names.invariant.3 in
    let few = c.names.invariant.4 in
    let met : is_met (c.args.first.now ∷ way) c.names.name.now ≡ true = sym (c.is_met.ensures way c.names.name.now leads (omega (arith, count))) ∙ c.if-is_met.true in
    same_answer _ _ c.cycle.result (sym same ∙ follow-cycle names (c.args.first.now ∷ way) c.names.name.now c.names.left met) c.cycle.ensures

pub returns-then-is_met-clause-memory : goal.returns-then-is_met-clause-memory
returns-then-is_met-clause-memory c =
    let names : Names = c.args.refs.now.names in
    let way = c.names.invariant.0 in
    let leads = c.names.invariant.1 in
    let count = c.names.invariant.2 in
    let same = c.names.invariant.3 in
    let few = c.names.invariant.4 in
    let met : is_met (c.args.first.now ∷ way) c.names.name.now ≡ true = sym (c.is_met.ensures way c.names.name.now leads (omega (arith, count))) ∙ c.if-is_met.true in
    λ _. is_named _ _ (sym same ∙ follow-cycle names (c.args.first.now ∷ way) c.names.name.now c.names.left met) refl

pub returns-in-None-clause-answer : goal.returns-in-None-clause-answer
returns-in-None-clause-answer c =
    let names : Names = c.args.refs.now.names in
    let way = c.names.invariant.0 in
    let leads = c.names.invariant.1 in
    let count = c.names.invariant.2 in
    let same = c.names.invariant.3 in
    let few = c.names.invariant.4 in
    let met : is_met (c.args.first.now ∷ way) c.names.name.now ≡ false = sym (c.is_met.ensures way c.names.name.now leads (omega (arith, count))) ∙ c.if-is_met.false in
    same_answer _ _ c.unborn.result (sym same ∙ follow-some names (c.args.first.now ∷ way) c.names.name.now c.names.left _ c.names-test.true met (sym c.in-None.ensures)) c.unborn.ensures

pub returns-in-None-clause-memory : goal.returns-in-None-clause-memory
returns-in-None-clause-memory c =
    let names : Names = c.args.refs.now.names in
    let way = c.names.invariant.0 in
    let leads = c.names.invariant.1 in
    let count = c.names.invariant.2 in
    let same = c.names.invariant.3 in
    let few = c.names.invariant.4 in
    let met : is_met (c.args.first.now ∷ way) c.names.name.now ≡ false = sym (c.is_met.ensures way c.names.name.now leads (omega (arith, count))) ∙ c.if-is_met.false in
    λ _. is_named _ _ (sym same ∙ follow-some names (c.args.first.now ∷ way) c.names.name.now c.names.left _ c.names-test.true met (sym c.in-None.ensures)) refl

pub returns-in-Some-Object-clause-answer : goal.returns-in-Some-Object-clause-answer
returns-in-Some-Object-clause-answer c =
    let names : Names = c.args.refs.now.names in
    let way = c.names.invariant.0 in
    let leads = c.names.invariant.1 in
    let count = c.names.invariant.2 in
    let same = c.names.invariant.3 in
    let few = c.names.invariant.4 in
    let met : is_met (c.args.first.now ∷ way) c.names.name.now ≡ false = sym (c.is_met.ensures way c.names.name.now leads (omega (arith, count))) ∙ c.if-is_met.false in
    rw c.in-Some-Object.field-0-is (sym same ∙ follow-some names (c.args.first.now ∷ way) c.names.name.now c.names.left _ c.names-test.true met (sym c.in-Some-Object.ensures ∙ ap (λ (t : TargetRef). Some (seen t)) c.in-Some-Object.field-0-is))

pub names-preserved : goal.names-preserved
names-preserved c =
    let names : Names = c.args.refs.now.names in
    let way = c.names.invariant.0 in
    let leads = c.names.invariant.1 in
    let count = c.names.invariant.2 in
    let same = c.names.invariant.3 in
    let few = c.names.invariant.4 in
    let met : is_met (c.args.first.now ∷ way) c.names.name.now ≡ false = sym (c.is_met.ensures way c.names.name.now leads (omega (arith, count))) ∙ c.if-is_met.false in
    let n = length-append way (c.names.name.now ∷ []) in
    let some = c.names-test.true in (
      way ++ c.names.name.now ∷ [],
      rw c.in-Some-Symbolic.field-0-is (leads_on bytes_eq (next_name names) way c.args.next.now c.names.name.now c.in-Some-Symbolic.target.now leads (ap (option_and_then name_in) (sym c.in-Some-Symbolic.ensures ∙ ap (λ (t : TargetRef). Some (seen t)) c.in-Some-Symbolic.field-0-is))),
      omega (arith, n, count, some),
      rw c.in-Some-Symbolic.field-0-is (sym (follow-some names (c.args.first.now ∷ way) c.names.name.now c.names.left _ c.names-test.true met (sym c.in-Some-Symbolic.ensures ∙ ap (λ (t : TargetRef). Some (seen t)) c.in-Some-Symbolic.field-0-is)) ∙ same),
      omega (arith, few),
    )

pub returns-then-is_met-2-clause-answer : goal.returns-then-is_met-2-clause-answer
returns-then-is_met-2-clause-answer c =
    let names : Names = c.args.refs.now.names in
    let way = c.names.invariant.0 in
    let leads = c.names.invariant.1 in
    let count = c.names.invariant.2 in
    let same = c.names.invariant.3 in
    let few = c.names.invariant.4 in
    let over = c.names-test.false in
    let met : is_met (c.args.first.now ∷ way) c.names.name.now ≡ true = sym (c.is_met-2.ensures way c.names.name.now leads (omega (arith, count, over))) ∙ c.if-is_met-2.true in
    same_answer _ _ c.cycle-then-is_met-2.result (sym same ∙ follow-cycle names (c.args.first.now ∷ way) c.names.name.now c.names.left met) c.cycle-then-is_met-2.ensures

pub returns-then-is_met-2-clause-memory : goal.returns-then-is_met-2-clause-memory
returns-then-is_met-2-clause-memory c =
    let names : Names = c.args.refs.now.names in
    let way = c.names.invariant.0 in
    let leads = c.names.invariant.1 in
    let count = c.names.invariant.2 in
    let same = c.names.invariant.3 in
    let few = c.names.invariant.4 in
    let over = c.names-test.false in
    let met : is_met (c.args.first.now ∷ way) c.names.name.now ≡ true = sym (c.is_met-2.ensures way c.names.name.now leads (omega (arith, count, over))) ∙ c.if-is_met-2.true in
    λ _. is_named _ _ (sym same ∙ follow-cycle names (c.args.first.now ∷ way) c.names.name.now c.names.left met) refl

pub returns-clause-answer : goal.returns-clause-answer
returns-clause-answer c =
    let names : Names = c.args.refs.now.names in
    let way = c.names.invariant.0 in
    let leads = c.names.invariant.1 in
    let count = c.names.invariant.2 in
    let same = c.names.invariant.3 in
    let few = c.names.invariant.4 in
    let over = c.names-test.false in
    let met : is_met (c.args.first.now ∷ way) c.names.name.now ≡ false = sym (c.is_met-2.ensures way c.names.name.now leads (omega (arith, count, over))) ∙ c.if-is_met-2.false in
    same_answer _ _ c.too_deep.result (sym same ∙ follow-depth names (c.args.first.now ∷ way) c.names.name.now c.names.left (λ p. omega (arith, c.names-test.false)) met) c.too_deep.ensures

pub returns-clause-memory : goal.returns-clause-memory
returns-clause-memory c =
    let names : Names = c.args.refs.now.names in
    let way = c.names.invariant.0 in
    let leads = c.names.invariant.1 in
    let count = c.names.invariant.2 in
    let same = c.names.invariant.3 in
    let few = c.names.invariant.4 in
    let over = c.names-test.false in
    let met : is_met (c.args.first.now ∷ way) c.names.name.now ≡ false = sym (c.is_met-2.ensures way c.names.name.now leads (omega (arith, count, over))) ∙ c.if-is_met-2.false in
    λ _. is_named _ _ (sym same ∙ follow-depth names (c.args.first.now ∷ way) c.names.name.now c.names.left (λ p. omega (arith, c.names-test.false)) met) refl
