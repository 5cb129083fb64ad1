use Rattle.std.proofs.Common.{Some, sym, ap, ◌∙◌, arith}
use Rattle.std.specs.Option.{option_and_then}
use Rattle.std.specs.Str.{bytes_eq}
use Rattle.fetch_refs.specs.declared.target.TargetRef.{TargetRef}
use Rattle.fetch_refs.specs.Leading.{name_in, next_name}
use Rattle.fetch_refs.specs.Targets.{seen}
use Rattle.fetch_refs.proofs.Walks.{whole_rest, rest-here, rest-next, rest-none, rest-over}
use Rattle.fetch_refs.proofs.peel.leads_to.Goals as goal

pub names-init : goal.names-init
names-init c = λ way end leads count. whole_rest bytes_eq (next_name c.args.refs.now.names) way c.args.first.now end c.args.name.now c.args.count leads count

pub returns-then-eq : goal.returns-then-eq
returns-then-eq c =
    λ way end leads count.
    rest-here bytes_eq (next_name c.args.refs.now.names) way end c.names.at.now c.names.left c.args.name.now (c.names.invariant way end leads count) c.names-test.true (sym c.eq.ensures ∙ c.if-eq.true)

pub returns-in-None : goal.returns-in-None
returns-in-None c =
    λ way end leads count.
    absurd (rest-none bytes_eq (next_name c.args.refs.now.names) way end c.names.at.now c.names.left c.args.name.now (c.names.invariant way end leads count)
    (ap (option_and_then name_in) (sym c.in-None.ensures)) c.names-test.true)

pub returns-in-Some-Object : goal.returns-in-Some-Object
returns-in-Some-Object c =
    λ way end leads count.
    absurd (rest-none bytes_eq (next_name c.args.refs.now.names) way end c.names.at.now c.names.left c.args.name.now (c.names.invariant way end leads count)
    (ap (option_and_then name_in) (sym c.in-Some-Object.ensures ∙ ap (λ (t : TargetRef). Some (seen t)) c.in-Some-Object.field-0-is)) c.names-test.true)

pub names-preserved : goal.names-preserved
names-preserved c =
    λ way end leads count.
    rest-next bytes_eq (next_name c.args.refs.now.names) way end c.names.at.now c.names.left c.args.name.now (c.names.invariant way end leads count) c.in-Some-Symbolic.target.now c.names-test.true
    (sym c.eq.ensures ∙ c.if-eq.false)
    (ap (option_and_then name_in) (sym c.in-Some-Symbolic.ensures ∙ ap (λ (t : TargetRef). Some (seen t)) c.in-Some-Symbolic.field-0-is))

pub returns : goal.returns
returns c =
    λ way end leads count.
    rest-over bytes_eq (next_name c.args.refs.now.names) way end c.names.at.now c.names.left c.args.name.now (c.names.invariant way end leads count) (λ p. omega (arith, c.names-test.false))
