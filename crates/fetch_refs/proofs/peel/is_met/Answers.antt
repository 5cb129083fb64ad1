use Rattle.std.proofs.Common.{◌≡◌, Bool, true, false, sym, ap, ◌∙◌}
use Rattle.std.specs.Prelude.{◌||◌}
use Rattle.std.specs.Str.{bytes_eq}
use Rattle.fetch_refs.specs.Peeled.{is_met}
use Rattle.fetch_refs.proofs.peel.is_met.Goals as goal

pub returns-then-eq : goal.returns-then-eq
returns-then-eq c =
    λ way end leads count.
    let here : true ≡ bytes_eq c.args.first.now c.args.name.now = sym c.if-eq.true ∙ c.eq.ensures ∙ ap (bytes_eq c.args.first.now) c.as_bytes.ensures.bytes in
    ap (λ (t : Bool). t || is_met way c.args.name.now) here

pub returns : goal.returns
returns c =
    λ way end leads count.
    let other : false ≡ bytes_eq c.args.first.now c.args.name.now = sym c.if-eq.false ∙ c.eq.ensures ∙ ap (bytes_eq c.args.first.now) c.as_bytes.ensures.bytes in
    c.leads_to.ensures way end leads count ∙ ap (λ (t : Bool). t || is_met way c.args.name.now) other
