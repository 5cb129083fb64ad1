use Rattle.std.proofs.Common.{ℕ, ◌++◌, take, drop, ap, ◌∙◌, arith}
use Rattle.fetch_serve.proofs.Lines.{bands_text}
use Rattle.fetch_serve.proofs.Appending.{bands_on, bands_over}
use Rattle.fetch_serve.proofs.bands.append_bands.Goals as goal

pub bands-preserved : goal.bands-preserved
bands-preserved c =
    let rest = c.bands.rest.now in
    bands_on c.bands.out.items c.append_band.new.out.items rest c.split_at.result.0.now c.split_at.result.1.now (c.args.out.now.items ++ bands_text c.args.pack.now) (omega arith)
    (c.split_at.ensures.front ∙ ap (λ (n : ℕ). take n rest) c.min.ensures) (c.split_at.ensures.back ∙ ap (λ (n : ℕ). drop n rest) c.min.ensures) c.bands.invariant c.in_ok-append_band.ensures

pub returns : goal.returns
returns c = bands_over c.bands.out.items c.bands.rest.now (c.args.out.now.items ++ bands_text c.args.pack.now) (omega arith) c.bands.invariant
