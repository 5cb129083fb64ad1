use Rattle.std.proofs.Common.{◌≡◌, ◌++◌, length}
use Rattle.fetch_serve.proofs.Lines.{bands_text}
use Rattle.fetch_serve.proofs.bands.append_bands.Given as goal

abbrev pub invariant-bands : goal.invariant-bands
invariant-bands l = l.out.items ++ bands_text l.rest ≡ l.fn.out.items ++ bands_text l.pack

abbrev pub decreases-bands : goal.decreases-bands
decreases-bands l = length l.rest
