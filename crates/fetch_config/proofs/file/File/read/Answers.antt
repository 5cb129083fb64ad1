use Rattle.std.proofs.Common.{sym, subst}
use Rattle.fetch_config.specs.Kept.{AreKept}
use Rattle.fetch_config.proofs.KeptLines.{kept-sections_of}
use Rattle.fetch_config.proofs.file.File.read.Goals as goal

pub invariant_of-result : goal.invariant_of-result
invariant_of-result c = subst AreKept (sym c.in_ok-sections.ensures.sections) (kept-sections_of c.args.meta c.args.bytes.now)
