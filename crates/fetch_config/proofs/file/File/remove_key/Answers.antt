use Rattle.std.proofs.Common.{sym, subst}
use Rattle.fetch_config.specs.Kept.{AreKept}
use Rattle.fetch_config.proofs.Keeping.{kept-without_key}
use Rattle.fetch_config.proofs.file.File.remove_key.Goals as goal

pub invariant_of-self : goal.invariant_of-self
invariant_of-self c = subst AreKept (sym c.remove_entries.ensures) (kept-without_key c.args.key.now c.args.index c.self.inside.sections.items c.self.invariant)
