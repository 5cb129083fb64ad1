use Rattle.std.proofs.Common.{sym, subst}
use Rattle.fetch_config.specs.Kept.{AreKept}
use Rattle.fetch_config.proofs.Keeping.{kept-remove}
use Rattle.fetch_config.proofs.file.File.remove_section.Goals as goal

pub invariant_of-self : goal.invariant_of-self
invariant_of-self c = subst AreKept (sym c.remove.ensures.items) (kept-remove c.self.inside.sections.items c.args.index c.self.invariant)
