use Rattle.std.proofs.Common.{sym, subst}
use Rattle.fetch_config.specs.Kept.{AreKept}
use Rattle.fetch_config.proofs.Keeping.{kept-push, kept-new}
use Rattle.fetch_config.proofs.file.File.push_section.Goals as goal

pub invariant_of-self-2 : goal.invariant_of-self-2
invariant_of-self-2 c =
    subst AreKept (sym c.in_ok-push.ensures.items)
    (kept-push c.self.inside.sections.items c.in_ok-section.section c.self.invariant (kept-new (λ x. x.now) c.args.sub c.args.name.now c.args.meta c.in_ok-section.section c.in_ok-section.ensures.kept c.in_ok-section.ensures.ok))
