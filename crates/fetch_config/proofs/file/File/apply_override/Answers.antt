use Rattle.std.proofs.Common.{sym, ap, subst, Some, ◌∙◌}
use Rattle.std.specs.Option.{option_map}
use Rattle.fetch_config.specs.Kept.{AreKept}
use Rattle.fetch_config.specs.Overridden.{section_of}
use Rattle.fetch_config.proofs.Keeping.{kept-push}
use Rattle.fetch_config.proofs.KeptLines.{kept-override_of}
use Rattle.fetch_config.proofs.file.File.apply_override.Goals as goal

pub invariant_of-self-2 : goal.invariant_of-self-2
invariant_of-self-2 c =
    subst AreKept (sym c.in_ok-push.ensures.items)
    (kept-push c.self.inside.sections.items c.in_ok-section.section c.self.invariant (kept-override_of c.args.text.now c.in_ok-section.section c.in_default-unkept_place.ensures (sym c.override_of.ensures ∙ ap (option_map section_of) c.in-Some.is ∙ ap Some (sym c.in_ok-section.ensures))))
