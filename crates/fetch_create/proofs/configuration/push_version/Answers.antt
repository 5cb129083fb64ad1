use Rattle.std.proofs.Common.{◌++◌, ap, sym, ◌∙◌}
use Rattle.fetch_create.specs.Configuration as spec
use Rattle.fetch_create.proofs.Appended.{behind}
use Rattle.fetch_create.proofs.configuration.push_version.Goals as goal

pub returns-in_ok-push_entry-in-Sha256-2 : goal.returns-in_ok-push_entry-in-Sha256-2
returns-in_ok-push_entry-in-Sha256-2 c =
    let first = behind _ _ c.args.text.now.items _ c.extend_from_slice.new.self.items c.in_ok-push_entry-in-Sha256.ensures c.in_ok-extend_from_slice-in-Sha256.ensures.items in
    let all = behind _ _ c.args.text.now.items _ c.push_entry-in-Sha256-2.new.text.items first c.in_ok-push_entry-in-Sha256-2.ensures in
    all ∙ ap (λ h. c.args.text.now.items ++ spec.version_in h) (sym c.in-Sha256.is)
