use Rattle.std.proofs.Common.{◌++◌, sym, ap, ◌∙◌}
use Rattle.std.specs.Prelude.{codes}
use Rattle.fetch_init.specs.NamedRefs.{named}
use Rattle.fetch_init.proofs.NamedRefs.{second}
use Rattle.fetch_init.proofs.named_ref.branch_or_tag.Goals as goal

pub returns-in_ok-behind-in-None : goal.returns-in_ok-behind-in-None
returns-in_ok-behind-in-None c =
    let m = c.args.mappings.now in
    second c.named.result (named m (codes "refs/heads/" ++ c.args.wanted.now)) (named m (codes "refs/tags/" ++ c.args.wanted.now)) c.named-in-None.result c.in-None.is
    (sym (c.named.ensures ∙ ap (named m) c.in_ok-behind.ensures)) (c.named-in-None.ensures ∙ ap (named m) c.in_ok-behind-in-None.ensures)
