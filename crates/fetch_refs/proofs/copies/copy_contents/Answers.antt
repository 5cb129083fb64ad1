use Rattle.fetch_refs.proofs.Sifted.{held-names, held-list, held-logs, all_three}
use Rattle.fetch_refs.proofs.copies.copy_contents.Goals as goal

pub returns : goal.returns
returns c =
    all_three c.args.contents.now.hash
    (held-names c.args.contents.now.names.entries _ c.copy_names.ensures.ordered c.in_ok-copy_names.ensures.copied c.in_ok-copy_names.ensures.entries)
    (held-logs c.args.contents.now.logs.entries _ c.copy_logs.ensures.ordered c.in_ok-copy_logs.ensures.copied c.in_ok-copy_logs.ensures.entries)
    (held-list c.args.contents.now.names.entries _ c.copy_names.ensures.ordered c.in_ok-copy_names.ensures.copied c.in_ok-copy_names.ensures.entries)
