use Rattle.std.proofs.Common.{◌++◌, codes}
use Rattle.fetch_lines.specs.Requests.{text_line}
use Rattle.fetch_serve.specs.Replies.{too_large}
use Rattle.fetch_serve.proofs.Appending.{line_is, on_ok}
use Rattle.fetch_serve.proofs.fetching.append_too_large.Goals as goal

pub returns : goal.returns
unfolding too_large
returns c = on_ok c.append_line.result _ _ (line_is (text_line (codes "ERR " ++ too_large)) c.args.out.now.items c.append_line.new.out.items) c.append_line.ensures
