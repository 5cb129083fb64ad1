use Rattle.fetch_mirror.proofs.Opened.{opened_so}
use Rattle.fetch_mirror.proofs.opening.empty_mirror.Goals as goal

pub returns-in-Ok : goal.returns-in-Ok
returns-in-Ok c =
    let state = rw (c.new.ensures, c.new-2.ensures, c.new-3.ensures) at c.in-Ok.ensures.state in
    let setup = rw (c.new.ensures, c.in_ok-read.ensures, c.in_ok-new.ensures, c.new-5.ensures, c.in_ok-read-2.ensures) at c.in-Ok.ensures.setup in
    opened_so c.args.kind c.args.committer c.in-Ok.repo state setup
