use Rattle.fetch_check.specs.Finding.{broken_of}
use Rattle.fetch_check.proofs.Counts.{told_unbroken}
use Rattle.fetch_check.proofs.whole.is_unbroken.Goals as goal

pub returns : goal.returns
returns c = told_unbroken (broken_of c.args.refs.now.names c.args.store.now.objects) c.in_ok-broken.broken c.is_none.result c.in_ok-broken.ensures c.is_none.ensures
