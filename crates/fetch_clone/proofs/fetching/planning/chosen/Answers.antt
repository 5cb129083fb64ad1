use Rattle.std.proofs.Common.{◌≡◌, Err, subst}
use denote.Param.Members.{Called}
use Rattle.fetch_clone.specs.declared.prepare_fetch.ConfigureFault.TheVariants as faults
use Rattle.fetch_clone.proofs.fetching.planning.chosen.Goals as goal

pub returns-in_ok-restricted-in-Ok-clause-chosen : goal.returns-in_ok-restricted-in-Ok-clause-chosen
returns-in_ok-restricted-in-Ok-clause-chosen g c =
    record {
      proposed = c.in_ok-remote.remote;
      proposes = c.in_ok-remote.ensures;
      answer = c.in-Ok.remote;
      agreed = subst (λ r. Called g.R.FnMut c.args.configure.now (c.in_ok-remote.remote, tt) r c.configure.new.self) c.in-Ok.is c.configure.ensures;
      restricts = c.in_ok-restricted-in-Ok.ensures;
    }

pub returns-in-Err-Refused-clause-refused : goal.returns-in-Err-Refused-clause-refused
returns-in-Err-Refused-clause-refused g c =
    let is = c.in-Err-Refused.is in
    let kind = c.in-Err-Refused.field-0-is in
    let e : c.configure.result ≡ Err (faults.Refused c.in-Err-Refused.text) = cc in
    rw kind (record { proposed = c.in_ok-remote.remote; proposes = c.in_ok-remote.ensures; refused = subst (λ r. Called g.R.FnMut c.args.configure.now (c.in_ok-remote.remote, tt) r c.configure.new.self) e c.configure.ensures })
