use Rattle.std.proofs.Common.{◌≡◌, refl, subst}
use Rattle.std.proofs.RetainMut.{Called-Mut}
use Rattle.std.proofs.lemmas.Result.{err_from_is_err_and}
use Rattle.std.specs.Fn.{CalledAtMut}
use Rattle.std.specs.Prelude.{slice_get}
use Rattle.fetch_clone.specs.Reached.{IsTurnedAway, line, ways}
use Rattle.fetch_clone.proofs.Answered.{none-at, none-made, same-line, turned, unreached}
use Rattle.fetch_clone.proofs.fetching.reaching.reached.Goals as goal

pub returns-in_err-peer-clause-refused : goal.returns-in_err-peer-clause-refused
returns-in_err-peer-clause-refused g c =
    let p = err_from_is_err_and c.from_residual.result c.from_residual.ensures.1 in
    let before = line (g.C.Connect.left c.args.maker.now) (g.C.Connect.taken c.args.maker.now) (g.C.Connect.addresses c.args.maker.now) c.args.configure.now in
    let after = line (g.C.Connect.left c.connect.new.maker) (g.C.Connect.taken c.connect.new.maker) (g.C.Connect.addresses c.connect.new.maker) c.args.configure.now in
    let url = slice_get c.args.remote.now.urls 0 in
    let none : after ≡ before = same-line _ _ _ _ _ _ c.args.configure.now (none-made _ _ c.in_err-peer.field-0.0 c.in_err-peer.ensures.left) c.in_err-peer.ensures.taken (none-at _ _ _ _ c.in_err-peer.field-0.0 c.in_err-peer.ensures.address) in
    rw (p.1, p.2)
    (unreached _ (IsTurnedAway (ways (CalledAtMut g.G.FnMut) g.C.Peer.Peer.told g.C.Peer.Peer.answers) url before after) (after ≡ before) (g.C.Connect.faults c.args.maker.now) (g.C.Connect.faults c.connect.new.maker) url c.in_err-peer.field-0.0
    none c.in_err-peer.ensures.missing (λ is. c.in_err-peer.ensures.cause (rw is refl)))

pub returns-in-Ok-clause-reached : goal.returns-in-Ok-clause-reached
returns-in-Ok-clause-reached g c =
    record {
      made = c.in_ok-peer.peer;
      next = record { next = c.in_ok-peer.ensures.left; at = c.in_ok-peer.ensures.address; kept = c.in_ok-peer.ensures.taken };
      agreed = subst (λ r. CalledAtMut g.G.FnMut c.args.configure.now c.in_ok-peer.peer r c.configure.new.self c.configure.new.arg2) c.in-Ok.is (Called-Mut g.G.FnMut c.configure.ensures);
    }

pub returns-in-Err-clause-refused : goal.returns-in-Err-clause-refused
returns-in-Err-clause-refused g c =
    rw c.turned_away.ensures
    (turned _ _ (g.C.Connect.faults c.args.maker.now) (g.C.Connect.faults c.take_back.new.self) _ _ _ c.in_ok-peer.peer c.configure.new.arg2 c.in-Err.fault (rw c.take_back.ensures.left c.in_ok-peer.ensures.left) (rw c.take_back.ensures.addresses c.in_ok-peer.ensures.address)
    (subst (λ r. CalledAtMut g.G.FnMut c.args.configure.now c.in_ok-peer.peer r c.configure.new.self c.configure.new.arg2) c.in-Err.is (Called-Mut g.G.FnMut c.configure.ensures))
    (rw c.in_ok-peer.ensures.taken at c.take_back.ensures.taken))
