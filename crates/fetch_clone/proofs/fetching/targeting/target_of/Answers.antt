use Rattle.std.proofs.Common.{◌≡◌, ◌≤◌, refl, inl, inr, arith}
use Rattle.std.proofs.lemmas.Result.{err_from_is_err_and}
use Rattle.std.proofs.lemmas.Bool.{false≢true}
use Rattle.fetch_base.specs.Faults.{Counts, Rose}
use Rattle.fetch_conversation.specs.declared.ref_map.Error.TheVariants as ref_map
use Rattle.fetch_init.specs.declared.clone.fetch.Error.TheVariants as errors
use Rattle.fetch_clone.proofs.Answered.{is-listing}
use Rattle.fetch_clone.proofs.Blamed.{maker-unlent, stop-unlent}
use Rattle.fetch_clone.proofs.Counted.{at-ok}
use Rattle.fetch_clone.proofs.Heeded.{heeded-of, says-of}
use Rattle.fetch_clone.proofs.Returned.{lost_later, lost_rose}
use Rattle.fetch_clone.proofs.Uncounted.{target-uncounted}
use Rattle.fetch_clone.proofs.Targeting.{find_head_target-at, not-find_head_target-at, unlisted}
use Rattle.fetch_clone.proofs.fetching.targeting.target_of.Goals as goal

pub returns-in_err-remote-clause-refused : goal.returns-in_err-remote-clause-refused
returns-in_err-remote-clause-refused g c =
    let p = err_from_is_err_and c.from_residual.result c.from_residual.ensures.1 in
    rw (p.1, p.2) (inl (inl refl))

pub returns-in_err-options-clause-refused : goal.returns-in_err-options-clause-refused
returns-in_err-options-clause-refused g c =
    let p = err_from_is_err_and c.from_residual-in_err-options.result c.from_residual-in_err-options.ensures.1 in
    rw (p.1, p.2) (inl (inl refl))

pub returns-in_err-peer-clause-refused : goal.returns-in_err-peer-clause-refused
returns-in_err-peer-clause-refused g c =
    let p = err_from_is_err_and c.from_residual-in_err-peer.result c.from_residual-in_err-peer.ensures.1 in
    rw (p.1, p.2) (inl (rw (c.in_ok-remote.ensures, c.as_bytes.ensures) at c.in_err-peer.ensures.refused))

pub returns-in_err-map-clause-refused : goal.returns-in_err-map-clause-refused
returns-in_err-map-clause-refused g c =
    let p = err_from_is_err_and c.from_residual-in_err-map.result c.from_residual-in_err-map.ensures.1 in
    rw (p.1, p.2) (inr (inl (c.in_err-map.field-0.0, refl, unlisted _ (g.C.Connect.faults c.args.maker.now) (g.C.Connect.faults c.take_back.new.self) _ _ _ c.args.draft.now c.args.repo.now c.in_ok-remote.remote c.in_ok-options.options c.in_ok-peer.peer c.inquired-listed.new.peer c.in_ok-options.ensures (rw c.as_bytes.ensures at c.in_ok-remote.ensures) (rw (c.in_ok-remote.ensures, c.as_bytes.ensures) at c.in_ok-peer.ensures.reached) c.take_back.ensures.taken c.take_back.ensures.left c.take_back.ensures.addresses refl c.in_err-map.field-0.0 c.in_err-map.ensures.refused)))

pub returns-clause-target : goal.returns-clause-target
returns-clause-target g c = find_head_target-at _ (g.C.Connect.faults c.args.maker.now) (g.C.Connect.faults c.take_back.new.self) _ _ _ c.args.draft.now c.args.repo.now c.in_ok-remote.remote c.in_ok-options.options c.in_ok-peer.peer c.inquired-listed.new.peer c.in_ok-options.ensures (rw c.as_bytes.ensures at c.in_ok-remote.ensures) (rw (c.in_ok-remote.ensures, c.as_bytes.ensures) at c.in_ok-peer.ensures.reached) c.take_back.ensures.taken c.take_back.ensures.left c.take_back.ensures.addresses refl _ c.in_ok-map.ensures.listed _ _ (heeded-of _ _ _ _ _ _ _ refl c.in_ok-map.ensures.interrupt) c.head_target_name.result (rw c.ref_name.ensures at c.head_target_name.ensures.target)

pub returns-clause-refused : goal.returns-clause-refused
returns-clause-refused g c = not-find_head_target-at _ (g.C.Connect.faults c.args.maker.now) (g.C.Connect.faults c.take_back.new.self) _ _ _ c.args.draft.now c.args.repo.now c.in_ok-remote.remote c.in_ok-options.options c.in_ok-peer.peer c.inquired-listed.new.peer c.in_ok-options.ensures (rw c.as_bytes.ensures at c.in_ok-remote.ensures) (rw (c.in_ok-remote.ensures, c.as_bytes.ensures) at c.in_ok-peer.ensures.reached) c.take_back.ensures.taken c.take_back.ensures.left c.take_back.ensures.addresses refl _ c.in_ok-map.ensures.listed c.head_target_name.result (rw c.ref_name.ensures at c.head_target_name.ensures.refused)

-- ---- who is blamed

pub returns-in_err-remote-clause-maker : goal.returns-in_err-remote-clause-maker
returns-in_err-remote-clause-maker g c =
    let p = err_from_is_err_and c.from_residual.result c.from_residual.ensures.1 in
    rw (p.1, p.2) (maker-unlent _ _ _ _ _ (λ is. cc))

pub returns-in_err-remote-clause-interrupt : goal.returns-in_err-remote-clause-interrupt
returns-in_err-remote-clause-interrupt g c =
    let p = err_from_is_err_and c.from_residual.result c.from_residual.ensures.1 in
    rw (p.1, p.2) (stop-unlent _ _ _ _ _ _ (λ is. cc))

pub returns-in_err-options-clause-maker : goal.returns-in_err-options-clause-maker
returns-in_err-options-clause-maker g c =
    let p = err_from_is_err_and c.from_residual-in_err-options.result c.from_residual-in_err-options.ensures.1 in
    rw (p.1, p.2) (maker-unlent _ _ _ _ _ (λ is. cc))

pub returns-in_err-options-clause-interrupt : goal.returns-in_err-options-clause-interrupt
returns-in_err-options-clause-interrupt g c =
    let p = err_from_is_err_and c.from_residual-in_err-options.result c.from_residual-in_err-options.ensures.1 in
    rw (p.1, p.2) (stop-unlent _ _ _ _ _ _ (λ is. cc))

pub returns-in_err-peer-clause-maker : goal.returns-in_err-peer-clause-maker
returns-in_err-peer-clause-maker g c =
    let p = err_from_is_err_and c.from_residual-in_err-peer.result c.from_residual-in_err-peer.ensures.1 in
    rw (p.1, p.2)
    (record {
      counts = c.in_err-peer.ensures.counts;
      out_is = c.in_err-peer.ensures.out;
      lost = c.in_err-peer.ensures.lost;
      cause = λ is. (let e : c.in_err-peer.field-0.0 ≡ errors.RefMap ref_map.Transport = cc in absurd (rw e at c.in_err-peer.ensures.refused));
    })

pub returns-in_err-peer-clause-interrupt : goal.returns-in_err-peer-clause-interrupt
returns-in_err-peer-clause-interrupt g c =
    let p = err_from_is_err_and c.from_residual-in_err-peer.result c.from_residual-in_err-peer.ensures.1 in
    rw (p.1, p.2) (stop-unlent _ _ _ _ _ _ (λ is. (let e : c.in_err-peer.field-0.0 ≡ errors.RefMap ref_map.Interrupted = is in rw e at c.in_err-peer.ensures.refused)))

pub returns-in_err-map-clause-maker : goal.returns-in_err-map-clause-maker
returns-in_err-map-clause-maker g c =
    let p = err_from_is_err_and c.from_residual-in_err-map.result c.from_residual-in_err-map.ensures.1 in
    let counts : Counts (g.C.Connect.faults c.args.maker.now) (g.C.Connect.faults c.take_back.new.self) = rw c.take_back.ensures.faults c.in_ok-peer.ensures.counts in
    let out : g.C.Connect.out c.take_back.new.self ≡ g.C.Connect.out c.args.maker.now = omega (arith, c.take_back.ensures.out, c.in_ok-peer.ensures.out) in
    let earlier = c.in_ok-peer.ensures.lost in
    let more = lost_later (g.C.Peer.Peer.faults c.inquired-listed.new.peer) (g.C.Connect.lost c.reached.new.maker) in
    let lost : (g.C.Connect.lost c.args.maker.now).count ≤ (g.C.Connect.lost c.take_back.new.self).count = rw c.take_back.ensures.lost (omega (arith, earlier, more)) in
    record {
      counts = counts;
      out_is = out;
      lost = lost;
      cause = λ is. (
          let e : c.in_err-map.field-0.0 ≡ ref_map.Transport = is-listing c.in_err-map.field-0.0 ref_map.Transport (cc (p.1, p.2, is)) in
          let rose = lost_rose (g.C.Peer.Peer.faults c.in_ok-peer.peer) (g.C.Peer.Peer.faults c.inquired-listed.new.peer) (g.C.Connect.lost c.reached.new.maker) (c.in_err-map.ensures.peer.cause (rw e refl)) in
          let risen : Rose (g.C.Connect.lost c.args.maker.now) (g.C.Connect.lost c.take_back.new.self) = rw c.take_back.ensures.lost (omega (arith, rose, earlier)) in
          risen
          );
    }

pub returns-in_err-map-clause-interrupt : goal.returns-in_err-map-clause-interrupt
returns-in_err-map-clause-interrupt g c =
    let p = err_from_is_err_and c.from_residual-in_err-map.result c.from_residual-in_err-map.ensures.1 in
    record {
      counts = c.in_err-map.ensures.interrupt.counts;
      cause = λ is. (
          let e : c.in_err-map.field-0.0 ≡ ref_map.Interrupted = is-listing c.in_err-map.field-0.0 ref_map.Interrupted (cc (p.1, p.2, is)) in
          c.in_err-map.ensures.interrupt.cause (rw e refl)
          );
      quiet = rw p.1 tt;
      noes = rw p.1 tt;
    }

pub returns-clause-maker : goal.returns-clause-maker
returns-clause-maker g c =
    let counts : Counts (g.C.Connect.faults c.args.maker.now) (g.C.Connect.faults c.take_back.new.self) = rw c.take_back.ensures.faults c.in_ok-peer.ensures.counts in
    let out : g.C.Connect.out c.take_back.new.self ≡ g.C.Connect.out c.args.maker.now = omega (arith, c.take_back.ensures.out, c.in_ok-peer.ensures.out) in
    let earlier = c.in_ok-peer.ensures.lost in
    let more = lost_later (g.C.Peer.Peer.faults c.inquired-listed.new.peer) (g.C.Connect.lost c.reached.new.maker) in
    let lost : (g.C.Connect.lost c.args.maker.now).count ≤ (g.C.Connect.lost c.take_back.new.self).count = rw c.take_back.ensures.lost (omega (arith, earlier, more)) in
    record {
      counts = counts;
      out_is = out;
      lost = lost;
      cause = λ is. (let h = rw is at c.head_target_name.ensures.refused in absurd (false≢true (target-uncounted _ _ _ _ h.0 _ h.1 h.2)));
    }

pub returns-clause-interrupt : goal.returns-clause-interrupt
returns-clause-interrupt g c =
    record {
      counts = c.in_ok-map.ensures.interrupt.counts;
      cause = λ is. (let h = rw is at c.head_target_name.ensures.refused in absurd (false≢true (target-uncounted _ _ _ _ h.0 _ h.1 h.2)));
      quiet = at-ok c.head_target_name.result (c.in_ok-map.ensures.interrupt.quiet refl);
      noes = at-ok c.head_target_name.result (says-of _ _ _ _ _ _ _ refl c.in_ok-map.ensures.interrupt);
    }
