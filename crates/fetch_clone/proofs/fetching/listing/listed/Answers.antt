use Rattle.std.proofs.Common.{◌≡◌, ◌≤◌, true, false, refl, sym, ap, arith, ◌∙◌, inl, inr}
use Rattle.std.proofs.lemmas.Result.{err_from_is_err_and, IfErr-weaker, IfOk-weaker, on_ok_weaker}
use Rattle.fetch_base.specs.Faults.{Counts, Counts-then, Rose, Rose-earlier}
use Rattle.fetch_conversation.specs.declared.prepare.Error.TheVariants as prepare
use Rattle.fetch_conversation.specs.declared.ref_map.Error.TheVariants as ref_map
use Rattle.fetch_remote.specs.Connecting.{out_after}
use Rattle.fetch_clone.specs.Blame.{lost_listing, stopped_listing}
use Rattle.fetch_clone.proofs.Blamed.{is-preparing, maker-unlent, stop-unlent}
use Rattle.fetch_clone.proofs.Counted.{conflict-quiet}
use Rattle.fetch_clone.proofs.Heeded.{heeded-behind, says-then}
use Rattle.fetch_clone.proofs.fetching.listing.listed.Goals as goal

pub returns-in_err-place-clause-refused : goal.returns-in_err-place-clause-refused
returns-in_err-place-clause-refused g c =
    let p = err_from_is_err_and c.from_residual.result c.from_residual.ensures.1 in
    rw (p.1, p.2) (record { by = inl (inl (inl refl)) })

pub returns-in_err-options-clause-refused : goal.returns-in_err-options-clause-refused
returns-in_err-options-clause-refused g c =
    let p = err_from_is_err_and c.from_residual-in_err-options.result c.from_residual-in_err-options.ensures.1 in
    rw (p.1, p.2) (record { by = inl (inl (inl refl)) })

pub returns-in_err-peer-clause-refused : goal.returns-in_err-peer-clause-refused
returns-in_err-peer-clause-refused g c =
    let p = err_from_is_err_and c.from_residual-in_err-peer.result c.from_residual-in_err-peer.ensures.1 in
    rw (p.1, p.2) (record { by = inl (inl c.in_err-peer.ensures.refused) })

pub returns-in-Ok-clause-listed : goal.returns-in-Ok-clause-listed
returns-in-Ok-clause-listed g c =
    rw c.in-Ok.ensures.kept (
      (record {
        with_head = true;
        first = c.in_ok-peer.peer;
        by = (c.in_ok-peer.ensures.reached, record { options = c.in_ok-options.options; asks = rw (c.as_bytes.ensures, c.in_ok-place.ensures) at c.in_ok-options.ensures; listed = c.in-Ok.ensures.listed; usual = c.in-Ok.ensures.usual });
      }),
      c.in-Ok.ensures.heeded,
    )

pub returns-clause-refused : goal.returns-clause-refused
returns-clause-refused g c =
    record {
      by = inl (inr (
        c.in-Err.e,
        c.from.ensures,
        record {
          between = _;
          peer = c.in_ok-peer.peer;
          reached = c.in_ok-peer.ensures.reached;
          last = c.in-Err.ensures.broke.0;
          broke = record { options = c.in_ok-options.options; asks = rw (c.as_bytes.ensures, c.in_ok-place.ensures) at c.in_ok-options.ensures; broke = c.in-Err.ensures.broke.1 };
          returned = record { given = c.in-Err.ensures.broke.2; same_left = c.in-Err.ensures.left; same_addresses = c.in-Err.ensures.addresses; same_closure = refl };
        },
        rw (c.as_bytes-in-Err.ensures, c.in_ok-place.ensures) at (sym c.is_head_conflict.ensures ∙ c.if-is_head_conflict.false),
      ));
    }

pub returns-then-is_head_conflict-clause-listed : goal.returns-then-is_head_conflict-clause-listed
returns-then-is_head_conflict-clause-listed g c =
    IfOk-weaker c.listed_again.result _ _
    (λ found h. (
      (record {
        with_head = false;
        first = h.0.first;
        by = (
          _,
          record {
            cause = c.in-Err.e;
            conflict = rw (c.as_bytes-in-Err.ensures, c.in_ok-place.ensures) at (sym c.is_head_conflict.ensures ∙ c.if-is_head_conflict.true);
            broke = record {
              between = _;
              peer = c.in_ok-peer.peer;
              reached = c.in_ok-peer.ensures.reached;
              last = c.in-Err.ensures.broke.0;
              broke = record { options = c.in_ok-options.options; asks = rw (c.as_bytes.ensures, c.in_ok-place.ensures) at c.in_ok-options.ensures; broke = c.in-Err.ensures.broke.1 };
              returned = record { given = c.in-Err.ensures.broke.2; same_left = c.in-Err.ensures.left; same_addresses = c.in-Err.ensures.addresses; same_closure = refl };
            };
          },
          record { next = h.0.made; at = h.0.at; kept = h.0.kept },
          h.0.lists,
          refl,
        );
      }),
      heeded-behind _ _ _ _ _ (c.in-Err.ensures.noes (conflict-quiet (Unit {0}) _ c.in-Err.e (sym c.is_head_conflict.ensures ∙ c.if-is_head_conflict.true))) h.1,
    ))
    c.listed_again.ensures.listed

pub returns-then-is_head_conflict-clause-refused : goal.returns-then-is_head_conflict-clause-refused
returns-then-is_head_conflict-clause-refused g c =
    IfErr-weaker c.listed_again.result _ _
    (λ e h. record {
      by = inr (record {
        between = _;
        failed = _;
        earlier = rw c.in-Err.ensures.faults c.in_ok-peer.ensures.counts;
        conflicting = record {
          cause = c.in-Err.e;
          conflict = rw (c.as_bytes-in-Err.ensures, c.in_ok-place.ensures) at (sym c.is_head_conflict.ensures ∙ c.if-is_head_conflict.true);
          broke = record {
            between = _;
            peer = c.in_ok-peer.peer;
            reached = c.in_ok-peer.ensures.reached;
            last = c.in-Err.ensures.broke.0;
            broke = record { options = c.in_ok-options.options; asks = rw (c.as_bytes.ensures, c.in_ok-place.ensures) at c.in_ok-options.ensures; broke = c.in-Err.ensures.broke.1 };
            returned = record { given = c.in-Err.ensures.broke.2; same_left = c.in-Err.ensures.left; same_addresses = c.in-Err.ensures.addresses; same_closure = refl };
          };
        };
        why = h;
        same_closure = refl;
      });
    })
    c.listed_again.ensures.refused

-- ---- who is blamed

pub returns-in_err-place-clause-maker : goal.returns-in_err-place-clause-maker
returns-in_err-place-clause-maker g c =
    let p = err_from_is_err_and c.from_residual.result c.from_residual.ensures.1 in
    rw (p.1, p.2) (maker-unlent _ _ _ _ _ (λ is. cc))

pub returns-in_err-place-clause-interrupt : goal.returns-in_err-place-clause-interrupt
returns-in_err-place-clause-interrupt g c =
    let p = err_from_is_err_and c.from_residual.result c.from_residual.ensures.1 in
    rw (p.1, p.2) (stop-unlent _ _ _ _ _ _ (λ is. cc))

pub returns-in_err-options-clause-maker : goal.returns-in_err-options-clause-maker
returns-in_err-options-clause-maker g c =
    let p = err_from_is_err_and c.from_residual-in_err-options.result c.from_residual-in_err-options.ensures.1 in
    rw (p.1, p.2) (maker-unlent _ _ _ _ _ (λ is. cc))

pub returns-in_err-options-clause-interrupt : goal.returns-in_err-options-clause-interrupt
returns-in_err-options-clause-interrupt g c =
    let p = err_from_is_err_and c.from_residual-in_err-options.result c.from_residual-in_err-options.ensures.1 in
    rw (p.1, p.2) (stop-unlent _ _ _ _ _ _ (λ is. cc))

pub returns-in_err-peer-clause-maker : goal.returns-in_err-peer-clause-maker
returns-in_err-peer-clause-maker g c =
    let p = err_from_is_err_and c.from_residual-in_err-peer.result c.from_residual-in_err-peer.ensures.1 in
    rw (p.1, p.2)
    (record {
      counts = c.in_err-peer.ensures.counts;
      out_is = c.in_err-peer.ensures.out;
      lost = c.in_err-peer.ensures.lost;
      cause = λ is. (let e : c.in_err-peer.field-0.0 ≡ lost_listing = cc in absurd (rw e at c.in_err-peer.ensures.refused));
    })

pub returns-in_err-peer-clause-interrupt : goal.returns-in_err-peer-clause-interrupt
returns-in_err-peer-clause-interrupt g c =
    let p = err_from_is_err_and c.from_residual-in_err-peer.result c.from_residual-in_err-peer.ensures.1 in
    rw (p.1, p.2) (stop-unlent _ _ _ _ _ _ (λ is. (let e : c.in_err-peer.field-0.0 ≡ stopped_listing = is in rw e at c.in_err-peer.ensures.refused)))

pub returns-in-Ok-clause-maker : goal.returns-in-Ok-clause-maker
returns-in-Ok-clause-maker g c =
    let earlier = c.in_ok-peer.ensures.lost in
    rw c.in-Ok.ensures.kept (record { counts = c.in_ok-peer.ensures.counts; out_is = c.in_ok-peer.ensures.out; lost = earlier; cause = λ is. absurd (cc) })

pub returns-in-Ok-clause-interrupt : goal.returns-in-Ok-clause-interrupt
returns-in-Ok-clause-interrupt g c = record { counts = c.in-Ok.ensures.asked; cause = λ is. absurd (cc); quiet = c.in-Ok.ensures.quiet refl; noes = c.in-Ok.ensures.noes refl }

pub returns-clause-maker : goal.returns-clause-maker
returns-clause-maker g c =
    let counts : Counts (g.C.Connect.faults c.args.maker.now) (g.C.Connect.faults c.listed_by.new.maker) = rw c.in-Err.ensures.faults c.in_ok-peer.ensures.counts in
    let out : g.C.Connect.out c.listed_by.new.maker ≡ g.C.Connect.out c.args.maker.now = omega (arith, c.in-Err.ensures.out, c.in_ok-peer.ensures.out) in
    let earlier = c.in_ok-peer.ensures.lost in
    let here = c.in-Err.ensures.lost in
    let lost : (g.C.Connect.lost c.args.maker.now).count ≤ (g.C.Connect.lost c.listed_by.new.maker).count = omega (arith, earlier, here) in
    record {
      counts = counts;
      out_is = out;
      lost = lost;
      cause = λ is. (
          let told : c.from.result ≡ lost_listing = cc in
          let e = is-preparing c.in-Err.e (prepare.RefMap ref_map.Transport) (sym c.from.ensures ∙ told) in
          let rose = c.in-Err.ensures.transport (rw e refl) in
          let risen : Rose (g.C.Connect.lost c.args.maker.now) (g.C.Connect.lost c.listed_by.new.maker) = omega (arith, rose, earlier) in
          risen
          );
    }

pub returns-clause-interrupt : goal.returns-clause-interrupt
returns-clause-interrupt g c =
    record {
      counts = c.in-Err.ensures.asked;
      cause = λ is. (
          let told : c.from.result ≡ stopped_listing = cc in
          let e = is-preparing c.in-Err.e (prepare.RefMap ref_map.Interrupted) (sym c.from.ensures ∙ told) in
          c.in-Err.ensures.interrupted (rw e refl)
          );
      quiet = tt;
      noes = tt;
    }

pub returns-then-is_head_conflict-clause-maker : goal.returns-then-is_head_conflict-clause-maker
returns-then-is_head_conflict-clause-maker g c =
    let again = c.listed_again.ensures.maker in
    let still : g.C.Connect.out c.listed_by.new.maker ≡ g.C.Connect.out c.args.maker.now = omega (arith, c.in-Err.ensures.out, c.in_ok-peer.ensures.out) in
    let earlier = c.in_ok-peer.ensures.lost in
    let here = c.in-Err.ensures.lost in
    let there : (g.C.Connect.lost c.listed_by.new.maker).count ≤ (g.C.Connect.lost c.listed_again.new.maker).count = again.lost in
    let lost : (g.C.Connect.lost c.args.maker.now).count ≤ (g.C.Connect.lost c.listed_again.new.maker).count = omega (arith, earlier, here, there) in
    record {
      counts = Counts-then (g.C.Connect.faults c.args.maker.now) (g.C.Connect.faults c.listed_by.new.maker) (g.C.Connect.faults c.listed_again.new.maker) (rw c.in-Err.ensures.faults c.in_ok-peer.ensures.counts) again.counts;
      out_is = again.out_is ∙ ap (out_after c.listed_again.result) still;
      lost = lost;
      cause = λ is. (
          let rose : Rose (g.C.Connect.lost c.listed_by.new.maker) (g.C.Connect.lost c.listed_again.new.maker) = again.cause is in
          let risen : Rose (g.C.Connect.lost c.args.maker.now) (g.C.Connect.lost c.listed_again.new.maker) = omega (arith, rose, here, earlier) in
          risen
          );
    }

pub returns-then-is_head_conflict-clause-interrupt : goal.returns-then-is_head_conflict-clause-interrupt
returns-then-is_head_conflict-clause-interrupt g c =
    let again = c.listed_again.ensures.interrupt in
    let quiet = conflict-quiet (Unit {0}) _ c.in-Err.e (sym c.is_head_conflict.ensures ∙ c.if-is_head_conflict.true) in
    record {
      counts = Counts-then (g.I.Interrupt.yes c.args.interrupt.now) (g.I.Interrupt.yes c.listed_by.new.interrupt) (g.I.Interrupt.yes c.listed_again.new.interrupt) c.in-Err.ensures.asked again.counts;
      cause = λ is. Rose-earlier (g.I.Interrupt.yes c.args.interrupt.now) (g.I.Interrupt.yes c.listed_by.new.interrupt) (g.I.Interrupt.yes c.listed_again.new.interrupt) c.in-Err.ensures.asked (again.cause is);
      quiet = on_ok_weaker c.listed_again.result (λ same. same ∙ c.in-Err.ensures.quiet quiet) again.quiet;
      noes = on_ok_weaker c.listed_again.result (λ no. says-then _ _ _ (c.in-Err.ensures.noes quiet) no) again.noes;
    }
