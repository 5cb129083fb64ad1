use Rattle.std.proofs.Common.{◌≡◌, ◌≤◌, refl, sym, ◌∙◌, inl, inr, arith}
use Rattle.std.proofs.lemmas.Result.{err_from_is_err_and}
use Rattle.fetch_base.specs.Faults.{Counts, Rose}
use Rattle.fetch_conversation.specs.declared.prepare.Error.TheVariants as prepare
use Rattle.fetch_conversation.specs.declared.ref_map.Error.TheVariants as ref_map
use Rattle.fetch_clone.specs.Blame.{lost_listing, stopped_listing}
use Rattle.fetch_init.specs.Refusals.{connecting}
use Rattle.fetch_clone.proofs.Answered.{none-at, none-made, unreached}
use Rattle.fetch_clone.proofs.Blamed.{is-preparing, maker-unlent, not-preparing, stop-unlent}
use Rattle.fetch_clone.proofs.fetching.listing.listed_again.Goals as goal

pub returns-in_err-place-clause-refused : goal.returns-in_err-place-clause-refused
returns-in_err-place-clause-refused g c =
    let p = err_from_is_err_and c.from_residual.result c.from_residual.ensures.1 in
    rw (p.1, p.2) (record { by = inl (inl (refl, refl, refl)) })

pub returns-in_err-options-clause-refused : goal.returns-in_err-options-clause-refused
returns-in_err-options-clause-refused g c =
    let p = err_from_is_err_and c.from_residual-in_err-options.result c.from_residual-in_err-options.ensures.1 in
    rw (p.1, p.2) (record { by = inl (inl (refl, refl, refl)) })

pub returns-in_err-peer-clause-refused : goal.returns-in_err-peer-clause-refused
returns-in_err-peer-clause-refused g c =
    let p = err_from_is_err_and c.from_residual-in_err-peer.result c.from_residual-in_err-peer.ensures.1 in
    rw (p.1, p.2) (record { by = inl (unreached _ (λ fault. ⊥) ((g.C.Connect.left c.connect.new.maker ≡ g.C.Connect.left c.args.maker.now) × (g.C.Connect.taken c.connect.new.maker ≡ g.C.Connect.taken c.args.maker.now) × (g.C.Connect.addresses c.connect.new.maker ≡ g.C.Connect.addresses c.args.maker.now)) (g.C.Connect.faults c.args.maker.now) (g.C.Connect.faults c.connect.new.maker) _ c.in_err-peer.field-0.0 (none-made _ _ c.in_err-peer.field-0.0 c.in_err-peer.ensures.left, c.in_err-peer.ensures.taken, none-at _ _ _ _ c.in_err-peer.field-0.0 c.in_err-peer.ensures.address) c.in_err-peer.ensures.missing (λ is. c.in_err-peer.ensures.cause (rw is refl))) })

pub returns-in-Ok-clause-listed : goal.returns-in-Ok-clause-listed
returns-in-Ok-clause-listed g c =
    rw c.in-Ok.ensures.kept (
      (record {
        first = c.in_ok-peer.peer;
        made = c.in_ok-peer.ensures.left;
        at = c.in_ok-peer.ensures.address;
        kept = c.in_ok-peer.ensures.taken;
        lists = record { options = c.in_ok-options.options; asks = rw (c.as_bytes.ensures, c.in_ok-place.ensures) at c.in_ok-options.ensures; listed = c.in-Ok.ensures.listed; usual = c.in-Ok.ensures.usual };
      }),
      c.in-Ok.ensures.heeded,
    )

pub returns-clause-refused : goal.returns-clause-refused
returns-clause-refused g c =
    record {
      by = inr (
        c.in-Err.e,
        c.from.ensures,
        record {
          first = c.in_ok-peer.peer;
          made = rw c.in-Err.ensures.left c.in_ok-peer.ensures.left;
          at = rw c.in-Err.ensures.addresses c.in_ok-peer.ensures.address;
          last = c.in-Err.ensures.broke.0;
          broke = record { options = c.in_ok-options.options; asks = rw (c.as_bytes.ensures, c.in_ok-place.ensures) at c.in_ok-options.ensures; broke = c.in-Err.ensures.broke.1 };
          given = rw c.in_ok-peer.ensures.taken at c.in-Err.ensures.broke.2;
        },
      );
    }

-- ---- who is blamed

pub returns-in_err-place-clause-maker : goal.returns-in_err-place-clause-maker
returns-in_err-place-clause-maker g c =
    let p = err_from_is_err_and c.from_residual.result c.from_residual.ensures.1 in
    rw (p.1, p.2) (maker-unlent _ _ _ _ _ (λ is. cc))

pub returns-in_err-place-clause-interrupt : goal.returns-in_err-place-clause-interrupt
returns-in_err-place-clause-interrupt g c =
    let p = err_from_is_err_and c.from_residual.result c.from_residual.ensures.1 in
    rw (p.1, p.2) (stop-unlent _ _ _ _ _ _ (λ is. cc))

pub returns-in_err-options-clause-maker : goal.returns-in_err-options-clause-maker
returns-in_err-options-clause-maker g c =
    let p = err_from_is_err_and c.from_residual-in_err-options.result c.from_residual-in_err-options.ensures.1 in
    rw (p.1, p.2) (maker-unlent _ _ _ _ _ (λ is. cc))

pub returns-in_err-options-clause-interrupt : goal.returns-in_err-options-clause-interrupt
returns-in_err-options-clause-interrupt g c =
    let p = err_from_is_err_and c.from_residual-in_err-options.result c.from_residual-in_err-options.ensures.1 in
    rw (p.1, p.2) (stop-unlent _ _ _ _ _ _ (λ is. cc))

pub returns-in_err-peer-clause-maker : goal.returns-in_err-peer-clause-maker
returns-in_err-peer-clause-maker g c =
    let p = err_from_is_err_and c.from_residual-in_err-peer.result c.from_residual-in_err-peer.ensures.1 in
    let earlier : (g.C.Connect.lost c.args.maker.now).count ≤ (g.C.Connect.lost c.connect.new.maker).count = rw c.in_err-peer.ensures.lost (omega arith) in
    rw (p.1, p.2)
    (record {
      counts = c.in_err-peer.ensures.counts;
      out_is = c.in_err-peer.ensures.out;
      lost = earlier;
      cause = λ is. (let told : connecting c.in_err-peer.field-0.0 ≡ lost_listing = cc in absurd (not-preparing c.in_err-peer.field-0.0 (prepare.RefMap ref_map.Transport) told));
    })

pub returns-in_err-peer-clause-interrupt : goal.returns-in_err-peer-clause-interrupt
returns-in_err-peer-clause-interrupt g c =
    let p = err_from_is_err_and c.from_residual-in_err-peer.result c.from_residual-in_err-peer.ensures.1 in
    rw (p.1, p.2) (stop-unlent _ _ _ _ _ _ (λ is. not-preparing c.in_err-peer.field-0.0 (prepare.RefMap ref_map.Interrupted) is))

pub returns-in-Ok-clause-maker : goal.returns-in-Ok-clause-maker
returns-in-Ok-clause-maker g c =
    let earlier : (g.C.Connect.lost c.args.maker.now).count ≤ (g.C.Connect.lost c.connect.new.maker).count = rw c.in_ok-peer.ensures.lost (omega arith) in
    rw c.in-Ok.ensures.kept (record { counts = c.in_ok-peer.ensures.counts; out_is = c.in_ok-peer.ensures.out; lost = earlier; cause = λ is. absurd (cc) })

pub returns-in-Ok-clause-interrupt : goal.returns-in-Ok-clause-interrupt
returns-in-Ok-clause-interrupt g c = record { counts = c.in-Ok.ensures.asked; cause = λ is. absurd (cc); quiet = c.in-Ok.ensures.quiet refl; noes = c.in-Ok.ensures.noes refl }

pub returns-clause-maker : goal.returns-clause-maker
returns-clause-maker g c =
    let counts : Counts (g.C.Connect.faults c.args.maker.now) (g.C.Connect.faults c.listed_by.new.maker) = rw c.in-Err.ensures.faults c.in_ok-peer.ensures.counts in
    let out : g.C.Connect.out c.listed_by.new.maker ≡ g.C.Connect.out c.args.maker.now = omega (arith, c.in-Err.ensures.out, c.in_ok-peer.ensures.out) in
    let earlier : (g.C.Connect.lost c.args.maker.now).count ≤ (g.C.Connect.lost c.connect.new.maker).count = rw c.in_ok-peer.ensures.lost (omega arith) in
    let here = c.in-Err.ensures.lost in
    let lost : (g.C.Connect.lost c.args.maker.now).count ≤ (g.C.Connect.lost c.listed_by.new.maker).count = omega (arith, earlier, here) in
    record {
      counts = counts;
      out_is = out;
      lost = lost;
      cause = λ is. (
          let told : c.from.result ≡ lost_listing = cc in
          let e = is-preparing c.in-Err.e (prepare.RefMap ref_map.Transport) (sym c.from.ensures ∙ told) in
          let rose = c.in-Err.ensures.transport (rw e refl) in
          let risen : Rose (g.C.Connect.lost c.args.maker.now) (g.C.Connect.lost c.listed_by.new.maker) = omega (arith, rose, earlier) in
          risen
          );
    }

pub returns-clause-interrupt : goal.returns-clause-interrupt
returns-clause-interrupt g c =
    record {
      counts = c.in-Err.ensures.asked;
      cause = λ is. (
          let told : c.from.result ≡ stopped_listing = cc in
          let e = is-preparing c.in-Err.e (prepare.RefMap ref_map.Interrupted) (sym c.from.ensures ∙ told) in
          c.in-Err.ensures.interrupted (rw e refl)
          );
      quiet = tt;
      noes = tt;
    }
