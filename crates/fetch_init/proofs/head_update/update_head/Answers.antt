use Rattle.std.proofs.Common.{◌≡◌, inl, refl, ◌∙◌}
use Rattle.fetch_init.specs.declared.clone.fetch.Error.TheVariants as errors
use Rattle.std.specs.Option.{option_copied}
use Rattle.std.proofs.lemmas.Result.{err_from_is_err_and, on_ok_weaker}
use Rattle.fetch_remote.specs.Repositories.{state_of}
use Rattle.fetch_init.specs.HeadUpdates.{local_of}
use Rattle.fetch_init.proofs.Headed.{headed, never-written, not-find_head_target, not-saved}
use Rattle.fetch_init.proofs.head_update.update_head.Goals as goal

pub returns-in_err-head_target-clause-refused : goal.returns-in_err-head_target-clause-refused
returns-in_err-head_target-clause-refused g c =
    let p = err_from_is_err_and c.from_residual.result c.from_residual.ensures.1 in
    rw (p.1, p.2) (not-find_head_target (g.F.Files.may_fail c.args.files.now) (g.F.Files.told c.args.files.now) c.args.repo.now c.args.map.now c.args.message.now c.args.remote_name.now (option_copied c.args.ref_name) (option_copied c.args.revision) c.in_err-head_target.field-0.0 c.in_err-head_target.ensures.refused)

pub returns-in_err-head_target-clause-io : goal.returns-in_err-head_target-clause-io
returns-in_err-head_target-clause-io g c is =
    let p = err_from_is_err_and c.from_residual.result c.from_residual.ensures.1 in
    let e : c.in_err-head_target.field-0.0 ≡ errors.SaveConfigIo = cc in
    absurd (never-written (state_of c.args.repo.now) c.args.map.now (option_copied c.args.ref_name) (option_copied c.args.revision) c.in_err-head_target.field-0.0 c.in_err-head_target.ensures.refused e)

pub returns-in_err-local-clause-refused : goal.returns-in_err-local-clause-refused
returns-in_err-local-clause-refused g c =
    let p = err_from_is_err_and c.from_residual-in_err-local.result c.from_residual-in_err-local.ensures.1 in
    rw (p.1, p.2) (inl (record { state = refl; setup = refl; tree = refl }))

pub returns-in_err-new-clause-refused : goal.returns-in_err-new-clause-refused
returns-in_err-new-clause-refused g c =
    let p = err_from_is_err_and c.from_residual-in_err-new.result c.from_residual-in_err-new.ensures.1 in
    rw (p.1, p.2) (inl (record { state = refl; setup = refl; tree = refl }))

pub save_if-requires : goal.save_if-requires
save_if-requires g c = rw c.turn.ensures.setup c.in_ok-new.ensures.ready

pub returns-in_err-turn-clause-refused : goal.returns-in_err-turn-clause-refused
returns-in_err-turn-clause-refused g c =
    let p = err_from_is_err_and c.from_residual-in_err-turn.result c.from_residual-in_err-turn.ensures.1 in
    rw (p.1, p.2) (inl (record { state = c.in_err-turn.ensures.err; setup = c.turn.ensures.setup; tree = refl }))

pub returns-clause-ok : goal.returns-clause-ok
returns-clause-ok g c =
    on_ok_weaker c.save_if.result
    (headed (g.F.Files.may_fail c.args.files.now) (g.F.Files.told c.args.files.now) (g.F.Files.told c.save_if.new.files) c.args.repo.now c.turn.new.repo c.save_if.new.repo c.args.map.now c.args.message.now c.args.remote_name.now (option_copied c.args.ref_name) (option_copied c.args.revision) c.in_ok-head_target.head_target (local_of c.in_ok-new.new)
    c.in_ok-head_target.ensures.ok (c.save_if.ensures.state ∙ c.in_ok-turn.ensures.state) c.turn.ensures.setup (c.in_ok-new.ensures.local ∙ c.in_ok-local.ensures))
    c.save_if.ensures.ok

pub returns-clause-refused : goal.returns-clause-refused
returns-clause-refused g c =
    not-saved (g.F.Files.may_fail c.args.files.now) (g.F.Files.told c.args.files.now) (g.F.Files.told c.save_if.new.files) c.args.repo.now c.turn.new.repo c.save_if.new.repo c.args.map.now c.args.message.now c.args.remote_name.now (option_copied c.args.ref_name) (option_copied c.args.revision) c.in_ok-head_target.head_target (local_of c.in_ok-new.new)
    c.in_ok-head_target.ensures.ok (c.save_if.ensures.state ∙ c.in_ok-turn.ensures.state) c.turn.ensures.setup (c.in_ok-new.ensures.local ∙ c.in_ok-local.ensures)
    c.save_if.result c.save_if.ensures.tree c.save_if.ensures.err c.save_if.ensures.refused
