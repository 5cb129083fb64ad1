use Rattle.std.proofs.Common.{refl}
use Rattle.std.proofs.lemmas.Result.{err_from_is_err_and}
use Rattle.fetch_conversation.proofs.Blame.{interrupt_still}
use Rattle.fetch_conversation.proofs.Tied.{broken_free}
use Rattle.fetch_remote.proofs.fetching.connection.listed_for.Goals as goal

pub returns-in_err-map-clause-refused : goal.returns-in_err-map-clause-refused
returns-in_err-map-clause-refused g c =
    let p = err_from_is_err_and c.from_residual.result c.from_residual.ensures.1 in
    rw (p.1, p.2) (record { broke = broken_free _ _ _ _ _ _ _ _ refl refl })

pub returns-in_err-listed-clause-refused : goal.returns-in_err-listed-clause-refused
returns-in_err-listed-clause-refused g c =
    let p = err_from_is_err_and c.from_residual-in_err-listed.result c.from_residual-in_err-listed.ensures.1 in
    rw (p.1, p.2) (record { broke = (rw c.settings.ensures.settings at c.in_err-listed.ensures.held).held })

pub returns-clause-listed : goal.returns-clause-listed
returns-clause-listed g c = record { list = (rw c.settings.ensures.settings at c.in_ok-listed.ensures.held).held }

-- ---- who is blamed

pub returns-in_err-map-clause-interrupt : goal.returns-in_err-map-clause-interrupt
returns-in_err-map-clause-interrupt g c =
    let p = err_from_is_err_and c.from_residual.result c.from_residual.ensures.1 in
    rw (p.1, p.2) (interrupt_still _ _ _ _ refl)

pub returns-in_err-listed-clause-interrupt : goal.returns-in_err-listed-clause-interrupt
returns-in_err-listed-clause-interrupt g c =
    let p = err_from_is_err_and c.from_residual-in_err-listed.result c.from_residual-in_err-listed.ensures.1 in
    rw (p.1, p.2) c.in_err-listed.ensures.interrupt
