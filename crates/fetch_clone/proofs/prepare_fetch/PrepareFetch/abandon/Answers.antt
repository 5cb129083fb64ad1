use Rattle.fetch_clone.proofs.prepare_fetch.PrepareFetch.abandon.Goals as goal

pub returns-clause-removed : goal.returns-clause-removed
returns-clause-removed g c = rw (c.into_parts-files.ensures.files, c.into_parts-files.ensures.draft) at c.give_up.ensures.removed

pub returns-clause-untouched : goal.returns-clause-untouched
returns-clause-untouched g c = rw (c.into_parts-files.ensures.files, c.into_parts-files.ensures.draft) at c.give_up.ensures.untouched

pub returns-clause-counts : goal.returns-clause-counts
returns-clause-counts g c = rw c.into_parts-files.ensures.files at c.give_up.ensures.counts

pub returns-clause-may_fail : goal.returns-clause-may_fail
returns-clause-may_fail g c = rw c.into_parts-files.ensures.files at c.give_up.ensures.may_fail
