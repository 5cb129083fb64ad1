use Rattle.std.proofs.Common.{◌≡◌, Option, Some, None, refl, sym, ap, ◌∙◌, arith}
use Rattle.fetch_remote.specs.RepositoryValues.{RepositoryValue}
use Rattle.fetch_clone.proofs.Counted.{later-none}
use Rattle.fetch_clone.proofs.prepare_fetch.PrepareFetch.fetch_only.Goals as goal

pub returns-in_default-clause-consumed : goal.returns-in_default-clause-consumed
returns-in_default-clause-consumed g c none =
    (refl, ap (λ (r : Option RepositoryValue). record c.args.self.now { draft = record c.args.self.now.draft { repo = r } }) (c.take.ensures.after ∙ sym none))

pub returns-in_default-clause-refused : goal.returns-in_default-clause-refused
returns-in_default-clause-refused g c =
    let none : c.args.self.now.draft.repo ≡ None = grind arith in
    rw none tt

pub returns-in_default-clause-later : goal.returns-in_default-clause-later
returns-in_default-clause-later g c = later-none _

pub returns-in-Ok-clause-consumed : goal.returns-in-Ok-clause-consumed
returns-in-Ok-clause-consumed g c none =
    let e : Some c.in-Some.repo ≡ None = sym c.in-Some.is ∙ c.take.ensures.value ∙ none in
    absurd cc

pub returns-in-Ok-clause-cloned : goal.returns-in-Ok-clause-cloned
returns-in-Ok-clause-cloned g c = (c.in-Some.repo, sym c.take.ensures.value ∙ c.in-Some.is, rw c.take.ensures.after at c.in-Ok.ensures.cloned)

pub returns-in-Ok-clause-spent : goal.returns-in-Ok-clause-spent
returns-in-Ok-clause-spent g c = rw c.take.ensures.after refl

pub returns-in-Err-clause-consumed : goal.returns-in-Err-clause-consumed
returns-in-Err-clause-consumed g c none =
    let e : Some c.in-Some.repo ≡ None = sym c.in-Some.is ∙ c.take.ensures.value ∙ none in
    absurd cc

pub returns-in-Err-clause-refused : goal.returns-in-Err-clause-refused
returns-in-Err-clause-refused g c =
    let found = sym c.take.ensures.value ∙ c.in-Some.is in
    rw found (c.fetched_into-fetched.new.repo, refl, rw c.take.ensures.after at c.in-Err.ensures.refused)

pub returns-in-Ok-clause-counted : goal.returns-in-Ok-clause-counted
returns-in-Ok-clause-counted g c = c.in-Ok.ensures.blames.counted

pub returns-in-Ok-clause-later : goal.returns-in-Ok-clause-later
returns-in-Ok-clause-later g c = c.in-Ok.ensures.blames.later

pub returns-in-Err-clause-counted : goal.returns-in-Err-clause-counted
returns-in-Err-clause-counted g c = c.in-Err.ensures.blames.counted

pub returns-in-Err-clause-later : goal.returns-in-Err-clause-later
returns-in-Err-clause-later g c = c.in-Err.ensures.blames.later
