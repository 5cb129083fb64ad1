use Rattle.std.proofs.Common.{ℕ, List, refl, sym, ap, subst}
use Rattle.fetch_remote.specs.RepositoryValues.{RepositoryValue}
use Rattle.fetch_journal.specs.declared.entry.Entry.TheVariants as entries
use Rattle.fetch_journal.specs.Machine.Event.{Delete}
use Rattle.fetch_journal.specs.Shared.{SharedValue, IsGraphOf}
use Rattle.fetch_journal.proofs.Effects.{kept_now, value_by, pushed}
use Rattle.fetch_journal.proofs.state.SharedState.delete.Goals as goal

pub invariant_of-self-2 : goal.invariant_of-self-2
invariant_of-self-2 c =
    let v : SharedValue = record { opening = c.self.inside.opening.value; repository = c.self.inside.repo; journal = c.self.inside.entries.items } in (
      kept_now v _ (Delete c.args.pass c.args.names.now) c.self.invariant.0 tt tt refl
          (value_by c.self.inside.opening.value _ _ _ _ c.in_ok-delete.ensures.ok
          (pushed c.self.inside.entries.items _ _ _ _ c.push_reserved.ensures.items c.in_ok-reserve.ensures.items (ap (λ (ns : List (List ℕ)). entries.Delete c.args.pass ns) c.in_ok-copies.ensures))),
      subst (λ (r : RepositoryValue). IsGraphOf r.state.objects c.self.inside.graph) (sym c.in_ok-delete.ensures.ok) c.self.invariant.1,
    )
