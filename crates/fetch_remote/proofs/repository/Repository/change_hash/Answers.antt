use Rattle.std.proofs.Common.{ap, ◌∙◌}
use Rattle.fetch_store.specs.Stores.{StoreValue}
use Rattle.fetch_refs.specs.Hashing.{of_hash as refs_of_hash}
use Rattle.fetch_remote.specs.Repositories.{state_of}
use Rattle.fetch_remote.specs.RepositoryValues.{RepositoryValue}
use Rattle.fetch_remote.proofs.Hashed.{rehashed}
use Rattle.fetch_remote.proofs.repository.Repository.change_hash.Goals as goal

pub returns-clause-state : goal.returns-clause-state
returns-clause-state c =
    rehashed c.args.kind (state_of c.args.self.now) c.new.result.hash c.new.result.objects c.self.inside.border c.change_hash.new.self c.requires.objects (ap (λ (s : StoreValue). s.hash) c.new.ensures) (ap (λ (s : StoreValue). s.objects) c.new.ensures)
    (ap (λ (r : RepositoryValue). r.state.border) c.self.view_is) (c.change_hash.ensures ∙ ap (λ (r : RepositoryValue). refs_of_hash c.args.kind r.state.refs) c.self.view_is)
