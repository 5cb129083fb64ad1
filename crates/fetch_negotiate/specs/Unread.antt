-- Where nothing was read, each graph tells it.
use Rattle.std.specs.Prelude.{◌≡◌, Option, Some, None}
use Rattle.fetch_base.specs.declared.id.ObjectId.{ObjectId}
use Rattle.fetch_store.specs.Graph.{Graph}
use Rattle.fetch_negotiate.specs.declared.commits.Commit.{Commit}
use Rattle.fetch_negotiate.specs.Commits.{commit_of}
use Rattle.fetch_negotiate.specs.Reading.{Read, IsTold}

-- Where nothing was read, what was read is so in each graph.
pub unread_told : (k : Read) (g : Graph) → ((id : ObjectId) → k id ≡ None) → IsTold k g
unread_told k g none = record { told = λ id found is. nothing id found (k id) (none id) is }
  where
    nothing : (id : ObjectId) (found : Option Commit) (o : Option (Option Commit)) → o ≡ None → o ≡ Some found → commit_of g id ≡ found
    nothing id found o e is = absurd cc
