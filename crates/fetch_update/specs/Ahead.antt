-- Dated paths, looked for.
use Rattle.std.specs.Prelude.{ℕ, zero, suc, nat_le, Bool, ◌&&◌, ◌||◌, is_some}
use Rattle.std.specs.List.{list_any}
use Rattle.std.specs.Ordering.{eq_by_cmp}
use Rattle.std.specs.FinMap as map
use Rattle.fetch_base.specs.declared.id.ObjectId.{ObjectId}
use Rattle.fetch_store.specs.Graph.{Graph}
use Rattle.fetch_base.specs.Id.{id_cmp}
use Rattle.fetch_update.specs.Dated.{commit_at, parents_at, seconds_at}

-- whether a stored commit has this many seconds or more
abbrev pub is_dated : Graph → ℕ → ObjectId → Bool
is_dated g limit id = is_some (commit_at g id) && nat_le limit (seconds_at g id)

-- whether dated commits lead from one to another in at most that many steps
abbrev pub leads : Graph → ℕ → ℕ → ObjectId → ObjectId → Bool
leads g limit zero from to = is_dated g limit from && eq_by_cmp id_cmp from to
leads g limit (suc n) from to = is_dated g limit from
    && (eq_by_cmp id_cmp from to || list_any (λ parent. leads g limit n parent to) (parents_at g from))

-- Whether a dated path leads from one commit to another. One without a detour has no more steps than there are objects.
unfoldable pub is_ahead : Graph → ObjectId → ObjectId → Bool
is_ahead g from to = leads g (seconds_at g to) (map.len g) from to
