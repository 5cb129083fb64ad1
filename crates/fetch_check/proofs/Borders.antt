-- Borders of the same ids are one.
use Rattle.std.proofs.Common.{◌≡◌, sym, ap, ◌∙◌}
use Rattle.std.specs.FinSet as set
use Rattle.fetch_store.specs.Borders.{IdSet, ids_of, set_of}
use Rattle.fetch_store.proofs.Borders.{named-ids_of}
use Rattle.fetch_base.proofs.Ids.{id_cmp_total, id_cmp_exact}

-- the ids of a set are its own
pub set_of-ids : (s : IdSet) → set_of (ids_of s) ≡ s
set_of-ids s = set.same_set id_cmp_total id_cmp_exact (set_of (ids_of s)) s (λ q. set.contains-from_list id_cmp_total (ids_of s) q ∙ named-ids_of s q)

pub same_border_set : (s t : IdSet) → ids_of s ≡ ids_of t → s ≡ t
same_border_set s t same = sym (set_of-ids s) ∙ ap set_of same ∙ set_of-ids t
