-- What a negotiator keeps.
use Rattle.std.specs.Prelude.{List, refl}
use Rattle.std.specs.Coded.{Coded, code_by, coded_list, coded×}
use Rattle.std.specs.FinMap as map
use Rattle.std.specs.FinSet as set
use Rattle.fetch_base.specs.declared.id.ObjectId.{ObjectId}
use Rattle.fetch_objects.specs.Codes.{coded_id}
use Rattle.fetch_base.specs.Id.{id_cmp}
use Rattle.fetch_negotiate.specs.Commits.{Known, coded_known}
use Rattle.fetch_negotiate.specs.Haves.{Negotiation}
use Rattle.fetch_negotiate.specs.Reading.{Read}

-- the ids that it read, each with the commit that was found, and the negotiation so far
pub record Kept : Type 0 where
  pub known : Known
  pub so_far : Negotiation

-- what was read, as a function
abbrev pub read_by : Known → Read
read_by known = λ id. map.get known id

abbrev coded_negotiation : Coded Negotiation
coded_negotiation =
    code_by (List ObjectId × (set.FinSet id_cmp × (List ObjectId × List ObjectId)))
    (coded× (coded_list coded_id) (coded× (set.code {R = id_cmp} coded_id) (coded× (coded_list coded_id) (coded_list coded_id))))
    (λ n. (n.tips, (n.border, (n.taken, n.acknowledged))))
    (λ p. record { tips = p.0; border = p.1.0; taken = p.1.1.0; acknowledged = p.1.1.1 }) (λ _. refl)

-- what a negotiator keeps, coded
abbrev pub coded_kept : Coded Kept
coded_kept = code_by (Known × Negotiation) (coded× coded_known coded_negotiation) (λ k. (k.known, k.so_far))
    (λ p. record { known = p.0; so_far = p.1 }) (λ _. refl)

-- the same, and the commits that were offered, in order
pub record KeptOffers : Type 0 where
  pub known : Known
  pub so_far : Negotiation
  pub offered : List ObjectId

-- the same with what was offered, coded
abbrev pub coded_offers : Coded KeptOffers
coded_offers =
    code_by (Known × (Negotiation × List ObjectId)) (coded× coded_known (coded× coded_negotiation (coded_list coded_id)))
    (λ k. (k.known, (k.so_far, k.offered))) (λ p. record { known = p.0; so_far = p.1.0; offered = p.1.1 }) (λ _. refl)
