-- What was tested of a repository is that it can be served.
use Rattle.std.proofs.Common.{◌≡◌, List, [], ◌∷◌, None, refl, subst}
use Rattle.std.specs.Prelude.{slice_get}
use Rattle.std.specs.FinSet as set
use Rattle.fetch_store.specs.Borders.{IdSet}
use Rattle.fetch_store.specs.Closed.{AreAllOf, IsClosed, holding}
use Rattle.fetch_reach.specs.Named.{AreObjects, AreOwnIds}
use Rattle.fetch_serve.specs.Servable.{IsObjectTrouble, IsServable, IsTrouble, unservable_names}
use Rattle.fetch_serve.specs.Served.{Data}
use Rattle.fetch_asked.specs.declared.error.ServeError.{ServeError}
use Rattle.fetch_asked.specs.declared.error.ServeError.TheVariants as errors

none_first : {A : Type 0} (xs : List A) → slice_get xs 0 ≡ None → xs ≡ []
none_first [] e = refl
none_first (x ∷ xs) e = absurd (cc)

pub is_servable : (d : Data) (border : IdSet) → AreAllOf d.hash d.objects → AreObjects d.objects → AreOwnIds d.objects → border ≡ set.empty → IsClosed (holding d.objects border) → slice_get (unservable_names d) 0 ≡ None
    → IsServable d
is_servable d border hash objects own empty closed names =
    record { hash = hash; objects = objects; own = own; closed = subst (λ (b : IdSet). IsClosed (holding d.objects b)) empty closed; names = none_first (unservable_names d) names }

-- why objects aren't served is why the repository isn't
pub troubled : (d : Data) (border : IdSet) (e : ServeError) → IsObjectTrouble d.objects border e → IsTrouble d border e
troubled d border errors.ShallowServer h = h
troubled d border (errors.WrongId id) h = h
troubled d border (errors.NotClosed link) h = h
troubled d border (errors.NotServable name) h = absurd h
troubled d border (errors.Malformed place) h = h
troubled d border (errors.RequestTooLong bound) h = h
troubled d border errors.NoMemory h = h
