-- Facts of each receive: of none, of both parts of a list, and told from an earlier time on.
use Rattle.std.proofs.Common.{ℕ, ◌<◌, List, [], ◌∷◌, ◌++◌, length, arith, length-append}
use Rattle.std.specs.Prelude.{map}
use Rattle.std.specs.List.{AllByRecursion}
use Rattle.fetch_lines.specs.Talks.{Receive, behind}
use Rattle.fetch_conversation.specs.Conversation.{AllButLastGave, AllGave}

pub all_both : {A : Type 0} (P : A → Type 0) (xs ys : List A) → AllByRecursion P xs → AllByRecursion P ys → AllByRecursion P (xs ++ ys)
all_both P [] ys h k = k
all_both P (x ∷ xs) ys h k = (h.0, all_both P xs ys h.1 k)

pub all_as : {A : Type 0} (P Q : A → Type 0) (xs : List A) → ((x : A) → P x → Q x) → AllByRecursion P xs → AllByRecursion Q xs
all_as P Q [] f h = tt
all_as P Q (x ∷ xs) f h = (f x h.0, all_as P Q xs f h.1)

-- with bytes before them
pub all_behind : (P Q : Receive → Type 0) (heard given : List ℕ) (receives : List Receive) → ((r : Receive) → P r → Q (behind heard given r)) → AllByRecursion P receives → AllByRecursion Q (map (behind heard given) receives)
all_behind P Q heard given [] f h = tt
all_behind P Q heard given (r ∷ receives) f h = (f r h.0, all_behind P Q heard given receives f h.1)

-- ---- what a receive gave

longer : (given a b : List ℕ) → length a < length b → length (given ++ a) < length (given ++ b)
longer given a b less = omega (arith, less, length-append given a, length-append given b)

longer_by : (given a b : List ℕ) → length a < length given → length a < length (given ++ b)
longer_by given a b less = omega (arith, less, length-append given b)

gave_behind : (heard given : List ℕ) (receives : List Receive) → AllButLastGave receives → AllButLastGave (map (behind heard given) receives)
gave_behind heard given [] h = tt
gave_behind heard given (r ∷ []) h = tt
gave_behind heard given (r ∷ next ∷ receives) h = (longer given r.given next.given h.0, gave_behind heard given (next ∷ receives) h.1)

-- all of these gave something, and then all of those but the last
pub gave_then : (heard given : List ℕ) (first second : List Receive) → AllButLastGave first → AllGave given first → AllButLastGave second → AllButLastGave (first ++ map (behind heard given) second)
gave_then heard given [] second h all k = gave_behind heard given second k
gave_then heard given (r ∷ []) [] h all k = tt
gave_then heard given (r ∷ []) (next ∷ second) h all k = (longer_by given r.given next.given all.0, gave_behind heard given (next ∷ second) k)
gave_then heard given (r ∷ next ∷ first) second h all k = (h.0, gave_then heard given (next ∷ first) second h.1 all.1 k)

abbrev IsBefore : List ℕ → Receive → Type 0
IsBefore given receive = length receive.given < length given

-- more was given since
pub gave_more : (given more : List ℕ) (receives : List Receive) → AllGave given receives → AllGave (given ++ more) receives
gave_more given more receives h = all_as (IsBefore given) (IsBefore (given ++ more)) receives (λ r less. longer_by given r.given more less) h

-- all of these, and then all of those
pub all_gave_then : (heard given given' : List ℕ) (first second : List Receive) → AllGave given first → AllGave given' second → AllGave (given ++ given') (first ++ map (behind heard given) second)
all_gave_then heard given given' first second h k =
    all_both (IsBefore (given ++ given')) first (map (behind heard given) second) (gave_more given given' first h)
    (all_behind (IsBefore given') (IsBefore (given ++ given')) heard given second (λ r less. longer given r.given given' less) k)
