-- The whole conversation of a fetch, along what a server gives.
use Rattle.std.proofs.Common.{◌≡◌, ℕ, List, [], ◌++◌, Option, None, Result, Ok, Err, sym, ap, subst}
use Rattle.fetch_lines.specs.declared.lines.line.Line.{Line}
use Rattle.fetch_conversation.specs.Conversation.{Conversation, ends, told_as}
use Rattle.fetch_conversation.specs.ListStage.{ListedValue, ls_refs_stage, list_stage, no_specs, unless}
use Rattle.fetch_conversation.specs.declared.conversing.Received.{Received}
use Rattle.fetch_conversation.specs.declared.fetch.Error.{Error as ReceiveError}
use Rattle.fetch_conversation.specs.declared.prepare.Error.{Error as PrepareError}
use Rattle.fetch_remote.specs.Errors.{preparing, receiving}
use Rattle.fetch_remote.specs.Form.{Given}
use Rattle.fetch_remote.specs.Repositories.{State}
use Rattle.fetch_remote.specs.Stages.{Told, bound_of, conversation, inquiry_in, listing_stage, pack_stage, receiving_stage}
use Rattle.fetch_remote.specs.declared.fetching.fetch_error.FetchError.{FetchError}
use Rattle.fetch_mirror.specs.GoingAlong.{GoesAlong, GoesTo}
use Rattle.fetch_mirror.proofs.GoingAlong.{goes_end}
use Rattle.fetch_mirror.proofs.StagesAlong.{as_along, as_to, early_along, then_along}

-- a remote with refspecs is asked
pub lists_so : (g : Given) → no_specs (inquiry_in g) ≡ None → listing_stage g ≡ ls_refs_stage (bound_of g) (inquiry_in g)
unfolding list_stage
lists_so g some = ap (λ (o : Option PrepareError). unless o (ls_refs_stage (bound_of g) (inquiry_in g))) some

-- The listing is refused: so is the fetch.
pub unlisted_along : (rule : List ℕ → List ℕ) (g : Given) (s : State) (sent : List Line) (e : PrepareError) → no_specs (inquiry_in g) ≡ None
    → GoesAlong (bound_of g) rule [] (ls_refs_stage (bound_of g) (inquiry_in g)) sent (Err e) → GoesAlong (bound_of g) rule [] (conversation g s) sent (Err (preparing e))
unfolding conversation
unlisted_along rule g s sent e some h =
    early_along (bound_of g) rule [] (told_as preparing (listing_stage g)) (receiving_stage g s) sent (preparing e)
    (as_along (bound_of g) rule [] preparing (listing_stage g) sent (Err e) (subst (λ (c : Conversation ListedValue PrepareError). GoesAlong (bound_of g) rule [] c sent (Err e)) (sym (lists_so g some)) h))

-- behind a listing
listed_along : (rule : List ℕ → List ℕ) (g : Given) (s : State) (after : List ℕ) (sent others : List Line) (l : ListedValue) (answer : Result Told FetchError) → no_specs (inquiry_in g) ≡ None
    → GoesTo (bound_of g) rule [] after (ls_refs_stage (bound_of g) (inquiry_in g)) sent l → GoesAlong (bound_of g) rule after (receiving_stage g s l) others answer
    → GoesAlong (bound_of g) rule [] (conversation g s) (sent ++ others) answer
unfolding conversation
listed_along rule g s after sent others l answer some h k =
    then_along (bound_of g) rule [] after (told_as preparing (listing_stage g)) (receiving_stage g s) l sent others answer
    (as_to (bound_of g) rule [] after preparing (listing_stage g) sent l (subst (λ (c : Conversation ListedValue PrepareError). GoesTo (bound_of g) rule [] after c sent l) (sym (lists_so g some)) h)) k

refused : (rule : List ℕ → List ℕ) (g : Given) (s : State) (after : List ℕ) (others : List Line) (l : ListedValue) (e : ReceiveError) → GoesAlong (bound_of g) rule after (pack_stage g s l) others (Err e)
    → GoesAlong (bound_of g) rule after (receiving_stage g s l) others (Err (receiving e))
unfolding receiving_stage
refused rule g s after others l e k =
    early_along (bound_of g) rule after (told_as receiving (pack_stage g s l)) (λ r. ends (Ok (record { listed = l; received = r }))) others (receiving e)
    (as_along (bound_of g) rule after receiving (pack_stage g s l) others (Err e) k)

-- The pack is refused: so is the fetch.
pub unreceived_along : (rule : List ℕ → List ℕ) (g : Given) (s : State) (after : List ℕ) (sent others : List Line) (l : ListedValue) (e : ReceiveError) → no_specs (inquiry_in g) ≡ None
    → GoesTo (bound_of g) rule [] after (ls_refs_stage (bound_of g) (inquiry_in g)) sent l → GoesAlong (bound_of g) rule after (pack_stage g s l) others (Err e)
    → GoesAlong (bound_of g) rule [] (conversation g s) (sent ++ others) (Err (receiving e))
unreceived_along rule g s after sent others l e some h k = listed_along rule g s after sent others l (Err (receiving e)) some h (refused rule g s after others l e k)

had : (rule : List ℕ → List ℕ) (g : Given) (s : State) (after last : List ℕ) (others : List Line) (l : ListedValue) (r : Option Received) → GoesTo (bound_of g) rule after last (pack_stage g s l) others r
    → GoesAlong (bound_of g) rule after (receiving_stage g s l) (others ++ []) (Ok (record { listed = l; received = r }))
unfolding receiving_stage
had rule g s after last others l r k =
    then_along (bound_of g) rule after last (told_as receiving (pack_stage g s l)) (λ r. ends (Ok (record { listed = l; received = r }))) r others [] (Ok (record { listed = l; received = r }))
    (as_to (bound_of g) rule after last receiving (pack_stage g s l) others r k)
    (goes_end (bound_of g) rule last (Ok (record { listed = l; received = r })))

-- Both are had.
pub fetched_along : (rule : List ℕ → List ℕ) (g : Given) (s : State) (after last : List ℕ) (sent others : List Line) (l : ListedValue) (r : Option Received) → no_specs (inquiry_in g) ≡ None
    → GoesTo (bound_of g) rule [] after (ls_refs_stage (bound_of g) (inquiry_in g)) sent l → GoesTo (bound_of g) rule after last (pack_stage g s l) others r
    → GoesAlong (bound_of g) rule [] (conversation g s) (sent ++ (others ++ [])) (Ok (record { listed = l; received = r }))
fetched_along rule g s after last sent others l r some h k =
    listed_along rule g s after sent (others ++ []) l (Ok (record { listed = l; received = r })) some h (had rule g s after last others l r k)
