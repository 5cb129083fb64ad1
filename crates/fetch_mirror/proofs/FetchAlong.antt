-- The conversation of a fetch, along the replies of a rule.
use Rattle.std.proofs.Common.{◌≡◌, ℕ, Bool, false, List, [], Option, Some, Ok, Err, sym, ap, ◌∙◌}
use Rattle.fetch_lines.specs.Talks.{Talk}
use Rattle.fetch_lines.specs.Written.{lines_text}
use Rattle.fetch_conversation.specs.Served.{IsFresh, Follows}
use Rattle.fetch_remote.specs.Errors.{preparing, receiving, is_free, is_yes}
use Rattle.fetch_remote.specs.Fetched.{HasHeard}
use Rattle.fetch_remote.specs.Fetching.{requests_in}
use Rattle.fetch_remote.specs.Form.{Given}
use Rattle.fetch_remote.specs.Refused.{HasEnded}
use Rattle.fetch_remote.specs.Repositories.{State}
use Rattle.fetch_remote.specs.Stages.{Told, bound_of, conversation}
use Rattle.fetch_remote.specs.Conversed.{BreaksListing, BreaksReceiving}
use Rattle.fetch_remote.specs.declared.fetching.fetch_error.FetchError.{FetchError}
use Rattle.fetch_remote.proofs.Broken.{whole_listing, whole_receiving}
use Rattle.fetch_mirror.specs.Along.{Grows, IsAlong, answer_along}
use Rattle.fetch_mirror.proofs.Along.{answered, broken}

pub ended : (rule : List ℕ → List ℕ) (answers : Bool) (old : Option Talk) (new : Talk) (g : Given) (s : State) (said : List ℕ) (told : Told) → Grows rule → rule [] ≡ [] → IsAlong (bound_of g) rule [] (conversation g s) → IsFresh rule old → Follows rule new
    → HasHeard answers old (Some new) g s said → HasEnded g s said told → answer_along (bound_of g) rule [] (conversation g s) ≡ Ok told
unfolding requests_in
ended rule answers old new g s said told grows begins so fresh follows h k =
    answered rule answers (bound_of g) old new (conversation g s) told (lines_text (requests_in g s said)) said k.rest grows begins so fresh follows h.passed h.same_requests k.answered

pub unlisted : (rule : List ℕ → List ℕ) (answers : Bool) (old : Option Talk) (new : Talk) (g : Given) (s : State) (e : FetchError) → Grows rule → rule [] ≡ [] → IsAlong (bound_of g) rule [] (conversation g s) → IsFresh rule old → Follows rule new
    → BreaksListing answers old (Some new) g e → is_free e ≡ false → answer_along (bound_of g) rule [] (conversation g s) ≡ Err e
unlisted rule answers old new g s e grows begins so fresh follows h bound_to =
    broken rule answers (bound_of g) old new (conversation g s) is_free is_yes (preparing h.cause) grows begins so fresh follows (whole_listing answers old (Some new) g s h.cause h.broke) (sym (ap is_free h.told) ∙ bound_to) ∙ ap Err (sym h.told)

pub unreceived : (rule : List ℕ → List ℕ) (answers : Bool) (old : Option Talk) (new : Talk) (g : Given) (s : State) (e : FetchError) → Grows rule → rule [] ≡ [] → IsAlong (bound_of g) rule [] (conversation g s) → IsFresh rule old → Follows rule new
    → BreaksReceiving answers old (Some new) g s e → is_free e ≡ false → answer_along (bound_of g) rule [] (conversation g s) ≡ Err e
unreceived rule answers old new g s e grows begins so fresh follows h bound_to =
    broken rule answers (bound_of g) old new (conversation g s) is_free is_yes (receiving h.cause) grows begins so fresh follows
    (whole_receiving answers old h.between (Some new) g s h.listed h.behind h.cause h.list h.broke) (sym (ap is_free h.told) ∙ bound_to) ∙ ap Err (sym h.told)
