-- The second stage is held.
use Rattle.std.proofs.Common.{◌≡◌, ◌≢◌, ℕ, suc, Bool, false, List, [], ◌∷◌, Option, Some, None, Result, Ok, Err, refl, sym, ap, ◌∙◌, subst}
use Rattle.std.specs.FinMap as map
use Rattle.fetch_store.specs.Graph.{Graph}
use Rattle.fetch_base.specs.declared.id.ObjectId.{ObjectId}
use Rattle.fetch_lines.specs.Talks.{Talk}
use Rattle.fetch_lines.specs.declared.requests.records.FetchReply.{FetchReply}
use Rattle.fetch_negotiate.specs.declared.algorithm.Round.{Round}
use Rattle.fetch_conversation.specs.Conversation.{Conversation, ends, and_then, Concludes, Breaks, ConversesBy, Converses}
use Rattle.fetch_conversation.specs.Conversing.{Tells, IsClear, negotiated_of}
use Rattle.fetch_conversation.specs.ConverseStage.{unmapped, unlike, unfit, lacked, is_border_needed, algorithm_in, received, fetching, wanting, converse_stage}
use Rattle.fetch_conversation.specs.Errors.{is_free_receiving, is_stopped}
use Rattle.fetch_conversation.specs.Exchange.{FetchArgumentsValue, other_reply}
use Rattle.fetch_conversation.specs.ListStage.{is_nil}
use Rattle.fetch_conversation.specs.Rounds.{Negotiated, first_rounds_state, negotiating}
use Rattle.fetch_conversation.specs.declared.conversing.Received.{Received}
use Rattle.fetch_conversation.specs.declared.fetch.Error.{Error}
use Rattle.fetch_conversation.specs.declared.fetch.Error.TheVariants as errors
use Rattle.fetch_conversation.specs.declared.negotiate.Negotiate.{Negotiate}
use Rattle.fetch_conversation.proofs.Chained.{concludes_then, breaks_late, breaks_early}
use Rattle.fetch_conversation.proofs.Held.{concluded_at_once, broken_at_once}

abbrev Holds : Bool → ℕ → Option Talk → Option Talk → List ℕ → List ℕ → Graph → FetchArgumentsValue → Result (Option Received) Error → Type 0
Holds answers bound old new pending rest g t result = Converses is_free_receiving is_stopped answers bound old new pending rest (converse_stage bound g t) result

-- ---- nothing is sent

not_memory : (e : Error) → is_free_receiving e ≡ false → e ≢ errors.NoMemory
not_memory e isnt is = cc

pub holds_refusal : (answers : Bool) (bound : ℕ) (old : Option Talk) (pending rest : List ℕ) (g : Graph) (t : FetchArgumentsValue) (e : Error) → is_stopped e ≡ false → (is_free_receiving e ≡ false → converse_stage bound g t ≡ ends (Err e)) → Holds answers bound old old pending rest g t (Err e)
holds_refusal answers bound old pending rest g t e going is = record { held = broken_at_once is_free_receiving is_stopped answers bound old pending (converse_stage bound g t) e going is }

pub none_told : {T : Type 0} (refusal : Option Error) (x : T) → Tells refusal (Ok x) → refusal ≡ None
none_told None x h = refl
none_told (Some e) x h = absurd h

pub some_told : (T : Type 0) (refusal : Option Error) (f : Error) → Tells {T = T} refusal (Err f) → is_free_receiving f ≡ false → refusal ≡ Some f
some_told T None f h isnt = absurd (not_memory f isnt h)
some_told T (Some e) f h isnt = ap (λ (x : Error). Some x) (sym (h (not_memory f isnt)))

pub unmapped_stage : (T : Type 0) (bound : ℕ) (g : Graph) (t : FetchArgumentsValue) (e : Error) → Tells {T = T} (unmapped t.listed.ref_map) (Err e) → is_free_receiving e ≡ false → converse_stage bound g t ≡ ends (Err e)
unfolding converse_stage
unmapped_stage T bound g t e h isnt = rw (some_told T (unmapped t.listed.ref_map) e h isnt) refl

pub unlike_stage : (T : Type 0) (bound : ℕ) (g : Graph) (t : FetchArgumentsValue) (e : Error) → unmapped t.listed.ref_map ≡ None → Tells {T = T} (unlike t.settings.kind t.listed.handshake.object_hash) (Err e) → is_free_receiving e ≡ false → converse_stage bound g t ≡ ends (Err e)
unfolding converse_stage
unlike_stage T bound g t e none h isnt = rw (none, some_told T (unlike t.settings.kind t.listed.handshake.object_hash) e h isnt) refl

pub unfit_stage : (T : Type 0) (bound : ℕ) (g : Graph) (t : FetchArgumentsValue) (e : Error) → unmapped t.listed.ref_map ≡ None → unlike t.settings.kind t.listed.handshake.object_hash ≡ None → Tells {T = T} (unfit t.settings) (Err e) → is_free_receiving e ≡ false
    → converse_stage bound g t ≡ ends (Err e)
unfolding converse_stage
unfit_stage T bound g t e none same h isnt = rw (none, same, some_told T (unfit t.settings) e h isnt) refl

pub lacking_stage : (T : Type 0) (bound : ℕ) (g : Graph) (t : FetchArgumentsValue) (e : Error) → unmapped t.listed.ref_map ≡ None → unlike t.settings.kind t.listed.handshake.object_hash ≡ None → unfit t.settings ≡ None → Tells {T = T} (lacked t.listed.handshake (is_border_needed t.view.border t.shallow)) (Err e)
    → is_free_receiving e ≡ false → converse_stage bound g t ≡ ends (Err e)
unfolding converse_stage
lacking_stage T bound g t e none same fit h isnt = rw (none, same, fit, some_told T (lacked t.listed.handshake (is_border_needed t.view.border t.shallow)) e h isnt) refl

clear_stage : (bound : ℕ) (g : Graph) (t : FetchArgumentsValue) → IsClear t → converse_stage bound g t ≡ wanting bound g t t.view.wants
unfolding converse_stage
clear_stage bound g t h = rw (h.mapped, h.alike, h.fit, h.offered) refl

-- nothing is wanted
pub holds_nothing : (answers : Bool) (bound : ℕ) (old : Option Talk) (pending : List ℕ) (g : Graph) (t : FetchArgumentsValue) → IsClear t → t.view.wants ≡ [] → Holds answers bound old old pending pending g t (Ok None)
holds_nothing answers bound old pending g t clear none = record { held = concluded_at_once answers bound old pending (converse_stage bound g t) None (clear_stage bound g t clear ∙ ap (wanting bound g t) none) }

-- ---- the rounds, and what they bring

-- something is wanted
wanted_by : (bound : ℕ) (g : Graph) (t : FetchArgumentsValue) (wants : List ObjectId) → is_nil wants ≡ false → wanting bound g t wants ≡ fetching bound g t
wanted_by bound g t [] isnt = absurd (cc)
wanted_by bound g t (id ∷ ids) isnt = refl

abbrev rounds_in : ℕ → Graph → FetchArgumentsValue → Conversation Negotiated Error
rounds_in bound g t = negotiating (suc (map.len g)) bound t g (algorithm_in t.settings) (first_rounds_state (algorithm_in t.settings) t.view)

abbrev brings : FetchArgumentsValue → Negotiated → Conversation (Option Received) Error
brings t n = ends (received t n)

fetching_is : (bound : ℕ) (g : Graph) (t : FetchArgumentsValue) → fetching bound g t ≡ and_then (rounds_in bound g t) (λ n. brings t n)
unfolding fetching
fetching_is bound g t = refl

stage_is : (bound : ℕ) (g : Graph) (t : FetchArgumentsValue) → IsClear t → is_nil t.view.wants ≡ false → converse_stage bound g t ≡ and_then (rounds_in bound g t) (λ n. brings t n)
stage_is bound g t clear some = clear_stage bound g t clear ∙ wanted_by bound g t t.view.wants some ∙ fetching_is bound g t

stage_by : (answers : Bool) (bound : ℕ) (old new : Option Talk) (pending rest : List ℕ) (g : Graph) (t : FetchArgumentsValue) (result : Result (Option Received) Error) → IsClear t → is_nil t.view.wants ≡ false
    → ConversesBy is_free_receiving is_stopped answers bound old new pending rest (and_then (rounds_in bound g t) (λ n. brings t n)) result → Holds answers bound old new pending rest g t result
stage_by answers bound old new pending rest g t result clear some h = record {
  held = subst (λ (c : Conversation (Option Received) Error). ConversesBy is_free_receiving is_stopped answers bound old new pending rest c result) (sym (stage_is bound g t clear some)) h;
}

-- the rounds break off
pub holds_broken : (answers : Bool) (bound : ℕ) (old new : Option Talk) (pending rest : List ℕ) (g : Graph) (t : FetchArgumentsValue) (e : Error) → IsClear t → is_nil t.view.wants ≡ false
    → Breaks is_free_receiving is_stopped answers bound old new pending (rounds_in bound g t) e → Holds answers bound old new pending rest g t (Err e)
holds_broken answers bound old new pending rest g t e clear some h =
    stage_by answers bound old new pending rest g t (Err e) clear some (breaks_early is_free_receiving is_stopped answers bound old new pending (rounds_in bound g t) (λ n. brings t n) e h)

-- what the rounds bring is answered
abbrev pub Finds : FetchArgumentsValue → Negotiated → Result (Option Received) Error → Type 0
Finds t n (Ok x) = received t n ≡ Ok x
Finds t n (Err e) = (is_stopped e ≡ false) × (is_free_receiving e ≡ false → received t n ≡ Err e)

found_by : (answers : Bool) (bound : ℕ) (old new : Option Talk) (pending rest : List ℕ) (g : Graph) (t : FetchArgumentsValue) (n : Negotiated) (result : Result (Option Received) Error) → Concludes answers bound old new pending (rounds_in bound g t) n rest → Finds t n result
    → ConversesBy is_free_receiving is_stopped answers bound old new pending rest (and_then (rounds_in bound g t) (λ n. brings t n)) result
found_by answers bound old new pending rest g t n (Ok x) h found =
    concludes_then answers bound old new new pending rest rest (rounds_in bound g t) (λ n. brings t n) n x h (concluded_at_once answers bound new rest (brings t n) x (ap (λ (r : Result (Option Received) Error). ends r) found))
found_by answers bound old new pending rest g t n (Err e) h found =
    breaks_late is_free_receiving is_stopped answers bound old new new pending rest (rounds_in bound g t) (λ n. brings t n) n e h (broken_at_once is_free_receiving is_stopped answers bound new rest (brings t n) e found.0 (λ isnt. ap (λ (r : Result (Option Received) Error). ends r) (found.1 isnt)))

abbrev pub FindsIn : FetchArgumentsValue → List Round → Option FetchReply → Result (Option Received) Error → Type 0
FindsIn t rounds (Some reply) result = Finds t (record { rounds = rounds; reply = reply }) result
FindsIn t rounds None result = result ≡ Err other_reply

held_by : (answers : Bool) (bound : ℕ) (old new : Option Talk) (pending rest : List ℕ) (g : Graph) (t : FetchArgumentsValue) (n : Negotiate) (kept : Option FetchReply) (result : Result (Option Received) Error)
    → ConversesBy is_free_receiving is_stopped answers bound old new pending rest (rounds_in bound g t) (negotiated_of (Ok n) kept) → FindsIn t n.rounds kept result
    → ConversesBy is_free_receiving is_stopped answers bound old new pending rest (and_then (rounds_in bound g t) (λ n. brings t n)) result
held_by answers bound old new pending rest g t n (Some reply) result h found = found_by answers bound old new pending rest g t (record { rounds = n.rounds; reply = reply }) result h found
held_by answers bound old new pending rest g t n None result h found =
    subst (λ (r : Result (Option Received) Error). ConversesBy is_free_receiving is_stopped answers bound old new pending rest (and_then (rounds_in bound g t) (λ n. brings t n)) r) (sym found)
    (breaks_early is_free_receiving is_stopped answers bound old new pending (rounds_in bound g t) (λ n. brings t n) other_reply h)

-- the rounds were held to their end
pub holds_found : (answers : Bool) (bound : ℕ) (old new : Option Talk) (pending rest : List ℕ) (g : Graph) (t : FetchArgumentsValue) (n : Negotiate) (kept : Option FetchReply) (result : Result (Option Received) Error) → IsClear t → is_nil t.view.wants ≡ false
    → ConversesBy is_free_receiving is_stopped answers bound old new pending rest (rounds_in bound g t) (negotiated_of (Ok n) kept) → FindsIn t n.rounds kept result → Holds answers bound old new pending rest g t result
holds_found answers bound old new pending rest g t n kept result clear some h found = stage_by answers bound old new pending rest g t result clear some (held_by answers bound old new pending rest g t n kept result h found)
