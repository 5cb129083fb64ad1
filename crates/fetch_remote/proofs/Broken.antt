-- A conversation that broke off, stage by stage.
use Rattle.std.proofs.Common.{◌≡◌, ℕ, Bool, true, false, List, [], ◌++◌, Option, Result, Ok, refl, sym, ap, ◌∙◌, append_assoc}
use Rattle.std.proofs.lemmas.List.Concat.{flat_map-append}
use Rattle.fetch_lines.specs.Talks.{Talk, IsFront}
use Rattle.fetch_lines.specs.Written.{line_text, lines_text}
use Rattle.fetch_lines.specs.declared.lines.line.Line.{Line}
use Rattle.fetch_conversation.specs.Conversation.{Conversation, ends, sent_in, answer_in, and_then, map_refusal, told_as, Concludes, Breaks}
use Rattle.fetch_conversation.specs.Errors.{is_free_listing, is_free_map, is_free_receiving, is_interrupted, is_stopped}
use Rattle.fetch_conversation.specs.ListStage.{ListedValue}
use Rattle.fetch_conversation.specs.declared.fetch.Error.{Error as ReceiveError}
use Rattle.fetch_conversation.specs.declared.fetch.Error.TheVariants as receive
use Rattle.fetch_conversation.specs.declared.prepare.Error.{Error as PrepareError}
use Rattle.fetch_conversation.specs.declared.prepare.Error.TheVariants as prepare
use Rattle.fetch_conversation.specs.declared.ref_map.Error.{Error as RefMapError}
use Rattle.fetch_conversation.specs.declared.ref_map.Error.TheVariants as ref_map
use Rattle.fetch_conversation.proofs.Chained.{breaks_early, breaks_late, breaks_as, concludes_as, sent_then, sent_as, sent_behind, text_then, answer_as}
use Rattle.fetch_remote.specs.Errors.{preparing, receiving, is_free, is_yes}
use Rattle.fetch_remote.specs.Form.{Given}
use Rattle.fetch_remote.specs.Repositories.{State}
use Rattle.fetch_remote.specs.Stages.{bound_of, listing_stage, pack_stage, receiving_stage, conversation}
use Rattle.fetch_remote.specs.declared.fetching.fetch_error.FetchError.TheVariants as errors

-- ---- free refusals are free in the whole, and no others

free_map : (e : RefMapError) → is_free (errors.Prepare (prepare.RefMap e)) ≡ is_free_map e
free_map (ref_map.Handshake e) = refl
free_map ref_map.Transport = refl
free_map ref_map.Interrupted = refl
free_map (ref_map.InitRefMap conflicts) = refl
free_map ref_map.NoMemory = refl

pub free_listing : (e : PrepareError) → is_free (preparing e) ≡ is_free_listing e
free_listing prepare.MissingRefSpecs = refl
free_listing (prepare.RefMap e) = free_map e
free_listing prepare.NoMemory = refl

-- after the listing a fault of the worktrees is free, too
free_receiving : (e : ReceiveError) → is_free (receiving e) ≡ false → is_free_receiving e ≡ false
free_receiving (receive.NoMapping specs count) sure = refl
free_receiving (receive.IncompatibleObjectHash local remote) sure = refl
free_receiving (receive.Disconnected link) sure = refl
free_receiving (receive.RejectShallowRemoteConfig value) sure = refl
free_receiving (receive.NegotiationAlgorithmConfig value) sure = refl
free_receiving (receive.PackThreads value) sure = refl
free_receiving (receive.Fetch e) sure = refl
free_receiving receive.Client sure = sure
free_receiving receive.Interrupted sure = sure
free_receiving (receive.RejectShallowRemote id) sure = refl
free_receiving (receive.Pack e) sure = refl
free_receiving (receive.Collision id) sure = refl
free_receiving (receive.KeepFile path) sure = refl
free_receiving (receive.UpdateRefs e) sure = refl
free_receiving (receive.RemovePackKeepFile path) sure = refl
free_receiving receive.NoMemory sure = sure

-- a yes is told as one

yes_listing : (e : PrepareError) → is_yes (preparing e) ≡ true → is_interrupted e ≡ true
yes_listing prepare.MissingRefSpecs told = told
yes_listing (prepare.RefMap e) told = told
yes_listing prepare.NoMemory told = told

yes_receiving : (e : ReceiveError) → is_yes (receiving e) ≡ true → is_stopped e ≡ true
yes_receiving (receive.NoMapping specs count) told = told
yes_receiving (receive.IncompatibleObjectHash local remote) told = told
yes_receiving (receive.Disconnected link) told = told
yes_receiving (receive.RejectShallowRemoteConfig value) told = told
yes_receiving (receive.NegotiationAlgorithmConfig value) told = told
yes_receiving (receive.PackThreads value) told = told
yes_receiving (receive.Fetch e) told = told
yes_receiving receive.Client told = told
yes_receiving receive.Interrupted told = told
yes_receiving (receive.RejectShallowRemote id) told = told
yes_receiving (receive.Pack e) told = told
yes_receiving (receive.Collision id) told = told
yes_receiving (receive.KeepFile path) told = told
yes_receiving (receive.UpdateRefs e) told = told
yes_receiving (receive.RemovePackKeepFile path) told = told
yes_receiving receive.NoMemory told = told

-- ---- the whole broke off

listing_as : (answers : Bool) (old new : Option Talk) (g : Given) (e : PrepareError) → Breaks is_free_listing is_interrupted answers (bound_of g) old new [] (listing_stage g) e → Breaks is_free is_yes answers (bound_of g) old new [] (told_as preparing (listing_stage g)) (preparing e)
listing_as answers old new g e h = breaks_as is_free_listing is_interrupted is_free is_yes answers (bound_of g) old new [] preparing (listing_stage g) e (λ sure. sym (free_listing e) ∙ sure) (yes_listing e) h

receiving_as : (answers : Bool) (old new : Option Talk) (g : Given) (s : State) (l : ListedValue) (behind : List ℕ) (e : ReceiveError) → Breaks is_free_receiving is_stopped answers (bound_of g) old new behind (pack_stage g s l) e
    → Breaks is_free is_yes answers (bound_of g) old new behind (receiving_stage g s l) (receiving e)
unfolding receiving_stage
receiving_as answers old new g s l behind e h =
    breaks_early is_free is_yes answers (bound_of g) old new behind (told_as receiving (pack_stage g s l)) _ (receiving e)
    (breaks_as is_free_receiving is_stopped is_free is_yes answers (bound_of g) old new behind receiving (pack_stage g s l) e (free_receiving e) (yes_receiving e) h)

pub whole_listing : (answers : Bool) (old new : Option Talk) (g : Given) (s : State) (e : PrepareError) → Breaks is_free_listing is_interrupted answers (bound_of g) old new [] (listing_stage g) e
    → Breaks is_free is_yes answers (bound_of g) old new [] (conversation g s) (preparing e)
unfolding conversation
whole_listing answers old new g s e h = breaks_early is_free is_yes answers (bound_of g) old new [] (told_as preparing (listing_stage g)) (receiving_stage g s) (preparing e) (listing_as answers old new g e h)

pub whole_receiving : (answers : Bool) (old mid new : Option Talk) (g : Given) (s : State) (l : ListedValue) (behind : List ℕ) (e : ReceiveError)
    → Concludes answers (bound_of g) old mid [] (listing_stage g) l behind → Breaks is_free_receiving is_stopped answers (bound_of g) mid new behind (pack_stage g s l) e
    → Breaks is_free is_yes answers (bound_of g) old new [] (conversation g s) (receiving e)
unfolding conversation
whole_receiving answers old mid new g s l behind e h k =
    breaks_late is_free is_yes answers (bound_of g) old mid new [] behind (told_as preparing (listing_stage g)) (receiving_stage g s) l (receiving e)
    (concludes_as answers (bound_of g) old mid [] behind preparing (listing_stage g) l h) (receiving_as answers mid new g s l behind e k)

-- ---- a prefix of the requests

front_then : {X Y E F : Type 0} (bound : ℕ) (f : E → F) (c : Conversation X E) (next : X → Conversation Y F) (stream heard : List ℕ) → IsFront heard (lines_text (sent_in bound c stream))
    → IsFront heard (lines_text (sent_in bound (and_then (told_as f c) next) stream))
front_then bound f c next stream heard front =
    let sent = sent_then bound (told_as f c) next stream in
    let behind = sent_behind bound next (answer_in bound (told_as f c) stream) in (
      front.0 ++ lines_text behind,
      ap lines_text sent ∙ flat_map-append line_text _ behind ∙ ap (λ (l : List Line). lines_text l ++ lines_text behind) (sent_as bound f c stream) ∙ ap (λ (l : List ℕ). l ++ lines_text behind) front.1 ∙ append_assoc heard front.0 (lines_text behind),
    )

pub front_listing : (g : Given) (s : State) (said heard : List ℕ) → IsFront heard (lines_text (sent_in (bound_of g) (listing_stage g) said)) → IsFront heard (lines_text (sent_in (bound_of g) (conversation g s) said))
unfolding conversation
front_listing g s said heard front = front_then (bound_of g) preparing (listing_stage g) (receiving_stage g s) said heard front

front_behind : (a b c : List ℕ) → IsFront b c → IsFront (a ++ b) (a ++ c)
front_behind a b c f = (f.0, ap (λ (l : List ℕ). a ++ l) f.1 ∙ sym (append_assoc a b f.0))

-- the listing is answered in this, and the pack asked for in the rest
pub record Later (g : Given) (s : State) (l : ListedValue) (said behind first later : List ℕ) : Type 0 where
  pub asked : lines_text (sent_in (bound_of g) (listing_stage g) said) ≡ first
  pub answered : answer_in (bound_of g) (listing_stage g) said ≡ Ok (l, behind)
  pub front : IsFront later (lines_text (sent_in (bound_of g) (pack_stage g s l) behind))

pub front_receiving : (g : Given) (s : State) (l : ListedValue) (said behind first later : List ℕ) → Later g s l said behind first later → IsFront (first ++ later) (lines_text (sent_in (bound_of g) (conversation g s) said))
unfolding conversation receiving_stage
front_receiving g s l said behind first later h =
    let answered : answer_in (bound_of g) (told_as preparing (listing_stage g)) said ≡ Ok (l, behind) = answer_as (bound_of g) preparing (listing_stage g) said ∙ ap (λ (a : Result (ListedValue × List ℕ) PrepareError). map_refusal preparing a) h.answered in
    let text = text_then (bound_of g) (told_as preparing (listing_stage g)) (receiving_stage g s) said behind l answered in
    let first_is : lines_text (sent_in (bound_of g) (told_as preparing (listing_stage g)) said) ≡ first = ap lines_text (sent_as (bound_of g) preparing (listing_stage g) said) ∙ h.asked in
    let front = front_then (bound_of g) receiving (pack_stage g s l) (λ r. ends (Ok (record { listed = l; received = r }))) behind later h.front in
    rw (text, first_is) (front_behind first later _ front)
