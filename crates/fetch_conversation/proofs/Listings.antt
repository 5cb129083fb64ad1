-- The first stage is held.
use Rattle.std.proofs.Common.{◌≡◌, ◌≢◌, ℕ, Bool, true, false, List, [], ◌∷◌, map, Option, Some, None, Result, Ok, Err, refl, sym, ◌∙◌, subst}
use Rattle.std.specs.Prelude.{IfErr}
use Rattle.fetch_specs.specs.Conflicts.{conflicts_of}
use Rattle.fetch_specs.specs.Matches.{mappings_of}
use Rattle.fetch_specs.specs.declared.conflict.Conflict.{Conflict}
use Rattle.fetch_wire.specs.Parameters.{first_bad, texts_told}
use Rattle.fetch_wire.specs.SessionStates.{SessionState, IsAlike, fed, opened}
use Rattle.fetch_replies.specs.Stepping.{read_within}
use Rattle.fetch_lines.specs.Lines.{line_at}
use Rattle.fetch_lines.specs.Talks.{Talk}
use Rattle.fetch_lines.specs.Written.{first_too_long}
use Rattle.fetch_lines.specs.declared.error.WireError.{WireError}
use Rattle.fetch_lines.specs.declared.error.WireError.TheVariants as wire
use Rattle.fetch_lines.specs.declared.greetings.handshake.Handshake.{Handshake}
use Rattle.fetch_lines.specs.declared.lines.line.Line.{Line}
use Rattle.fetch_lines.specs.declared.listings.reference.Ref.{Ref}
use Rattle.fetch_lines.specs.References.{name_in}
use Rattle.fetch_wire.proofs.Conversing.{same}
use Rattle.fetch_conversation.specs.Conversation.{Conversation, ends, sent_in, answer_in, Concludes, RefusesWith, Converses}
use Rattle.fetch_conversation.specs.Drives.{IsDrivable, Finishes, Stops}
use Rattle.fetch_conversation.specs.Errors.{is_free_listing, is_interrupted, prepare_of, prepare_of_wire, prepare_of_stop}
use Rattle.fetch_conversation.specs.Listing.{IsOpened, TellsUnopened, Answers, TellsConflicts, first_of}
use Rattle.fetch_conversation.specs.ListStage.{LsRefsValue, ListedValue, prefixes_asked, all_specs, handshaking, too_long, no_specs, mapped, mapped_unless, map_of, ls_refs_stage, list_stage, answer_shown, left_by, shown, is_nil}
use Rattle.fetch_conversation.specs.declared.drive.DriveError.{DriveError}
use Rattle.fetch_conversation.specs.declared.drive.DriveError.TheVariants as stops
use Rattle.fetch_conversation.specs.declared.listing.Listed.{Listed}
use Rattle.fetch_conversation.specs.declared.prepare.Error.{Error}
use Rattle.fetch_conversation.specs.declared.prepare.Error.TheVariants as errors
use Rattle.fetch_conversation.specs.declared.ref_map.Error.{Error as MapError}
use Rattle.fetch_conversation.specs.declared.ref_map.Error.TheVariants as ref_map
use Rattle.fetch_conversation.proofs.LsRefsStage.{finding, ls_refs_from, tied}
use Rattle.fetch_conversation.proofs.Heeded.{prepares}
use Rattle.fetch_conversation.proofs.Tied.{IsTied, IsWord, concluded, refused_at_end, broken, broken_free, broken_first}

-- ---- nothing is sent

abbrev bound_of : LsRefsValue → ℕ
bound_of q = q.options.max_reply_bytes

abbrev AsksLsRefs : Bool → Option Talk → Option Talk → LsRefsValue → Result Listed Error → Type 0
AsksLsRefs answers old new q result = Converses is_free_listing is_interrupted answers (bound_of q) old new [] (left_by result) (ls_refs_stage (bound_of q) q) (answer_shown result)

refusing : {X E : Type 0} (bound : ℕ) (c : Conversation X E) (e : E) (stream : List ℕ) → c ≡ ends (Err e) → RefusesWith bound c stream [] e
unfolding sent_in answer_in
refusing bound c e stream is = rw is (record { answer = refl; asked = refl })

pub ls_refs_free : (answers : Bool) (old : Option Talk) (q : LsRefsValue) (e : Error) → is_free_listing e ≡ true → is_interrupted e ≡ false → AsksLsRefs answers old old q (Err e)
ls_refs_free answers old q e free going = record { held = broken_free is_free_listing is_interrupted answers (bound_of q) old [] (ls_refs_stage (bound_of q) q) e free going }

ls_refs_refusal : (answers : Bool) (old : Option Talk) (q : LsRefsValue) (e : Error) → is_interrupted e ≡ false → ls_refs_stage (bound_of q) q ≡ ends (Err e) → AsksLsRefs answers old old q (Err e)
ls_refs_refusal answers old q e going is = record { held = broken_first is_free_listing is_interrupted answers (bound_of q) old [] (ls_refs_stage (bound_of q) q) e going (λ isnt stream. refusing (bound_of q) (ls_refs_stage (bound_of q) q) e stream is) }

bad_stage : (bound : ℕ) (q : LsRefsValue) (text : List ℕ) (place : ℕ) → first_bad (texts_told q.address q.options.handshake_parameters q.agent) ≡ Some (text, place) → ls_refs_stage bound q ≡ ends (Err (handshaking (wire.BadParameter text place)))
unfolding ls_refs_stage
bad_stage bound q text place is = rw is refl

long_stage : (bound : ℕ) (q : LsRefsValue) (n : ℕ) → first_bad (texts_told q.address q.options.handshake_parameters q.agent) ≡ None → first_too_long (first_of q ∷ []) ≡ Some n → ls_refs_stage bound q ≡ ends (Err (too_long n))
unfolding ls_refs_stage
long_stage bound q n good is = rw (good, is) refl

-- what can't be sent
pub ls_refs_unopened : (answers : Bool) (old : Option Talk) (q : LsRefsValue) (e : WireError) → TellsUnopened q e → AsksLsRefs answers old old q (Err (prepare_of_wire e))
ls_refs_unopened answers old q wire.NoMemory h = ls_refs_free answers old q errors.NoMemory refl refl
ls_refs_unopened answers old q (wire.BadParameter text place) h = ls_refs_refusal answers old q (handshaking (wire.BadParameter text place)) refl (bad_stage (bound_of q) q text place h)
ls_refs_unopened answers old q (wire.LineTooLong n) h = ls_refs_refusal answers old q (too_long n) refl (long_stage (bound_of q) q n h.0 h.1)
ls_refs_unopened answers old q (wire.Malformed place) h = absurd h
ls_refs_unopened answers old q (wire.ServerError text) h = absurd h
ls_refs_unopened answers old q (wire.ReplyTooLong bound) h = absurd h
ls_refs_unopened answers old q (wire.MissingFeature name) h = absurd h

-- ---- a session that is opened

opened_read : (bound : ℕ) (agent : List ℕ) (prefixes : List (List ℕ)) (first : Line) → fed (opened bound agent prefixes first) [] ≡ opened bound agent prefixes first
unfolding read_within line_at
opened_read bound agent prefixes first = refl

pub opened_drivable : (q : LsRefsValue) (s : SessionState) → IsOpened q s → IsDrivable s
opened_drivable q s h =
    let o : SessionState = opened (bound_of q) q.agent (prefixes_asked q) (first_of q) in
    subst IsDrivable (sym h.is) (record {
      read = subst (IsAlike o) (sym (opened_read (bound_of q) q.agent (prefixes_asked q) (first_of q))) (same o);
      unrefused = refl;
    })

stage_is : (q : LsRefsValue) (s : SessionState) → IsOpened q s → ls_refs_stage (bound_of q) q ≡ ls_refs_from (bound_of q) q (first_of q)
unfolding ls_refs_stage
stage_is q s h = rw (h.sendable, h.fits) refl

stage_tied : (q : LsRefsValue) (s : SessionState) → IsOpened q s → IsTied handshaking (finding q) (bound_of q) s (ls_refs_stage (bound_of q) q) []
stage_tied q s h =
    subst (λ (t : SessionState). IsTied handshaking (finding q) (bound_of q) t (ls_refs_stage (bound_of q) q) []) (sym h.is)
    (subst (λ (c : Conversation ListedValue Error). IsTied handshaking (finding q) (bound_of q) (opened (bound_of q) q.agent (prefixes_asked q) (first_of q)) c []) (sym (stage_is q s h)) (tied q (bound_of q) (first_of q)))

-- ---- a session that was stopped

word_by : (e : WireError) → is_free_listing (prepare_of_wire e) ≡ false → (e ≢ wire.NoMemory) × (prepare_of_wire e ≡ handshaking e)
word_by wire.NoMemory isnt = absurd (cc)
word_by (wire.Malformed place) isnt = (λ e. cc, refl)
word_by (wire.ServerError text) isnt = (λ e. cc, refl)
word_by (wire.ReplyTooLong bound) isnt = (λ e. cc, refl)
word_by (wire.MissingFeature name) isnt = (λ e. cc, refl)
word_by (wire.LineTooLong n) isnt = (λ e. cc, refl)
word_by (wire.BadParameter text place) isnt = (λ e. cc, refl)

word_is : (stop : DriveError) → IsWord is_free_listing is_interrupted handshaking stop (prepare_of_stop stop)
word_is (stops.Refused e) = (word_by e, sym (prepares e))
word_is stops.Failed = (refl, refl)
word_is stops.Interrupted = refl

pub ls_refs_stopped : (answers : Bool) (old new : Option Talk) (q : LsRefsValue) (s : SessionState) (stop : DriveError) → IsOpened q s → Stops answers old new s stop → AsksLsRefs answers old new q (Err (prepare_of_stop stop))
ls_refs_stopped answers old new q s stop h stopped = record {
  held = broken handshaking (finding q) is_free_listing is_interrupted answers (bound_of q) old new s (ls_refs_stage (bound_of q) q) [] stop (prepare_of_stop stop) (stage_tied q s h) stopped (word_is stop);
}

-- ---- a session that was driven to its end

pub ls_refs_found : (answers : Bool) (old new : Option Talk) (q : LsRefsValue) (s now : SessionState) (result : Result Listed Error) → IsOpened q s → Finishes answers old new s now → IfErr result (λ e. is_interrupted e ≡ false) → Answers q now result → AsksLsRefs answers old new q result
ls_refs_found answers old new q s now (Ok l) h finished going a = record {
  held = subst (λ (t : SessionState). Concludes answers (bound_of q) old new [] (ls_refs_stage (bound_of q) q) (shown l) t.intake.pending) (sym a.1)
      (concluded handshaking (finding q) answers (bound_of q) old new s now (ls_refs_stage (bound_of q) q) [] (shown l) (stage_tied q s h) finished a.0);
}
ls_refs_found answers old new q s now (Err e) h finished going a = record {
  held = refused_at_end handshaking (finding q) is_free_listing is_interrupted answers (bound_of q) old new s now (ls_refs_stage (bound_of q) q) [] e (stage_tied q s h) finished going a;
}

-- the bound stays
pub ls_refs_bound : (answers : Bool) (old new : Option Talk) (q : LsRefsValue) (s now : SessionState) → IsOpened q s → Finishes answers old new s now → now.intake.bound ≡ bound_of q
ls_refs_bound answers old new q s now h finished = finished.went.is.intake.bound ∙ (stage_tied q s h).bounded finished.went.said

-- ---- with a refspec, and without one

abbrev Lists : Bool → Option Talk → Option Talk → LsRefsValue → Result Listed Error → Type 0
Lists answers old new q result = Converses is_free_listing is_interrupted answers (bound_of q) old new [] (left_by result) (list_stage (bound_of q) q) (answer_shown result)

missing_stage : (bound : ℕ) (q : LsRefsValue) → no_specs q ≡ Some errors.MissingRefSpecs → list_stage bound q ≡ ends (Err errors.MissingRefSpecs)
unfolding list_stage
missing_stage bound q is = rw is refl

-- no refspec
pub lists_missing : (answers : Bool) (old : Option Talk) (q : LsRefsValue) → no_specs q ≡ Some errors.MissingRefSpecs → Lists answers old old q (Err errors.MissingRefSpecs)
lists_missing answers old q is = record {
  held = broken_first is_free_listing is_interrupted answers (bound_of q) old [] (list_stage (bound_of q) q) errors.MissingRefSpecs refl (λ isnt stream. refusing (bound_of q) (list_stage (bound_of q) q) errors.MissingRefSpecs stream (missing_stage (bound_of q) q is));
}

named_stage : (bound : ℕ) (q : LsRefsValue) → no_specs q ≡ None → ls_refs_stage bound q ≡ list_stage bound q
unfolding list_stage
named_stage bound q is = rw is refl

-- some refspec
pub lists_named : (answers : Bool) (old new : Option Talk) (q : LsRefsValue) (result : Result Listed Error) → no_specs q ≡ None → AsksLsRefs answers old new q result → Lists answers old new q result
lists_named answers old new q result is h =
    subst (λ (c : Conversation ListedValue Error). Converses is_free_listing is_interrupted answers (bound_of q) old new [] (left_by result) c (answer_shown result)) (named_stage (bound_of q) q is) h

-- ---- what was listed

unless_none : (q : LsRefsValue) (h : Handshake) (refs : List Ref) (conflicts : List Conflict) → conflicts ≡ [] → mapped_unless conflicts q h refs ≡ Ok (record { ref_map = map_of q h refs; handshake = h })
unless_none q h refs conflicts is = rw is refl

pub mapped_clear : (q : LsRefsValue) (h : Handshake) (refs : List Ref) → conflicts_of (mappings_of (all_specs q) (map name_in refs) h.object_hash) ≡ [] → mapped q h refs ≡ Ok (record { ref_map = map_of q h refs; handshake = h })
unfolding mapped
mapped_clear q h refs is = unless_none q h refs (conflicts_of (mappings_of (all_specs q) (map name_in refs) h.object_hash)) is

unless_some : (q : LsRefsValue) (h : Handshake) (refs : List Ref) (found conflicts : List Conflict) → found ≡ conflicts → is_nil conflicts ≡ false → mapped_unless found q h refs ≡ Err (errors.RefMap (ref_map.InitRefMap conflicts))
unless_some q h refs found [] is isnt = absurd (cc)
unless_some q h refs found (c ∷ cs) is isnt = rw is refl

pub mapped_refused : (q : LsRefsValue) (h : Handshake) (refs : List Ref) (e : MapError) → TellsConflicts (conflicts_of (mappings_of (all_specs q) (map name_in refs) h.object_hash)) e → is_free_listing (prepare_of e) ≡ false → mapped q h refs ≡ Err (prepare_of e)
unfolding mapped
mapped_refused q h refs (ref_map.Handshake e) is isnt = absurd is
mapped_refused q h refs ref_map.Transport is isnt = absurd is
mapped_refused q h refs ref_map.Interrupted is isnt = absurd is
mapped_refused q h refs ref_map.NoMemory is isnt = absurd (cc)
mapped_refused q h refs (ref_map.InitRefMap conflicts) is isnt = unless_some q h refs (conflicts_of (mappings_of (all_specs q) (map name_in refs) h.object_hash)) conflicts is.0 is.1
