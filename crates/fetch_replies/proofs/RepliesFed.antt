-- A reader of one reply is fed.
use Rattle.std.proofs.Common.{◌≡◌, ℕ, Bool, true, false, not, ◌&&◌, List, [], ◌++◌, Option, Some, None, Result, Ok, Err, refl, sym, ap, ◌∙◌, append_assoc}
use Rattle.std.specs.Prelude.{is_some}
use Rattle.std.specs.Option.{option_map}
use Rattle.std.proofs.lemmas.List.{append-nil}
use Rattle.fetch_replies.specs.declared.replies.reply.ReplyError.{ReplyError}
use Rattle.fetch_replies.specs.declared.replies.reply.ReplyError.TheVariants as faults
use Rattle.fetch_replies.specs.declared.replies.reply.ParsedReply.{ParsedReply}
use Rattle.fetch_replies.specs.declared.replies.parser.ReplyParser.{ReplyParser}
use Rattle.fetch_replies.specs.declared.replies.reply_buffer.FoundReply.{FoundReply}
use Rattle.fetch_replies.specs.declared.replies.reply_buffer.FoundReply.TheVariants as found
use Rattle.fetch_replies.specs.Awaited.{step_of, told_from}
use Rattle.fetch_replies.specs.Intakes.{ReplyBuffer, Finds, ReadsOn, told_with, taking}
use Rattle.fetch_replies.specs.Progressing.{is_lasting}
use Rattle.fetch_replies.specs.ReplyReadings.{tells_by, is_open, is_kept, first_found, whole_in, refusal_in}
use Rattle.fetch_replies.specs.StepLaws.{read_by-more, with_more, IsSettled}

-- the bytes that were there, a piece, and more after it
joined : (pending piece more : List ℕ) → ((pending ++ piece) ++ []) ++ more ≡ pending ++ (piece ++ more)
joined pending piece more = ap (λ (l : List ℕ). l ++ more) (append-nil (pending ++ piece)) ∙ append_assoc pending piece more

-- what a piece settles stays
settled : (bound place : ℕ) (r : ReplyParser) (pending piece more : List ℕ) (x : Result (ParsedReply × List ℕ) ReplyError) → told_from bound r place ((pending ++ piece) ++ []) ≡ x → IsSettled x
    → told_from bound r place (pending ++ (piece ++ more)) ≡ with_more x more
settled bound place r pending piece more x is lasts =
    sym (ap (told_from bound r place) (joined pending piece more))
    ∙ read_by-more step_of bound place r ((pending ++ piece) ++ []) more (λ p e. lasts p (sym is ∙ e)) ∙ ap (λ (y : Result (ParsedReply × List ℕ) ReplyError). with_more y more) is

awaiting_fed : (bound place : ℕ) (r : ReplyParser) (pending piece more : List ℕ) (now : ReplyBuffer) (what : FoundReply) (x : Result (ParsedReply × List ℕ) ReplyError) → told_from bound r place ((pending ++ piece) ++ []) ≡ x
    → Finds (record { bound = bound; place = place; pending = pending ++ piece; reading = Some r }) (Some x) now what
    → tells_by what now more ≡ Some (told_from bound r place (pending ++ (piece ++ more)))
awaiting_fed bound place r pending piece more now what (Ok (t, rest)) is h = rw (h.0, h.1, settled bound place r pending piece more (Ok (t, rest)) is (λ p e. cc)) refl
awaiting_fed bound place r pending piece more now what (Err (faults.Short p)) is h =
    rw h.1 (h.0.told more ∙ ap (λ (l : List ℕ). Some (told_from bound r place l)) (append_assoc pending piece more))
awaiting_fed bound place r pending piece more now what (Err (faults.Broken p)) is h = rw (h.1, settled bound place r pending piece more (Err (faults.Broken p)) is (λ q e. cc)) refl
awaiting_fed bound place r pending piece more now what (Err faults.TooLong) is h = rw (h.1, settled bound place r pending piece more (Err faults.TooLong) is (λ q e. cc)) refl
awaiting_fed bound place r pending piece more now what (Err (faults.Said text)) is h = rw (h.1, settled bound place r pending piece more (Err (faults.Said text)) is (λ q e. cc)) refl

nothing_fed : (i now : ReplyBuffer) (what : FoundReply) (piece more : List ℕ) (reading : Option ReplyParser) → i.reading ≡ reading
    → ReadsOn (record { bound = i.bound; place = i.place; pending = i.pending ++ piece; reading = reading }) now what
    → tells_by what now more ≡ option_map (λ r. told_from i.bound r i.place (i.pending ++ (piece ++ more))) reading
nothing_fed i now what piece more None is h = rw (h.0, h.1) refl
nothing_fed i now what piece more (Some r) is h = awaiting_fed i.bound i.place r i.pending piece more now what (told_from i.bound r i.place ((i.pending ++ piece) ++ [])) refl h

-- where none is awaited, what comes waits
waits : (i now : ReplyBuffer) (what : FoundReply) (piece : List ℕ) (reading : Option ReplyParser) → not (is_some reading) ≡ true
    → ReadsOn (record { bound = i.bound; place = i.place; pending = i.pending ++ piece; reading = reading }) now what → (now.pending ≡ i.pending ++ piece) × (now.reading ≡ None)
waits i now what piece None kept h = rw h.0 (refl, refl)
waits i now what piece (Some r) kept h = absurd cc

-- Bytes that are fed count as bytes that come next.
pub fed_is : (i now : ReplyBuffer) (before what : FoundReply) (piece more : List ℕ) → is_kept i before ≡ true → ReadsOn (taking piece i) now what
    → tells_by (first_found before what) now more ≡ tells_by before i (piece ++ more)
fed_is i now found.Nothing what piece more kept h = nothing_fed i now what piece more i.reading refl h
fed_is i now (found.Whole t) what piece more kept h =
    ap (λ (l : List ℕ). Some (Ok (t, l ++ more))) (waits i now what piece i.reading kept h).0 ∙ ap (λ (l : List ℕ). Some (Ok (t, l))) (append_assoc i.pending piece more)
fed_is i now (found.Refused fault) what piece more kept h = refl

found_kept : (before now : ReplyBuffer) (what : FoundReply) (x : Option (Result (ParsedReply × List ℕ) ReplyError)) → told_with before [] ≡ x → Finds before x now what → is_kept now what ≡ true
found_kept before now what None is h = rw (h.1, h.0) (ap is_open is)
found_kept before now what (Some (Ok x)) is h = rw (h.1, h.0) refl
found_kept before now what (Some (Err (faults.Short p))) is h = rw h.1 (ap is_open (h.0.told [] ∙ is))
found_kept before now what (Some (Err (faults.Broken p))) is h = rw (h.1, h.0) refl
found_kept before now what (Some (Err faults.TooLong)) is h = rw (h.1, h.0) refl
found_kept before now what (Some (Err (faults.Said text))) is h = rw (h.1, h.0) refl

fault_kept : (i now : ReplyBuffer) (what : FoundReply) (piece : List ℕ) (fault : ReplyError) (reading : Option ReplyParser) → (not (is_some reading) && is_lasting fault) ≡ true
    → ReadsOn (record { bound = i.bound; place = i.place; pending = i.pending ++ piece; reading = reading }) now what → (not (is_some now.reading) && is_lasting fault) ≡ true
fault_kept i now what piece fault None kept h = rw h.0 kept
fault_kept i now what piece fault (Some r) kept h = absurd cc

-- what is found is kept so
pub kept_is : (i now : ReplyBuffer) (before what : FoundReply) (piece : List ℕ) → is_kept i before ≡ true → ReadsOn (taking piece i) now what → is_kept now (first_found before what) ≡ true
kept_is i now found.Nothing what piece kept h = found_kept (taking piece i) now what (told_with (taking piece i) []) refl h
kept_is i now (found.Whole t) what piece kept h = ap (λ (reading : Option ReplyParser). not (is_some reading)) (waits i now what piece i.reading kept h).1
kept_is i now (found.Refused fault) what piece kept h = fault_kept i now what piece fault i.reading kept h

-- ---- where memory ran out

-- where none is awaited, nothing is told
pub told_none : (i : ReplyBuffer) (more : List ℕ) → i.reading ≡ None → told_with i more ≡ None
told_none i more is = ap (λ (reading : Option ReplyParser). option_map (λ r. told_from i.bound r i.place (i.pending ++ more)) reading) is

-- none is awaited, and nothing was found
pub open_none : (i : ReplyBuffer) → i.reading ≡ None → is_kept i found.Nothing ≡ true
open_none i is = ap is_open (told_none i [] is)

some_mapped : {A B : Type 0} (f : A → B) (o : Option A) → is_some (option_map f o) ≡ is_some o
some_mapped f None = refl
some_mapped f (Some x) = refl

-- where one is awaited, something is told
pub told_awaits : (i : ReplyBuffer) (more : List ℕ) → is_some (told_with i more) ≡ is_some i.reading
told_awaits i more = some_mapped (λ r. told_from i.bound r i.place (i.pending ++ more)) i.reading

none_by : {A : Type 0} (o : Option A) → not (is_some o) ≡ true → o ≡ None
none_by None is = refl
none_by (Some x) is = absurd cc

-- nothing is told whatever comes
pub lost_stays : (f : FoundReply) (i : ReplyBuffer) (more : List ℕ) → not (is_some (tells_by f i [])) ≡ true → tells_by f i more ≡ None
lost_stays found.Nothing i more is = told_none i more (none_by i.reading (sym (ap not (told_awaits i [])) ∙ is))
lost_stays (found.Whole t) i more is = absurd cc
lost_stays (found.Refused fault) i more is = absurd cc

pub not_lost : (told : Option (Result (ParsedReply × List ℕ) ReplyError)) → not (is_some told) ≡ false → told ≡ None → ⊥
not_lost None kept is = cc
not_lost (Some x) kept is = cc

-- ---- what is told so far

last_true : (a b : Bool) → (a && b) ≡ true → b ≡ true
last_true true b h = h
last_true false b h = absurd cc

pub open_whole : (told : Option (Result (ParsedReply × List ℕ) ReplyError)) → is_open told ≡ true → whole_in told ≡ None
open_whole None is = refl
open_whole (Some (Ok x)) is = absurd cc
open_whole (Some (Err fault)) is = refl

pub open_refusal : (told : Option (Result (ParsedReply × List ℕ) ReplyError)) → is_open told ≡ true → refusal_in told ≡ None
open_refusal None is = refl
open_refusal (Some (Ok x)) is = refl
open_refusal (Some (Err (faults.Short place))) is = refl
open_refusal (Some (Err (faults.Broken place))) is = absurd cc
open_refusal (Some (Err faults.TooLong)) is = absurd cc
open_refusal (Some (Err (faults.Said text))) is = absurd cc

lasting_refusal : (fault : ReplyError) → is_lasting fault ≡ true → refusal_in (Some (Err fault)) ≡ Some fault
lasting_refusal (faults.Short place) lasts = absurd cc
lasting_refusal (faults.Broken place) lasts = refl
lasting_refusal faults.TooLong lasts = refl
lasting_refusal (faults.Said text) lasts = refl

-- a fault that was found is why the reply can't become whole
pub refusal_is : (i : ReplyBuffer) (fault : ReplyError) → is_kept i (found.Refused fault) ≡ true → refusal_in (Some (Err fault)) ≡ Some fault
refusal_is i fault kept = lasting_refusal fault (last_true (not (is_some i.reading)) (is_lasting fault) kept)

not_short : (fault : ReplyError) (place : ℕ) → is_lasting fault ≡ true → fault ≡ faults.Short place → ⊥
not_short (faults.Short p) place lasts is = cc
not_short (faults.Broken p) place lasts is = cc
not_short faults.TooLong place lasts is = cc
not_short (faults.Said text) place lasts is = cc

-- where more bytes are needed, the reply is short where it was read to
pub place_is : (i : ReplyBuffer) (f : FoundReply) (place : ℕ) → is_kept i f ≡ true → (is_some i.reading ≡ true → told_with i [] ≡ Some (Err (faults.Short i.place)))
    → tells_by f i [] ≡ Some (Err (faults.Short place)) → i.place ≡ place
place_is i found.Nothing place kept short is =
    let there = short (sym (told_awaits i []) ∙ ap is_some is) in
    let same : Some (Err (faults.Short i.place)) ≡ Some (Err (faults.Short place)) = sym there ∙ is in cc
place_is i (found.Whole t) place kept short is = absurd cc
place_is i (found.Refused fault) place kept short is =
    absurd (not_short fault place (last_true (not (is_some i.reading)) (is_lasting fault) kept) cc)

-- what stands behind a reply that is whole
abbrev behind_whole : Option (Result (ParsedReply × List ℕ) ReplyError) → List ℕ
behind_whole None = []
behind_whole (Some (Ok x)) = x.1
behind_whole (Some (Err fault)) = []

-- what follows a reply that is whole
pub rest_is : (i : ReplyBuffer) (f : FoundReply) (t : ParsedReply) (rest : List ℕ) → is_kept i f ≡ true → tells_by f i [] ≡ Some (Ok (t, rest)) → i.pending ≡ rest
rest_is i found.Nothing t rest kept is = absurd (let shut : false ≡ true = sym (ap is_open is) ∙ kept in cc)
rest_is i (found.Whole s) t rest kept is = sym (append-nil i.pending) ∙ ap behind_whole is
rest_is i (found.Refused fault) t rest kept is = absurd cc
