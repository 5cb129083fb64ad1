-- A fetch in steps: from what was listed on, and a listing by itself.
use Rattle.std.proofs.Common.{◌≡◌, ℕ, Bool, true, false, List, [], ◌∷◌, ◌++◌, map, Option, Some, None, Result, Ok, Err, refl, sym, ◌∙◌, ap, subst, append_assoc, inl, inr}
use Rattle.std.specs.Prelude.{◌⊎◌, ⊤, IfSome, IfOk, IfErr, if◌then◌else◌}
use Rattle.std.specs.Option.{option_map}
use Rattle.fetch_store.specs.Graph.{graph_of}
use Rattle.fetch_specs.specs.declared.conflict.Conflict.{Conflict}
use Rattle.fetch_specs.specs.Conflicts.{conflicts_of}
use Rattle.fetch_specs.specs.Matches.{mappings_of}
use Rattle.fetch_update.specs.declared.update.Outcome.{Outcome as Updates}
use Rattle.fetch_update.specs.declared.worktrees.Worktree.{Worktree}
use Rattle.fetch_files.specs.Trees.{Tree}
use Rattle.fetch_replies.specs.Awaited.{told_at}
use Rattle.fetch_lines.specs.Greetings.{offers}
use Rattle.fetch_wire.specs.Parameters.{first_bad, texts_told}
use Rattle.fetch_lines.specs.References.{name_in}
use Rattle.fetch_lines.specs.Requests.{first_line}
use Rattle.fetch_wire.specs.SessionStates.{listing_feature}
use Rattle.fetch_lines.specs.Talks.{Talk}
use Rattle.fetch_lines.specs.Written.{first_too_long}
use Rattle.fetch_replies.specs.declared.replies.reply.ReplyKind.{ReplyKind}
use Rattle.fetch_replies.specs.declared.replies.reply.ReplyKind.TheVariants as awaits
use Rattle.fetch_replies.specs.declared.replies.reply.ReplyError.{ReplyError}
use Rattle.fetch_replies.specs.declared.replies.reply.ParsedReply.{ParsedReply}
use Rattle.fetch_replies.specs.declared.replies.reply.ParsedReply.TheVariants as told
use Rattle.fetch_lines.specs.declared.error.WireError.TheVariants as wire
use Rattle.fetch_lines.specs.declared.greetings.handshake.Handshake.{Handshake}
use Rattle.fetch_lines.specs.declared.lines.line.Line.{Line}
use Rattle.fetch_lines.specs.declared.listings.reference.Ref.{Ref}
use Rattle.fetch_conversation.specs.Conversation.{Conversation, ends, asks, asks_unless, answer_in, after_reply, Concludes, Breaks, IsRefusedBy}
use Rattle.fetch_conversation.specs.Errors.{is_free_listing, is_free_receiving, prepare_of, is_interrupted, is_stopped}
use Rattle.fetch_conversation.specs.ListStage.{LsRefsValue, ListedValue, all_specs, handshaking, too_long, failed, ls_refs_stage, listing, listed, greeted, mapped, mapped_unless, unless, unlisted, unsendable, shown, pending_of}
use Rattle.fetch_conversation.specs.declared.conversing.Received.{Received}
use Rattle.fetch_conversation.specs.declared.fetch.Error.{Error as ReceiveError}
use Rattle.fetch_conversation.specs.declared.fetch.Error.TheVariants as receive
use Rattle.fetch_conversation.specs.declared.listing.Listed.{Listed}
use Rattle.fetch_conversation.specs.declared.prepare.Error.{Error as PrepareError}
use Rattle.fetch_conversation.specs.declared.prepare.Error.TheVariants as prepare
use Rattle.fetch_conversation.specs.declared.ref_map.Error.{Error as MapError}
use Rattle.fetch_conversation.specs.declared.ref_map.Error.TheVariants as ref_map
use Rattle.fetch_remote.specs.Errors.{preparing, receiving}
use Rattle.fetch_remote.specs.Fetching.{apply_options_in, taken_in}
use Rattle.fetch_remote.specs.Form.{Given}
use Rattle.fetch_remote.specs.Judging.{IsTold, judged_of}
use Rattle.fetch_remote.specs.Keeping.{AreFiles, left_tree}
use Rattle.fetch_remote.specs.Refused.{IsRefused}
use Rattle.fetch_remote.specs.Repositories.{State}
use Rattle.fetch_remote.specs.Applying.{policy_in, IsApplied}
use Rattle.fetch_remote.specs.Stages.{bound_of, wants_in, inquiry_in, terms_in, pack_stage}
use Rattle.fetch_remote.specs.Steps.{HasListed, BreaksOff, HasReceived, IsReceived, IsUnreceived, ReceivesBy, listing_error, is_missing}
use Rattle.fetch_remote.specs.Conversed.{HasEnded, BreaksListing, BreaksReceiving}
use Rattle.fetch_remote.specs.declared.fetching.fetch_error.FetchError.TheVariants as errors
use Rattle.fetch_remote.specs.declared.fetching.outcome.Outcome.{Outcome}
use Rattle.fetch_remote.specs.declared.fetching.exchange.Exchange.{Exchange}
use Rattle.fetch_remote.proofs.Fetched.{at_outcome, moved_in, is_carried_out}
use Rattle.fetch_remote.proofs.Negotiated.{are_held}
use Rattle.fetch_remote.proofs.Applied.{applied_as}
use Rattle.fetch_conversation.proofs.Tied.{broken_free}
use Rattle.fetch_remote.proofs.Received.{is_received}
use Rattle.fetch_remote.proofs.Refused.{broken_off}
use Rattle.fetch_remote.specs.Blame.{fault_in, keep_fault_in}
use Rattle.fetch_remote.proofs.Blamed.{tells_no_trees, tells_no_keep}
use Rattle.fetch_remote.proofs.Unjudged.{IsOther, refused_as}

-- ---- the second stage after the first

-- both are held to their ends
pub exchanged_on : (answers : Bool) (old mid new : Option Talk) (g : Given) (s : State) (listed : Listed) (t : Exchange) → HasListed answers old mid (inquiry_in g) listed → HasReceived answers mid new g s listed t → HasEnded answers old new g s t
exchanged_on answers old mid new g s listed t h k = record {
  told = rw k.kept (record { between = mid; behind = pending_of listed; list = h.list; pack = k.pack });
  wants = k.wants ∙ sym (ap (λ (l : ListedValue). wants_in g s l.ref_map) k.kept);
}

-- the first one breaks off
pub breaks_off : (answers : Bool) (old new : Option Talk) (g : Given) (s : State) (e : PrepareError) → BreaksOff answers old new (inquiry_in g) e → BreaksListing answers old new g (preparing e) ⊎ BreaksReceiving answers old new g s (preparing e)
breaks_off answers old new g s e h = inl (record { cause = e; told = refl; broke = h.broke })

-- the second one breaks off
pub breaks_on : (answers : Bool) (old mid new : Option Talk) (g : Given) (s : State) (listed : Listed) (e : ReceiveError) → HasListed answers old mid (inquiry_in g) listed
    → Breaks is_free_receiving is_stopped answers (bound_of g) mid new (pending_of listed) (pack_stage g s (shown listed)) e → BreaksListing answers old new g (receiving e) ⊎ BreaksReceiving answers old new g s (receiving e)
breaks_on answers old mid new g s listed e h b = inr (record { between = mid; behind = pending_of listed; listed = shown listed; list = h.list; cause = e; told = refl; broke = b })

-- memory runs out before it
pub gives_up_here : (answers : Bool) (mid : Option Talk) (g : Given) (s : State) (listed : Listed) → Breaks is_free_receiving is_stopped answers (bound_of g) mid mid (pending_of listed) (pack_stage g s (shown listed)) receive.NoMemory
gives_up_here answers mid g s listed = broken_free is_free_receiving is_stopped answers (bound_of g) mid (pending_of listed) (pack_stage g s (shown listed)) receive.NoMemory refl refl

-- what is received is of the repository's hash
pub kind_on : (answers : Bool) (mid new : Option Talk) (g : Given) (s : State) (listed : Listed) (rest : List ℕ) (r : Option Received) → g.setup.settings.kind ≡ s.hash
    → Concludes answers (bound_of g) mid new (pending_of listed) (pack_stage g s (shown listed)) r rest → listed.handshake.object_hash ≡ s.hash
kind_on answers mid new g s listed rest r same k = sym (is_received (bound_of g) (graph_of s.objects) (terms_in g s (shown listed)) _ r _ (k.answered [])).kind ∙ same

-- it is refused by nothing that comes after it
pub is_spoken : (answers : Bool) (mid new : Option Talk) (g : Given) (s : State) (listed : Listed) (e x : ReceiveError) → (IsOther x → ⊥) → is_free_receiving x ≡ false
    → Breaks is_free_receiving is_stopped answers (bound_of g) mid new (pending_of listed) (pack_stage g s (shown listed)) e → e ≡ x → ⊥
is_spoken answers mid new g s listed e x apart sure b is =
    let k = subst (λ (y : ReceiveError). Breaks is_free_receiving is_stopped answers (bound_of g) mid new (pending_of listed) (pack_stage g s (shown listed)) y) is b in
    refused_as new g s (shown listed) _ _ x apart (k.why sure)

-- a conversation tells no fault of the work trees
pub spoken_trees : (answers : Bool) (mid new : Option Talk) (g : Given) (s : State) (listed : Listed) (e : ReceiveError)
    → Breaks is_free_receiving is_stopped answers (bound_of g) mid new (pending_of listed) (pack_stage g s (shown listed)) e → fault_in e ≡ None
spoken_trees answers mid new g s listed e b = tells_no_trees e (λ cause is. is_spoken answers mid new g s listed e (receive.UpdateRefs cause) (λ x. x) refl b is)

-- nor a keep file
pub spoken_keep : (answers : Bool) (mid new : Option Talk) (g : Given) (s : State) (listed : Listed) (e : ReceiveError)
    → Breaks is_free_receiving is_stopped answers (bound_of g) mid new (pending_of listed) (pack_stage g s (shown listed)) e → keep_fault_in e ≡ None
spoken_keep answers mid new g s listed e b =
    tells_no_keep e (λ path is. is_spoken answers mid new g s listed e (receive.KeepFile path) (λ x. x) refl b is) (λ path is. is_spoken answers mid new g s listed e (receive.RemovePackKeepFile path) (λ x. x) refl b is)

-- memory runs out after the listing
pub forgot_on : (answers : Bool) (old now : Option Talk) (known : Option (List Worktree)) (files : Option Tree) (g : Given) (before : State) (listed : Listed) → HasListed answers old now (inquiry_in g) listed
    → IsRefused answers old now known files files g before before errors.NoMemory
forgot_on answers old now known files g before listed h = broken_off answers old now known files g before errors.NoMemory (breaks_on answers old now now g before listed receive.NoMemory h (gives_up_here answers now g before listed))

-- ---- what it leaves that was done

received_with : (answers : Bool) (mid new : Option Talk) (known : Option (List Worktree)) (files left : Option Tree) (g : Given) (trees : List Worktree) (before : State) (listed : Listed) (r : Option Received) (rest : List ℕ) (s : State) (u : Updates) → IsTold known trees
    → Concludes answers (bound_of g) mid new (pending_of listed) (pack_stage g before (shown listed)) r rest → taken_in g before (record { listed = shown listed; received = r }) ≡ Ok s → judged_of (policy_in s (apply_options_in g) trees) listed.ref_map ≡ Ok u
    → AreFiles files left (left_tree g.setup.settings.git_dir (at_outcome g (shown listed) r u).status) → IsReceived answers mid new known files left g before (moved_in g s u.edits) listed (at_outcome g (shown listed) r u)
received_with answers mid new known files left g trees before listed r rest s u told pack took judged kept =
    let none = (is_received (bound_of g) (graph_of before.objects) (terms_in g before (shown listed)) _ r _ (pack.answered [])).none in
    record {
      shows = refl;
      received = r;
      rest = rest;
      pack = pack;
      rounds = are_held g before (shown listed) (pending_of listed ++ pack.said) rest r (λ more. rw append_assoc (pack.answered more));
      carried = is_carried_out known files left g trees before (shown listed) r s u told took judged kept none;
    }

pub has_received : (answers : Bool) (mid new : Option Talk) (known : Option (List Worktree)) (files left : Option Tree) (g : Given) (before after : State) (listed : Listed) (outcome : Outcome) (r : Option Received) (rest : List ℕ)
    → Concludes answers (bound_of g) mid new (pending_of listed) (pack_stage g before (shown listed)) r rest → IsApplied known g.setup (apply_options_in g) before (wants_in g before listed.ref_map) (shown listed) r outcome after
    → AreFiles files left (left_tree g.setup.settings.git_dir outcome.status) → IsReceived answers mid new known files left g before after listed outcome
has_received answers mid new known files left g before after listed outcome r rest pack is kept =
    let p = applied_as g.setup (apply_options_in g) is.trees before (wants_in g before listed.ref_map) (shown listed) r outcome after is.by in
    let there = subst (λ (o : Outcome). AreFiles files left (left_tree g.setup.settings.git_dir o.status)) p.outcome_is kept in
    let f = received_with answers mid new known files left g is.trees before listed r rest p.state p.updates is.listed_trees pack p.took p.judged there in
    subst (λ (x : State). IsReceived answers mid new known files left g before x listed outcome) (sym p.after_is)
    (subst (λ (o : Outcome). IsReceived answers mid new known files left g before (moved_in g p.state p.updates.edits) listed o) (sym p.outcome_is) f)

-- ---- what an answer tells

pub of_ok : {A E : Type 0} {P Q S : A → Type 0} (r : Result A E) → ((x : A) → P x × Q x → S x) → IfOk r P → IfOk r Q → IfOk r S
of_ok (Ok x) f p q = f x (p, q)
of_ok (Err e) f p q = tt

pub of_err : {A E : Type 0} {P S : E → Type 0} (r : Result A E) → ((e : E) → P e → S e) → IfErr r P → IfErr r S
of_err (Ok x) f p = tt
of_err (Err e) f p = f e p

-- what is left, or why it was refused
pub received_by : (answers : Bool) (mid new : Option Talk) (known : Option (List Worktree)) (files left : Option Tree) (g : Given) (before after : State) (listed : Listed) (r : Result Outcome ReceiveError)
    → IfOk r (λ outcome. IsReceived answers mid new known files left g before after listed outcome) → IfErr r (λ e. IsUnreceived answers mid new known files left g before after listed e) → ReceivesBy answers mid new known files left g before after listed r
received_by answers mid new known files left g before after listed (Ok outcome) h k = h
received_by answers mid new known files left g before after listed (Err e) h k = k

-- ---- a listing by itself isn't refused for want of a refspec

abbrev IsNamed : PrepareError → Type 0
IsNamed prepare.MissingRefSpecs = ⊥
IsNamed (prepare.RefMap e) = ⊤
IsNamed prepare.NoMemory = ⊤

-- None of its refusals is that no refspec is named.
unfoldable Names : {X : Type 0} → Conversation X PrepareError → Type 0
Names (ends (Ok x)) = ⊤
Names (ends (Err e)) = IsNamed e
Names (asks lines awaited failed next) = ((fault : ReplyError) → IsNamed (failed fault)) × ((t : ParsedReply) → Names (next t))

named_after : {X : Type 0} (bound : ℕ) (failed : ReplyError → PrepareError) (next : ParsedReply → Conversation X PrepareError) (reading : Result (ParsedReply × List ℕ) ReplyError) → ((fault : ReplyError) → IsNamed (failed fault))
    → ((t : ParsedReply) (stream : List ℕ) → answer_in bound (next t) stream ≡ Err prepare.MissingRefSpecs → ⊥)
    → after_reply (λ fault. Err (failed fault)) (λ told rest. answer_in bound (next told) rest) reading ≡ Err prepare.MissingRefSpecs → ⊥
named_after bound failed next (Ok y) named again is = again y.0 y.1 is
named_after {X} bound failed next (Err fault) named again is = let h : failed fault ≡ prepare.MissingRefSpecs = cc in subst IsNamed h (named fault)

is_named : {X : Type 0} (bound : ℕ) (c : Conversation X PrepareError) (stream : List ℕ) → Names c → answer_in bound c stream ≡ Err prepare.MissingRefSpecs → ⊥
unfolding answer_in Names
is_named bound (ends (Ok y)) stream h is = absurd (cc)
is_named bound (ends (Err x)) stream h is = let k : x ≡ prepare.MissingRefSpecs = cc in subst IsNamed k h
is_named bound (asks lines awaited failed next) stream h is = named_after bound failed next (told_at bound awaited stream) h.0 (λ t s. is_named bound (next t) s (h.1 t)) is

names_ok : {X : Type 0} (x : X) → Names (ends (Ok x))
unfolding Names
names_ok x = tt

names_err : (X : Type 0) (e : PrepareError) → IsNamed e → Names {X = X} (ends (Err e))
unfolding Names
names_err X e h = h

names_asks : {X : Type 0} (lines : List Line) (awaited : ReplyKind) (failed : ReplyError → PrepareError) (next : ParsedReply → Conversation X PrepareError) → ((fault : ReplyError) → IsNamed (failed fault)) → ((t : ParsedReply) → Names (next t)) → Names (asks lines awaited failed next)
unfolding Names
names_asks lines awaited failed next h k = (h, k)

names_long : {X : Type 0} (o : Option ℕ) (c : Conversation X PrepareError) → Names c → Names (asks_unless o too_long c)
names_long None c h = h
names_long {X} (Some n) c h = names_err X (too_long n) tt

names_unless : {X : Type 0} (o : Option PrepareError) (c : Conversation X PrepareError) → IfSome o IsNamed → Names c → Names (unless o c)
names_unless None c h k = k
names_unless {X} (Some e) c h k = names_err X e h

named_unlisted : (b : Bool) (e : PrepareError) → IsNamed e → IfSome (if b then None else Some e) IsNamed
named_unlisted true e h = tt
named_unlisted false e h = h

named_unsendable : (o : Option (List ℕ × ℕ)) → IfSome (option_map (λ (bad : List ℕ × ℕ). handshaking (wire.BadParameter bad.0 bad.1)) o) IsNamed
named_unsendable None = tt
named_unsendable (Some bad) = tt

names_mapped : (q : LsRefsValue) (h : Handshake) (refs : List Ref) → Names (ends (mapped q h refs))
unfolding mapped
names_mapped q h refs = by (conflicts_of (mappings_of (all_specs q) (map name_in refs) h.object_hash))
  where
    by : (conflicts : List Conflict) → Names (ends (mapped_unless conflicts q h refs))
    by [] = names_ok _
    by (c ∷ cs) = names_err _ _ tt

names_listed : (q : LsRefsValue) (h : Handshake) (t : ParsedReply) → Names (listed q h t)
names_listed q h (told.Listing refs) = names_mapped q h refs
names_listed q h (told.Greeting other) = names_err _ _ tt
names_listed q h (told.Advertisement other refs) = names_err _ _ tt
names_listed q h (told.Reply reply) = names_err _ _ tt

names_listing : (bound : ℕ) (q : LsRefsValue) (h : Handshake) → Names (listing bound q h)
unfolding listing
names_listing bound q h = names_long _ _ (names_unless (unlisted h) _ (named_unlisted (offers listing_feature h.capabilities) (handshaking (wire.MissingFeature listing_feature)) tt) (names_asks _ _ _ _ (λ fault. tt) (λ t. names_listed q h t)))

names_greeted : (bound : ℕ) (q : LsRefsValue) (t : ParsedReply) → Names (greeted bound q t)
names_greeted bound q (told.Greeting h) = names_listing bound q h
names_greeted bound q (told.Advertisement h refs) = names_mapped q h refs
names_greeted bound q (told.Listing refs) = names_err _ _ tt
names_greeted bound q (told.Reply reply) = names_err _ _ tt

names_inquiry : (bound : ℕ) (q : LsRefsValue) → Names (ls_refs_stage bound q)
unfolding ls_refs_stage
names_inquiry bound q =
    names_unless (unsendable q) _ (named_unsendable (first_bad (texts_told q.address q.options.handshake_parameters q.agent)))
    (names_long (first_too_long (first_line q.address q.options.handshake_parameters ∷ [])) _ (names_asks _ awaits.Greeting (failed bound) (greeted bound q) (λ fault. tt) (λ t. names_greeted bound q t)))

never_missing : (answers : Bool) (old new : Option Talk) (bound : ℕ) (q : LsRefsValue) → Breaks is_free_listing is_interrupted answers bound old new [] (ls_refs_stage bound q) prepare.MissingRefSpecs → ⊥
never_missing answers old new bound q b = by (b.why refl)
  where
    by : IsRefusedBy bound new (ls_refs_stage bound q) ([] ++ b.said) b.heard prepare.MissingRefSpecs → ⊥
    by (inl all) = is_named bound (ls_refs_stage bound q) (([] ++ b.said) ++ []) (names_inquiry bound q) (all []).answer
    by (inr last) = is_named bound (ls_refs_stage bound q) ([] ++ b.said) (names_inquiry bound q) last.1.answer

pub is_not_missing : (answers : Bool) (old new : Option Talk) (bound : ℕ) (q : LsRefsValue) (e : PrepareError) → Breaks is_free_listing is_interrupted answers bound old new [] (ls_refs_stage bound q) e → is_missing e ≡ false
is_not_missing answers old new bound q prepare.MissingRefSpecs b = absurd (never_missing answers old new bound q b)
is_not_missing answers old new bound q (prepare.RefMap e) b = refl
is_not_missing answers old new bound q prepare.NoMemory b = refl

-- ---- and its refusal is told by the map's error

told_free : (answers : Bool) (old new : Option Talk) (bound : ℕ) (c : Conversation ListedValue PrepareError) (e x : PrepareError) → is_free_listing x ≡ true → is_interrupted x ≡ false → Breaks is_free_listing is_interrupted answers bound old new [] c e → Breaks is_free_listing is_interrupted answers bound old new [] c x
told_free answers old new bound c e x free going b = record { said = b.said; heard = b.heard; passed = b.passed; needed = b.needed; front = b.front; why = λ sure. absurd (cc (free, sure)); due = λ told. absurd (cc (going, told)) }

told_map : (answers : Bool) (old new : Option Talk) (bound : ℕ) (c : Conversation ListedValue PrepareError) (e : MapError) → Breaks is_free_listing is_interrupted answers bound old new [] c (prepare.RefMap e) → Breaks is_free_listing is_interrupted answers bound old new [] c (prepare_of e)
told_map answers old new bound c (ref_map.Handshake e) b = b
told_map answers old new bound c ref_map.Transport b = b
told_map answers old new bound c ref_map.Interrupted b = b
told_map answers old new bound c (ref_map.InitRefMap conflicts) b = b
told_map answers old new bound c ref_map.NoMemory b = told_free answers old new bound c (prepare.RefMap ref_map.NoMemory) prepare.NoMemory refl refl b

pub told_by : (answers : Bool) (old new : Option Talk) (bound : ℕ) (c : Conversation ListedValue PrepareError) (e : PrepareError) → is_missing e ≡ false → Breaks is_free_listing is_interrupted answers bound old new [] c e → Breaks is_free_listing is_interrupted answers bound old new [] c (prepare_of (listing_error e))
told_by answers old new bound c prepare.MissingRefSpecs isnt b = absurd (cc)
told_by answers old new bound c (prepare.RefMap e) isnt b = told_map answers old new bound c e b
told_by answers old new bound c prepare.NoMemory isnt b = b
