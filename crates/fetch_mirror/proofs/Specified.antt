-- A listing with refspecs isn't refused for want of them.
use Rattle.std.proofs.Common.{◌≡◌, ◌≢◌, ℕ, Bool, true, false, List, [], ◌∷◌, ◌++◌, Option, Some, None, Result, Ok, Err, refl, ap, ◌∙◌, ⊎_elim}
use Rattle.std.specs.Prelude.{IfErr, if◌then◌else◌, map}
use Rattle.fetch_replies.specs.Awaited.{told_at}
use Rattle.fetch_lines.specs.Greetings.{offers}
use Rattle.fetch_wire.specs.SessionStates.{listing_feature}
use Rattle.fetch_lines.specs.Requests.{first_line, listing_lines}
use Rattle.fetch_lines.specs.Talks.{IsDrained, Talk}
use Rattle.fetch_lines.specs.Written.{first_too_long}
use Rattle.fetch_lines.specs.declared.greetings.handshake.Handshake.{Handshake}
use Rattle.fetch_lines.specs.declared.lines.line.Line.{Line}
use Rattle.fetch_lines.specs.declared.listings.reference.Ref.{Ref}
use Rattle.fetch_replies.specs.declared.replies.reply.ReplyKind.{ReplyKind}
use Rattle.fetch_replies.specs.declared.replies.reply.ReplyKind.TheVariants as awaits
use Rattle.fetch_replies.specs.declared.replies.reply.ReplyError.{ReplyError}
use Rattle.fetch_replies.specs.declared.replies.reply.ParsedReply.{ParsedReply}
use Rattle.fetch_replies.specs.declared.replies.reply.ParsedReply.TheVariants as told
use Rattle.fetch_specs.specs.Conflicts.{conflicts_of}
use Rattle.fetch_specs.specs.Matches.{mappings_of}
use Rattle.fetch_specs.specs.declared.conflict.Conflict.{Conflict}
use Rattle.fetch_wire.specs.Parameters.{first_bad, texts_told}
use Rattle.fetch_lines.specs.References.{name_in}
use Rattle.std.specs.Option.{option_map}
use Rattle.fetch_lines.specs.declared.error.WireError.TheVariants as wire
use Rattle.fetch_conversation.specs.Conversation.{Breaks, Conversation, Converses, RefusesWith, after_reply, answer_in, asks, asks_unless, beside}
use Rattle.fetch_conversation.specs.Errors.{is_free_listing, is_interrupted}
use Rattle.fetch_conversation.specs.declared.listing.Listed.{Listed}
use Rattle.fetch_conversation.specs.ListStage.{LsRefsValue, ListedValue, all_specs, answer_shown, failed, greeted, handshaking, ls_refs_stage, listed, listing, mapped, mapped_unless, prefixes_asked, too_long, unless, unlisted, unsendable}
use Rattle.fetch_conversation.specs.declared.prepare.Error.{Error}
use Rattle.fetch_conversation.specs.declared.prepare.Error.TheVariants.{MissingRefSpecs}

abbrev Answer : Type 0
Answer = Result (ListedValue × List ℕ) Error

-- an answer that isn't this refusal
abbrev IsOther : Answer → Type 0
IsOther r = r ≡ Err MissingRefSpecs → ⊥

module _ (bound : ℕ) (q : LsRefsValue) where
  besides : (stream : List ℕ) (r : Result ListedValue Error) → ((e : Error) → r ≡ Err e → e ≢ MissingRefSpecs) → IsOther (beside stream r)
  besides stream (Ok l) other is = absurd cc
  besides stream (Err e) other is = other e refl (let same : e ≡ MissingRefSpecs = cc in same)

  mapped_other : (cs : List Conflict) (h : Handshake) (refs : List Ref) (e : Error) → mapped_unless cs q h refs ≡ Err e → e ≢ MissingRefSpecs
  mapped_other [] h refs e is same = absurd cc
  mapped_other (c ∷ cs) h refs e is same = absurd cc

  maps_other : (h : Handshake) (refs : List Ref) (e : Error) → mapped q h refs ≡ Err e → e ≢ MissingRefSpecs
  unfolding mapped
  maps_other h refs e is = mapped_other (conflicts_of (mappings_of (all_specs q) (map name_in refs) h.object_hash)) h refs e is

  -- a question that is asked, and what its reply leads to
  asked_other : (long : Option ℕ) (stop : Option Error) (lines : List Line) (awaited : ReplyKind) (next : ParsedReply → Conversation ListedValue Error) (stream : List ℕ) → ((e : Error) → stop ≡ Some e → e ≢ MissingRefSpecs)
      → ((t : ParsedReply) (behind : List ℕ) → IsOther (answer_in bound (next t) behind)) → IsOther (answer_in bound (asks_unless long too_long (unless stop (asks lines awaited (failed bound) next))) stream)
  unfolding answer_in
  asked_other (Some length) stop lines awaited next stream stops on is = absurd cc
  asked_other None (Some e) lines awaited next stream stops on is = stops e refl (let same : e ≡ MissingRefSpecs = cc in same)
  asked_other None None lines awaited next stream stops on is = by (told_at bound awaited stream) is
    where
      by : (reading : Result (ParsedReply × List ℕ) ReplyError) → IsOther (after_reply (λ fault. Err (failed bound fault)) (λ t behind. answer_in bound (next t) behind) reading)
      by (Err fault) is = absurd cc
      by (Ok x) is = on x.0 x.1 is

  listed_other : (h : Handshake) (t : ParsedReply) (stream : List ℕ) → IsOther (answer_in bound (listed q h t) stream)
  unfolding answer_in
  listed_other h (told.Listing refs) stream is = besides stream (mapped q h refs) (maps_other h refs) is
  listed_other h (told.Greeting other) stream is = absurd cc
  listed_other h (told.Advertisement other refs) stream is = absurd cc
  listed_other h (told.Reply reply) stream is = absurd cc

  unlisted_other : (h : Handshake) (e : Error) → unlisted h ≡ Some e → e ≢ MissingRefSpecs
  unlisted_other h e is same = by (offers listing_feature h.capabilities) is
    where
      by : (offered : Bool) → (if offered then None else Some (handshaking (wire.MissingFeature listing_feature))) ≡ Some e → ⊥
      by true at = absurd cc
      by false at = absurd cc

  listing_other : (h : Handshake) (stream : List ℕ) → IsOther (answer_in bound (listing bound q h) stream)
  unfolding listing
  listing_other h stream is =
      asked_other (first_too_long (listing_lines h q.agent (prefixes_asked q))) (unlisted h) (listing_lines h q.agent (prefixes_asked q)) (awaits.Listing h.object_hash) (λ t. listed q h t) stream (unlisted_other h)
      (λ t behind at. listed_other h t behind at) is

  greeted_other : (t : ParsedReply) (stream : List ℕ) → IsOther (answer_in bound (greeted bound q t) stream)
  unfolding answer_in
  greeted_other (told.Greeting h) stream is = listing_other h stream is
  greeted_other (told.Advertisement h refs) stream is = besides stream (mapped q h refs) (maps_other h refs) is
  greeted_other (told.Listing refs) stream is = absurd cc
  greeted_other (told.Reply reply) stream is = absurd cc

  unsendable_other : (e : Error) → unsendable q ≡ Some e → e ≢ MissingRefSpecs
  unsendable_other e is same = by (first_bad (texts_told q.address q.options.handshake_parameters q.agent)) is
    where
      by : (o : Option (List ℕ × ℕ)) → option_map (λ (bad : List ℕ × ℕ). handshaking (wire.BadParameter bad.0 bad.1)) o ≡ Some e → ⊥
      by None at = absurd cc
      by (Some bad) at = absurd cc

  first_other : (stop : Option Error) (long : Option ℕ) (stream : List ℕ) → ((e : Error) → stop ≡ Some e → e ≢ MissingRefSpecs)
      → IsOther (answer_in bound (unless stop (asks_unless long too_long (asks (first_line q.address q.options.handshake_parameters ∷ []) awaits.Greeting (failed bound) (λ t. greeted bound q t)))) stream)
  unfolding answer_in
  first_other (Some e) long stream stops is = stops e refl (let same : e ≡ MissingRefSpecs = cc in same)
  first_other None long stream stops is =
      asked_other long None (first_line q.address q.options.handshake_parameters ∷ []) awaits.Greeting (λ t. greeted bound q t) stream (λ e none. absurd cc) (λ t behind at. greeted_other t behind at) is

  inquired_other : (stream : List ℕ) → IsOther (answer_in bound (ls_refs_stage bound q) stream)
  unfolding ls_refs_stage
  inquired_other stream is = first_other (unsendable q) (first_too_long (first_line q.address q.options.handshake_parameters ∷ [])) stream unsendable_other is

  pub specified : (answers : Bool) (old new : Option Talk) (rest : List ℕ) (result : Result ListedValue Error) → Converses is_free_listing is_interrupted answers bound old new [] rest (ls_refs_stage bound q) result
      → IfErr result (λ e. e ≢ MissingRefSpecs)
  specified answers old new rest (Ok l) h = tt
  specified answers old new rest (Err e) h = λ same.
      let broke : Breaks is_free_listing is_interrupted answers bound old new [] (ls_refs_stage bound q) e = h.held in
      let why = broke.why (ap is_free_listing same) in
      ⊎_elim
      (λ (always : (more : List ℕ) → RefusesWith bound (ls_refs_stage bound q) (broke.said ++ more) broke.heard e). inquired_other (broke.said ++ []) ((always []).answer ∙ ap (λ (x : Error). Err x) same))
      (λ (drained : IsDrained new × RefusesWith bound (ls_refs_stage bound q) broke.said broke.heard e). inquired_other broke.said (drained.1.answer ∙ ap (λ (x : Error). Err x) same))
      why

  -- so it is of a call that shows that
  shown_so : (result : Result Listed Error) → IfErr (answer_shown result) (λ e. e ≢ MissingRefSpecs) → IfErr result (λ e. e ≢ MissingRefSpecs)
  shown_so (Ok l) h = tt
  shown_so (Err e) h = h

  pub always_specified : (answers : Bool) (old new : Option Talk) (rest : List ℕ) (result : Result Listed Error) → Converses is_free_listing is_interrupted answers bound old new [] rest (ls_refs_stage bound q) (answer_shown result)
      → IfErr result (λ e. e ≢ MissingRefSpecs)
  always_specified answers old new rest result h = shown_so result (specified answers old new rest (answer_shown result) h)
