-- What a listing tells: it maps what it lists, and no name comes twice.
use Rattle.std.proofs.Common.{◌≡◌, ℕ, List, [], ◌∷◌, Option, Some, None, Result, Ok, Err, refl, ap}
use Rattle.fetch_replies.specs.Awaited.{told_at}
use Rattle.fetch_replies.specs.NamesTold.{AreNamedOnce, NamesOnce}
use Rattle.fetch_lines.specs.Requests.{first_line, listing_lines}
use Rattle.fetch_lines.specs.Written.{first_too_long}
use Rattle.fetch_lines.specs.declared.greetings.handshake.Handshake.{Handshake}
use Rattle.fetch_lines.specs.declared.lines.line.Line.{Line}
use Rattle.fetch_lines.specs.declared.listings.reference.Ref.{Ref}
use Rattle.fetch_replies.specs.declared.replies.reply.ReplyKind.{ReplyKind}
use Rattle.fetch_replies.specs.declared.replies.reply.ReplyKind.TheVariants as awaits
use Rattle.fetch_replies.specs.declared.replies.reply.ReplyError.{ReplyError}
use Rattle.fetch_replies.specs.declared.replies.reply.ParsedReply.{ParsedReply}
use Rattle.fetch_replies.specs.declared.replies.reply.ParsedReply.TheVariants as told
use Rattle.fetch_wire.proofs.NamedOnce.{names_once}
use Rattle.fetch_conversation.specs.Conversation.{Conversation, after_reply, answer_in, asks, asks_unless, beside}
use Rattle.fetch_conversation.specs.ListStage.{LsRefsValue, ListedValue, failed, greeted, ls_refs_stage, list_stage, listed, listing, mapped, no_specs, prefixes_asked, too_long, unless, unlisted, unsendable}
use Rattle.fetch_conversation.specs.declared.prepare.Error.{Error}

-- what was listed is mapped, and its names come once
pub record IsMappedOnce (q : LsRefsValue) (l : ListedValue) : Type 0 where
  pub handshake : Handshake
  pub refs : List Ref
  pub once : AreNamedOnce refs
  pub is : mapped q handshake refs ≡ Ok l

module _ (bound : ℕ) (q : LsRefsValue) (l : ListedValue) (rest : List ℕ) where
  told_so : (stream : List ℕ) (r : Result ListedValue Error) → beside stream r ≡ Ok (l, rest) → r ≡ Ok l
  told_so stream (Ok other) is = let pair : (other, stream) ≡ (l, rest) = cc in ap (λ (x : ListedValue × List ℕ). Ok x.0) pair
  told_so stream (Err e) is = absurd cc

  -- a question that is asked, and what its reply leads to
  asked_so : (long : Option ℕ) (stop : Option Error) (lines : List Line) (awaited : ReplyKind) (fails : ReplyError → Error) (next : ParsedReply → Conversation ListedValue Error) (stream : List ℕ)
      → ((t : ParsedReply) (behind : List ℕ) → NamesOnce t → answer_in bound (next t) behind ≡ Ok (l, rest) → IsMappedOnce q l)
      → answer_in bound (asks_unless long too_long (unless stop (asks lines awaited fails next))) stream ≡ Ok (l, rest) → IsMappedOnce q l
  unfolding answer_in
  asked_so (Some length) stop lines awaited fails next stream on is = absurd cc
  asked_so None (Some e) lines awaited fails next stream on is = absurd cc
  asked_so None None lines awaited fails next stream on is = by (told_at bound awaited stream) refl is
    where
      by : (reading : Result (ParsedReply × List ℕ) ReplyError) → told_at bound awaited stream ≡ reading → after_reply (λ fault. Err (fails fault)) (λ t behind. answer_in bound (next t) behind) reading ≡ Ok (l, rest) → IsMappedOnce q l
      by (Err fault) at is = absurd cc
      by (Ok x) at is = on x.0 x.1 (names_once bound awaited stream x.1 x.0 at) is

  listed_so : (h : Handshake) (t : ParsedReply) (stream : List ℕ) → NamesOnce t → answer_in bound (listed q h t) stream ≡ Ok (l, rest) → IsMappedOnce q l
  unfolding answer_in
  listed_so h (told.Listing refs) stream once is = record { handshake = h; refs = refs; once = once; is = told_so stream (mapped q h refs) is }
  listed_so h (told.Greeting other) stream once is = absurd cc
  listed_so h (told.Advertisement other refs) stream once is = absurd cc
  listed_so h (told.Reply reply) stream once is = absurd cc

  listing_so : (h : Handshake) (stream : List ℕ) → answer_in bound (listing bound q h) stream ≡ Ok (l, rest) → IsMappedOnce q l
  unfolding listing
  listing_so h stream is =
      asked_so (first_too_long (listing_lines h q.agent (prefixes_asked q))) (unlisted h) (listing_lines h q.agent (prefixes_asked q)) (awaits.Listing h.object_hash) (failed bound) (λ t. listed q h t) stream
      (λ t behind once at. listed_so h t behind once at) is

  greeted_so : (t : ParsedReply) (stream : List ℕ) → NamesOnce t → answer_in bound (greeted bound q t) stream ≡ Ok (l, rest) → IsMappedOnce q l
  unfolding answer_in
  greeted_so (told.Greeting h) stream once is = listing_so h stream is
  greeted_so (told.Advertisement h refs) stream once is = record { handshake = h; refs = refs; once = once; is = told_so stream (mapped q h refs) is }
  greeted_so (told.Listing refs) stream once is = absurd cc
  greeted_so (told.Reply reply) stream once is = absurd cc

  first_so : (stop : Option Error) (long : Option ℕ) (stream : List ℕ)
      → answer_in bound (unless stop (asks_unless long too_long (asks (first_line q.address q.options.handshake_parameters ∷ []) awaits.Greeting (failed bound) (λ t. greeted bound q t)))) stream ≡ Ok (l, rest) → IsMappedOnce q l
  unfolding answer_in
  first_so (Some e) long stream is = absurd cc
  first_so None long stream is = asked_so long None (first_line q.address q.options.handshake_parameters ∷ []) awaits.Greeting (failed bound) (λ t. greeted bound q t) stream (λ t behind once at. greeted_so t behind once at) is

  pub inquired_so : (stream : List ℕ) → answer_in bound (ls_refs_stage bound q) stream ≡ Ok (l, rest) → IsMappedOnce q l
  unfolding ls_refs_stage
  inquired_so stream is = first_so (unsendable q) (first_too_long (first_line q.address q.options.handshake_parameters ∷ [])) stream is

  unless_so : (stop : Option Error) (stream : List ℕ) → answer_in bound (unless stop (ls_refs_stage bound q)) stream ≡ Ok (l, rest) → IsMappedOnce q l
  unfolding answer_in
  unless_so (Some e) stream is = absurd cc
  unless_so None stream is = inquired_so stream is

  pub listing_stage_so : (stream : List ℕ) → answer_in bound (list_stage bound q) stream ≡ Ok (l, rest) → IsMappedOnce q l
  unfolding list_stage
  listing_stage_so stream is = unless_so (no_specs q) stream is
