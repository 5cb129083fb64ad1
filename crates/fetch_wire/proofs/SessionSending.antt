-- What a session sends, and what it is fed meanwhile.
use Rattle.std.proofs.Common.{◌≡◌, ℕ, ◌≤◌, Bool, true, false, List, [], ◌++◌, length, drop, Option, Some, None, Result, Ok, Err, refl, sym, ap, ◌∙◌}
use Rattle.std.proofs.lemmas.List.{append-nil, drop-append-le}
use Rattle.fetch_replies.specs.declared.replies.reply.ReplyError.{ReplyError}
use Rattle.fetch_replies.specs.declared.replies.reply.ReplyError.TheVariants as faults
use Rattle.fetch_replies.specs.declared.replies.reply.ParsedReply.{ParsedReply}
use Rattle.fetch_replies.specs.declared.replies.reply.ParsedReply.TheVariants as told
use Rattle.fetch_replies.specs.declared.replies.reply.ReplyKind.TheVariants as awaits
use Rattle.fetch_lines.specs.declared.error.WireError.{WireError}
use Rattle.fetch_lines.specs.declared.greetings.handshake.Handshake.{Handshake}
use Rattle.fetch_lines.specs.declared.lines.line.Line.{Line}
use Rattle.fetch_lines.specs.Greetings.{offers}
use Rattle.fetch_replies.specs.Intakes.{told_with, resting, taking, awaiting}
use Rattle.fetch_lines.specs.Requests.{listing_lines}
use Rattle.fetch_wire.specs.SessionStates.{SessionState, after_told, read_one, rests, asks, listing_by, listing_feature, fed}
use Rattle.fetch_lines.specs.Talks.{IsFront}
use Rattle.fetch_lines.specs.Written.{lines_text, first_too_long}
use Rattle.fetch_wire.proofs.Conversing.{fed_is}
use Rattle.fetch_wire.proofs.SessionPieces.{stuck}

-- with this to be sent
abbrev sending : List ℕ → SessionState → SessionState
sending text s = record s { outgoing = text }

-- Reading what is told asks for nothing here: it goes the same way whatever is to be sent, which stays.
record Passes (before : List ℕ) (now other : SessionState) (text : List ℕ) : Type 0 where
  stays : now.outgoing ≡ before
  alone : other ≡ sending text now

tells_alone : (s : SessionState) (text : List ℕ) (found : Option (Result (ParsedReply × List ℕ) ReplyError)) → Passes s.outgoing (after_told rests s found) (after_told rests (sending text s) found) text
tells_alone s text None = record { stays = refl; alone = refl }
tells_alone s text (Some (Ok (told.Greeting h, rest))) = record { stays = refl; alone = refl }
tells_alone s text (Some (Ok (told.Advertisement h refs, rest))) = record { stays = refl; alone = refl }
tells_alone s text (Some (Ok (told.Listing refs, rest))) = record { stays = refl; alone = refl }
tells_alone s text (Some (Ok (told.Reply reply, rest))) = record { stays = refl; alone = refl }
tells_alone s text (Some (Err (faults.Short place))) = record { stays = refl; alone = refl }
tells_alone s text (Some (Err (faults.Broken place))) = record { stays = refl; alone = refl }
tells_alone s text (Some (Err faults.TooLong)) = record { stays = refl; alone = refl }
tells_alone s text (Some (Err (faults.Said said))) = record { stays = refl; alone = refl }

reads_alone : (s : SessionState) (text : List ℕ) → Passes s.outgoing (read_one rests s) (read_one rests (sending text s)) text
reads_alone s text = tells_alone s text (told_with s.intake [])

-- What is done adds this to what is to be sent, whatever that is.
record Adds (before : List ℕ) (now : SessionState) (others : List ℕ → SessionState) : Type 0 where
  added : List ℕ
  is : now.outgoing ≡ before ++ added
  alone : (text : List ℕ) → others text ≡ sending (text ++ added) now

-- nothing is added
adds_nothing : (before : List ℕ) (now : SessionState) (others : List ℕ → SessionState) → ((text : List ℕ) → Passes before now (others text) text) → Adds before now others
adds_nothing before now others h = record {
  added = [];
  is = (h []).stays ∙ sym (append-nil before);
  alone = λ text. (h text).alone ∙ ap (λ (l : List ℕ). sending l now) (sym (append-nil text));
}

lists_more : (s : SessionState) (h : Handshake) (lines : List Line) (long : Option ℕ) (offered : Bool)
    → Adds s.outgoing (read_one rests (listing_by long offered h lines s)) (λ text. read_one rests (listing_by long offered h lines (sending text s)))
lists_more s h lines (Some n) offered = adds_nothing s.outgoing _ _ (λ text. record { stays = refl; alone = refl })
lists_more s h lines None false = adds_nothing s.outgoing _ _ (λ text. record { stays = refl; alone = refl })
lists_more s h lines None true =
    let asked = record s { intake = awaiting (awaits.Listing h.object_hash) s.intake; outgoing = s.outgoing ++ lines_text lines } in
    record {
      added = lines_text lines;
      is = (reads_alone asked []).stays;
      alone = λ text. (reads_alone asked (text ++ lines_text lines)).alone;
    }

-- what is told is kept, and the references may be asked for
tells_more : (s : SessionState) (found : Option (Result (ParsedReply × List ℕ) ReplyError)) → Adds s.outgoing (read_one rests (after_told asks s found)) (λ text. read_one rests (after_told asks (sending text s) found))
tells_more s None = adds_nothing s.outgoing _ _ (reads_alone s)
tells_more s (Some (Ok (told.Greeting h, rest))) =
    let lines = listing_lines h s.agent s.prefixes in
    lists_more (record s { intake = resting rest s.intake; handshake = Some h }) h lines (first_too_long lines) (offers listing_feature h.capabilities)
tells_more s (Some (Ok (told.Advertisement h refs, rest))) = adds_nothing s.outgoing _ _ (λ text. record { stays = refl; alone = refl })
tells_more s (Some (Ok (told.Listing refs, rest))) = adds_nothing s.outgoing _ _ (λ text. record { stays = refl; alone = refl })
tells_more s (Some (Ok (told.Reply reply, rest))) = adds_nothing s.outgoing _ _ (λ text. record { stays = refl; alone = refl })
tells_more s (Some (Err (faults.Short place))) = adds_nothing s.outgoing _ _ (reads_alone s)
tells_more s (Some (Err (faults.Broken place))) = adds_nothing s.outgoing _ _ (λ text. record { stays = refl; alone = refl })
tells_more s (Some (Err faults.TooLong)) = adds_nothing s.outgoing _ _ (λ text. record { stays = refl; alone = refl })
tells_more s (Some (Err (faults.Said said))) = adds_nothing s.outgoing _ _ (λ text. record { stays = refl; alone = refl })

feeds_by : (s : SessionState) (piece : List ℕ) (trouble : Option WireError) → s.trouble ≡ trouble → Adds s.outgoing (fed s piece) (λ text. fed (sending text s) piece)
feeds_by s piece (Some e) is =
    adds_nothing s.outgoing (fed s piece) (λ text. fed (sending text s) piece)
    (λ text. record { stays = ap (λ (x : SessionState). x.outgoing) (stuck s piece e s.trouble is); alone = stuck (sending text s) piece e s.trouble is ∙ sym (ap (sending text) (stuck s piece e s.trouble is)) })
feeds_by s piece None well =
    let found = told_with (taking piece s.intake) [] in
    let more = tells_more (record s { intake = taking piece s.intake }) found in
    record {
      added = more.added;
      is = ap (λ (x : SessionState). x.outgoing) (fed_is s piece s.trouble well) ∙ more.is;
      alone = λ text. fed_is (sending text s) piece s.trouble well ∙ more.alone text ∙ ap (sending (text ++ more.added)) (sym (fed_is s piece s.trouble well));
    }

-- bytes that are fed add to what is to be sent
pub feeds_more : (s : SessionState) (piece : List ℕ) → IsFront s.outgoing (fed s piece).outgoing
feeds_more s piece = let more = feeds_by s piece s.trouble refl in (more.added, more.is)

-- what is sent may be sent before or after bytes are fed
pub sends_before : (s : SessionState) (piece : List ℕ) (n : ℕ) → n ≤ length s.outgoing
    → fed (record s { outgoing = drop n s.outgoing }) piece ≡ record (fed s piece) { outgoing = drop n (fed s piece).outgoing }
sends_before s piece n le =
    let more = feeds_by s piece s.trouble refl in
    more.alone (drop n s.outgoing) ∙ ap (λ (l : List ℕ). sending l (fed s piece)) (sym (drop-append-le n s.outgoing more.added le) ∙ ap (drop n) (sym more.is))
