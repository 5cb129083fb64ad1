-- The listing of a server's references, along what the server gives.
use Rattle.std.proofs.Common.{◌≡◌, ℕ, ◌<◌, ◌≤◌, true, false, List, [], ◌∷◌, ◌++◌, Option, Some, None, Result, Ok, Err, refl, sym, ap, subst, ◌∙◌, codes, sum_by, arith}
use Rattle.fetch_base.specs.declared.id.Kind.{Kind}
use Rattle.fetch_base.specs.declared.id.Kind.TheVariants.{Sha1, Sha256}
use Rattle.fetch_lines.specs.Greetings.{format_in, is_format}
use Rattle.fetch_lines.specs.Lines.{line_len}
use Rattle.fetch_lines.specs.Requests.{first_line, kind_text, listing_lines}
use Rattle.fetch_wire.specs.SessionStates.{listing_feature}
use Rattle.fetch_lines.specs.Written.{first_too_long, lines_text}
use Rattle.fetch_lines.specs.declared.lines.line.Line.{Line}
use Rattle.fetch_replies.specs.declared.replies.reply.ReplyKind.TheVariants as await
use Rattle.fetch_replies.specs.declared.replies.reply.ReplyError.TheVariants.{Short, TooLong}
use Rattle.fetch_replies.specs.declared.replies.reply.ParsedReply.{ParsedReply}
use Rattle.fetch_replies.specs.declared.replies.reply.ParsedReply.TheVariants as told
use Rattle.fetch_conversation.specs.Conversation.{Conversation, ends, asks, asks_unless}
use Rattle.fetch_conversation.specs.ListStage.{LsRefsValue, ListedValue, failed, greeted, ls_refs_stage, listed, listing, mapped, prefixes_asked, too_long, unless, unlisted}
use Rattle.fetch_conversation.specs.declared.prepare.Error.{Error}
use Rattle.fetch_asked.specs.declared.asked.Asked.TheVariants.{First, Listing}
use Rattle.fetch_serve.specs.Offered.{capabilities_of, offered_of}
use Rattle.fetch_serve.specs.Replies.{replies_of, reply_lines}
use Rattle.fetch_serve.specs.Served.{Data}
use Rattle.fetch_serve.specs.Servable.{IsServable}
use Rattle.fetch_asked.specs.Texts.{request_bound}
use Rattle.fetch_serve.proofs.Fitting.{greeting_fits, listing_fits}
use Rattle.fetch_mirror.specs.GoingAlong.{GoesAlong, GoesTo}
use Rattle.fetch_mirror.specs.Listings.{AreRising, AreTold, IsHeard, IsInquiry, asked_lines, greeting_of}
use Rattle.fetch_mirror.proofs.GoingAlong.{goes_end}
use Rattle.fetch_mirror.proofs.RequestsRead.{asked_too_long, asked_whole, first_read, listing_read}
use Rattle.fetch_mirror.proofs.ServedAlong.{AreWhole, IsServed, served_on, served_to, served_too_long, unserved, whole_more, whole_none}
use Rattle.fetch_mirror.proofs.StagesAlong.{to_end}

-- ---- the tree

first_fits : first_too_long (first_line (codes ".") [] ∷ []) ≡ None
unfolding first_line
first_fits = refl

first_short : sum_by line_len (first_line (codes ".") [] ∷ []) ≤ request_bound
unfolding first_line
first_short = omega arith

-- what is asked first
asks_first : (bound : ℕ) (q : LsRefsValue) → IsInquiry q → ls_refs_stage bound q ≡ asks (first_line (codes ".") [] ∷ []) await.Greeting (failed bound) (λ t. greeted bound q t)
unfolding ls_refs_stage
asks_first bound q is =
    ap (λ (o : Option Error). unless o (asks_unless (first_too_long (first_line q.address q.options.handshake_parameters ∷ [])) too_long (asks (first_line q.address q.options.handshake_parameters ∷ []) await.Greeting (failed bound) (λ t. greeted bound q t)))) is.sendable
    ∙ ap (λ (l : List ℕ). asks_unless (first_too_long (first_line l q.options.handshake_parameters ∷ [])) too_long (asks (first_line l q.options.handshake_parameters ∷ []) await.Greeting (failed bound) (λ t. greeted bound q t))) is.address
    ∙ ap (λ (l : List (List ℕ × Option (List ℕ))). asks_unless (first_too_long (first_line (codes ".") l ∷ [])) too_long (asks (first_line (codes ".") l ∷ []) await.Greeting (failed bound) (λ t. greeted bound q t))) is.plain
    ∙ ap (λ (o : Option ℕ). asks_unless o too_long (asks (first_line (codes ".") [] ∷ []) await.Greeting (failed bound) (λ t. greeted bound q t))) first_fits

lists : (hash : Kind) → unlisted (greeting_of hash) ≡ None
unfolding capabilities_of kind_text listing_feature
lists Sha1 = refl
lists Sha256 = refl

pub same_hash : (hash : Kind) → (greeting_of hash).object_hash ≡ hash
unfolding capabilities_of kind_text is_format format_in
same_hash Sha1 = refl
same_hash Sha256 = refl

-- and then
asks_next : (bound : ℕ) (q : LsRefsValue) (hash : Kind) → first_too_long (listing_lines (greeting_of hash) q.agent (prefixes_asked q)) ≡ None
    → greeted bound q (told.Greeting (greeting_of hash)) ≡ asks (listing_lines (greeting_of hash) q.agent (prefixes_asked q)) (await.Listing hash) (failed bound) (λ t. listed q (greeting_of hash) t)
unfolding listing
asks_next bound q hash fits =
    ap (λ (o : Option ℕ). asks_unless o too_long (unless (unlisted (greeting_of hash)) (asks (listing_lines (greeting_of hash) q.agent (prefixes_asked q)) (await.Listing (greeting_of hash).object_hash) (failed bound) (λ t. listed q (greeting_of hash) t)))) fits
    ∙ ap (λ (o : Option Error). unless o (asks (listing_lines (greeting_of hash) q.agent (prefixes_asked q)) (await.Listing (greeting_of hash).object_hash) (failed bound) (λ t. listed q (greeting_of hash) t))) (lists hash)
    ∙ ap (λ (k : Kind). asks (listing_lines (greeting_of hash) q.agent (prefixes_asked q)) (await.Listing k) (failed bound) (λ t. listed q (greeting_of hash) t)) (same_hash hash)

-- ---- the replies

first_served : (d : Data) (prefixes : List (List ℕ)) → AreTold d prefixes → IsServed d false [] (first_line (codes ".") [] ∷ []) await.Greeting First (told.Greeting (greeting_of d.hash))
unfolding reply_lines
first_served d prefixes says = record {
  whole = whole_none d.hash;
  read = asked_whole d.hash false (first_line (codes ".") [] ∷ []) First (first_read d.hash) first_fits first_short;
  tells = says.greeting;
  fits = greeting_fits d.hash;
}

-- all that was heard before the listing request
abbrev pub first_text : List ℕ
first_text = lines_text (first_line (codes ".") [] ∷ [])

next_served : (d : Data) (agent : List ℕ) (prefixes : List (List ℕ)) → AreTold d prefixes → IsServable d → AreRising [] prefixes
    → first_too_long (listing_lines (greeting_of d.hash) agent prefixes) ≡ None → sum_by line_len (listing_lines (greeting_of d.hash) agent prefixes) ≤ request_bound
    → IsServed d true first_text (listing_lines (greeting_of d.hash) agent prefixes) (await.Listing d.hash) (Listing true prefixes) (told.Listing (offered_of d true prefixes))
unfolding reply_lines
next_served d agent prefixes says servable rising fits short = record {
  whole = whole_more d.hash false [] first_text First (whole_none d.hash) (asked_whole d.hash false (first_line (codes ".") [] ∷ []) First (first_read d.hash) first_fits first_short);
  read = asked_whole d.hash true (listing_lines (greeting_of d.hash) agent prefixes) (Listing true prefixes) (listing_read d.hash agent prefixes rising) fits short;
  tells = says.listing;
  fits = listing_fits d true prefixes servable;
}

-- ---- the listing

module _ (d : Data) (bound : ℕ) (q : LsRefsValue) (h : IsHeard d q) where
  tree : Conversation ListedValue Error
  tree = asks (first_line (codes ".") [] ∷ []) await.Greeting (failed bound) (λ t. greeted bound q t)

  next : ParsedReply → Conversation ListedValue Error
  next = λ t. listed q (greeting_of d.hash) t

  -- The greeting passes the bound.
  pub greeting_too_long : bound < sum_by line_len (reply_lines d First) → GoesAlong bound (replies_of d) [] (ls_refs_stage bound q) ((first_line (codes ".") [] ∷ []) ++ []) (Err (failed bound TooLong))
  greeting_too_long far =
      subst (λ (c : Conversation ListedValue Error). GoesAlong bound (replies_of d) [] c ((first_line (codes ".") [] ∷ []) ++ []) (Err (failed bound TooLong))) (sym (asks_first bound q h.inquiry))
      (served_too_long d bound false [] (first_line (codes ".") [] ∷ []) await.Greeting (failed bound) (λ t. greeted bound q t) First (told.Greeting (greeting_of d.hash)) (first_served d (prefixes_asked q) h.told) far)

  second : IsServed d true first_text (listing_lines (greeting_of d.hash) q.agent (prefixes_asked q)) (await.Listing d.hash) (Listing true (prefixes_asked q)) (told.Listing (offered_of d true (prefixes_asked q)))
  second = next_served d q.agent (prefixes_asked q) h.told h.servable h.rising h.fits h.short

  -- The listing passes the bound.
  pub listing_too_long : sum_by line_len (reply_lines d First) ≤ bound → bound < sum_by line_len (reply_lines d (Listing true (prefixes_asked q)))
      → GoesAlong bound (replies_of d) [] (ls_refs_stage bound q) (asked_lines d q) (Err (failed bound TooLong))
  unfolding next
  listing_too_long within far =
      subst (λ (c : Conversation ListedValue Error). GoesAlong bound (replies_of d) [] c (asked_lines d q) (Err (failed bound TooLong))) (sym (asks_first bound q h.inquiry))
      (served_on d bound false [] (first_line (codes ".") [] ∷ []) await.Greeting (failed bound) (λ t. greeted bound q t) First (told.Greeting (greeting_of d.hash))
      (listing_lines (greeting_of d.hash) q.agent (prefixes_asked q) ++ []) (Err (failed bound TooLong)) (first_served d (prefixes_asked q) h.told) within
      (subst (λ (c : Conversation ListedValue Error). GoesAlong bound (replies_of d) first_text c (listing_lines (greeting_of d.hash) q.agent (prefixes_asked q) ++ []) (Err (failed bound TooLong))) (sym (asks_next bound q d.hash h.fits))
      (served_too_long d bound true first_text (listing_lines (greeting_of d.hash) q.agent (prefixes_asked q)) (await.Listing d.hash) (failed bound) next (Listing true (prefixes_asked q)) (told.Listing (offered_of d true (prefixes_asked q))) second far)))

  -- Both are read: what is offered is mapped.
  pub listing_along : sum_by line_len (reply_lines d First) ≤ bound → sum_by line_len (reply_lines d (Listing true (prefixes_asked q))) ≤ bound
      → GoesAlong bound (replies_of d) [] (ls_refs_stage bound q) (asked_lines d q) (mapped q (greeting_of d.hash) (offered_of d true (prefixes_asked q)))
  unfolding next
  listing_along within fits =
      subst (λ (c : Conversation ListedValue Error). GoesAlong bound (replies_of d) [] c (asked_lines d q) (mapped q (greeting_of d.hash) (offered_of d true (prefixes_asked q)))) (sym (asks_first bound q h.inquiry))
      (served_on d bound false [] (first_line (codes ".") [] ∷ []) await.Greeting (failed bound) (λ t. greeted bound q t) First (told.Greeting (greeting_of d.hash))
      (listing_lines (greeting_of d.hash) q.agent (prefixes_asked q) ++ []) (mapped q (greeting_of d.hash) (offered_of d true (prefixes_asked q))) (first_served d (prefixes_asked q) h.told) within
      (subst (λ (c : Conversation ListedValue Error). GoesAlong bound (replies_of d) first_text c (listing_lines (greeting_of d.hash) q.agent (prefixes_asked q) ++ []) (mapped q (greeting_of d.hash) (offered_of d true (prefixes_asked q)))) (sym (asks_next bound q d.hash h.fits))
      (served_on d bound true first_text (listing_lines (greeting_of d.hash) q.agent (prefixes_asked q)) (await.Listing d.hash) (failed bound) next (Listing true (prefixes_asked q)) (told.Listing (offered_of d true (prefixes_asked q)))
      [] (mapped q (greeting_of d.hash) (offered_of d true (prefixes_asked q))) second fits
      (goes_end bound (replies_of d) (first_text ++ lines_text (listing_lines (greeting_of d.hash) q.agent (prefixes_asked q))) (mapped q (greeting_of d.hash) (offered_of d true (prefixes_asked q)))))))

  -- The same as a stage behind which the conversation goes on.
  pub listing_to : (x : ListedValue) → sum_by line_len (reply_lines d First) ≤ bound → sum_by line_len (reply_lines d (Listing true (prefixes_asked q))) ≤ bound
      → mapped q (greeting_of d.hash) (offered_of d true (prefixes_asked q)) ≡ Ok x
      → GoesTo bound (replies_of d) [] (first_text ++ lines_text (listing_lines (greeting_of d.hash) q.agent (prefixes_asked q))) (ls_refs_stage bound q) (asked_lines d q) x
  unfolding next
  listing_to x within fits is =
      let after = first_text ++ lines_text (listing_lines (greeting_of d.hash) q.agent (prefixes_asked q)) in
      subst (λ (c : Conversation ListedValue Error). GoesTo bound (replies_of d) [] after c (asked_lines d q) x) (sym (asks_first bound q h.inquiry))
      (served_to d bound false [] (first_line (codes ".") [] ∷ []) await.Greeting (failed bound) (λ t. greeted bound q t) First (told.Greeting (greeting_of d.hash)) after
      (listing_lines (greeting_of d.hash) q.agent (prefixes_asked q) ++ []) x (first_served d (prefixes_asked q) h.told) within
      (subst (λ (c : Conversation ListedValue Error). GoesTo bound (replies_of d) first_text after c (listing_lines (greeting_of d.hash) q.agent (prefixes_asked q) ++ []) x) (sym (asks_next bound q d.hash h.fits))
      (served_to d bound true first_text (listing_lines (greeting_of d.hash) q.agent (prefixes_asked q)) (await.Listing d.hash) (failed bound) next (Listing true (prefixes_asked q)) (told.Listing (offered_of d true (prefixes_asked q))) after
      [] x second fits (to_end bound (replies_of d) after (mapped q (greeting_of d.hash) (offered_of d true (prefixes_asked q))) x is))))

  -- All that was heard with the listing request are whole requests.
  pub listed_whole : AreWhole d.hash true (first_text ++ lines_text (listing_lines (greeting_of d.hash) q.agent (prefixes_asked q)))
  listed_whole = whole_more d.hash true first_text (lines_text (listing_lines (greeting_of d.hash) q.agent (prefixes_asked q))) (Listing true (prefixes_asked q)) second.whole second.read

-- ---- a listing request that isn't sent, or isn't read

-- An inquiry whose prefixes rise, of a server that can be served.
pub record IsAskable (d : Data) (q : LsRefsValue) : Type 0 where
  pub servable : IsServable d
  pub told : AreTold d (prefixes_asked q)
  pub inquiry : IsInquiry q
  pub rising : AreRising [] (prefixes_asked q)

module _ (d : Data) (bound : ℕ) (q : LsRefsValue) (h : IsAskable d q) where
  abbrev lines : List Line
  lines = listing_lines (greeting_of d.hash) q.agent (prefixes_asked q)

  after_greeting : (others : List Line) (answer : Result ListedValue Error) → sum_by line_len (reply_lines d First) ≤ bound → GoesAlong bound (replies_of d) first_text (greeted bound q (told.Greeting (greeting_of d.hash))) others answer
      → GoesAlong bound (replies_of d) [] (ls_refs_stage bound q) ((first_line (codes ".") [] ∷ []) ++ others) answer
  after_greeting others answer within more =
      subst (λ (c : Conversation ListedValue Error). GoesAlong bound (replies_of d) [] c ((first_line (codes ".") [] ∷ []) ++ others) answer) (sym (asks_first bound q h.inquiry))
      (served_on d bound false [] (first_line (codes ".") [] ∷ []) await.Greeting (failed bound) (λ t. greeted bound q t) First (told.Greeting (greeting_of d.hash)) others answer (first_served d (prefixes_asked q) h.told) within more)

  -- The greeting passes the bound.
  pub ungreeted : bound < sum_by line_len (reply_lines d First) → GoesAlong bound (replies_of d) [] (ls_refs_stage bound q) ((first_line (codes ".") [] ∷ []) ++ []) (Err (failed bound TooLong))
  ungreeted far =
      subst (λ (c : Conversation ListedValue Error). GoesAlong bound (replies_of d) [] c ((first_line (codes ".") [] ∷ []) ++ []) (Err (failed bound TooLong))) (sym (asks_first bound q h.inquiry))
      (served_too_long d bound false [] (first_line (codes ".") [] ∷ []) await.Greeting (failed bound) (λ t. greeted bound q t) First (told.Greeting (greeting_of d.hash)) (first_served d (prefixes_asked q) h.told) far)

  ends_unfit : (n : ℕ) → first_too_long lines ≡ Some n → greeted bound q (told.Greeting (greeting_of d.hash)) ≡ ends (Err (too_long n))
  unfolding listing
  ends_unfit n is = ap (λ (o : Option ℕ). asks_unless o too_long (unless (unlisted (greeting_of d.hash)) (asks lines (await.Listing (greeting_of d.hash).object_hash) (failed bound) (λ t. listed q (greeting_of d.hash) t)))) is

  -- A line of the request is too long.
  pub request_unfit : (n : ℕ) → first_too_long lines ≡ Some n → sum_by line_len (reply_lines d First) ≤ bound
      → GoesAlong bound (replies_of d) [] (ls_refs_stage bound q) ((first_line (codes ".") [] ∷ []) ++ []) (Err (too_long n))
  request_unfit n is within =
      after_greeting [] (Err (too_long n)) within
      (subst (λ (c : Conversation ListedValue Error). GoesAlong bound (replies_of d) first_text c [] (Err (too_long n))) (sym (ends_unfit n is)) (goes_end bound (replies_of d) first_text (Err (too_long n))))

  -- The request is longer than a server reads: it is dead.
  pub request_unread : first_too_long lines ≡ None → request_bound < sum_by line_len lines → sum_by line_len (reply_lines d First) ≤ bound
      → GoesAlong bound (replies_of d) [] (ls_refs_stage bound q) ((first_line (codes ".") [] ∷ []) ++ (lines ++ [])) (Err (failed bound (Short 0)))
  request_unread fits long within =
      let next : ParsedReply → Conversation ListedValue Error = λ t. listed q (greeting_of d.hash) t in
      let whole : AreWhole d.hash true first_text = whole_more d.hash false [] first_text First (whole_none d.hash) (asked_whole d.hash false (first_line (codes ".") [] ∷ []) First (first_read d.hash) first_fits first_short) in
      after_greeting (lines ++ []) (Err (failed bound (Short 0))) within
      (subst (λ (c : Conversation ListedValue Error). GoesAlong bound (replies_of d) first_text c (lines ++ []) (Err (failed bound (Short 0)))) (sym (asks_next bound q d.hash fits))
      (unserved d bound true first_text lines (await.Listing d.hash) (failed bound) next whole
      (asked_too_long d.hash true lines (Listing true (prefixes_asked q)) (listing_read d.hash q.agent (prefixes_asked q) h.rising) fits long)))
