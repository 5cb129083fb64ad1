-- Lines that were read as the reply to a fetch request, and what they say.
use Rattle.std.proofs.Common.{◌≡◌, ◌≢◌, ◌⊎◌, inl, inr, ℕ, Bool, true, false, List, [], ◌∷◌, ◌++◌, map, Option, Some, None, refl, sym, ap, ◌∙◌, subst, append_assoc, All, codes}
use Rattle.std.specs.Prelude.{if◌then◌else◌}
use Rattle.std.specs.Option.{option_and_then}
use Rattle.std.proofs.lemmas.List.{append-nil}
use Rattle.std.proofs.lemmas.List.Elements.{All-nil, All-cons}
use Rattle.fetch_base.specs.Id.{id_in_hex}
use Rattle.fetch_base.specs.Scan.{after}
use Rattle.fetch_base.specs.declared.id.Kind.{Kind}
use Rattle.fetch_base.specs.declared.id.ObjectId.{ObjectId}
use Rattle.fetch_base.proofs.Words.{after_is}
use Rattle.fetch_replies.specs.declared.replies.reply.ReplyContext.{ReplyContext}
use Rattle.fetch_replies.specs.declared.replies.reply.ParsedReply.{ParsedReply}
use Rattle.fetch_replies.specs.declared.replies.reply.ParsedReply.TheVariants as tolds
use Rattle.fetch_lines.specs.declared.lines.line.Line.{Line}
use Rattle.fetch_lines.specs.declared.lines.line.Line.TheVariants.{Payload, Flush, Delim, End}
use Rattle.fetch_replies.specs.declared.replies.parser.Part.TheVariants as parts
use Rattle.fetch_replies.specs.declared.replies.parser.ReplyParser.{ReplyParser}
use Rattle.fetch_replies.specs.declared.replies.parser.ReplyParser.TheVariants as reading
use Rattle.fetch_lines.specs.declared.requests.records.FetchReply.{FetchReply}
use Rattle.fetch_replies.specs.Awaited.{step_of}
use Rattle.fetch_lines.specs.FetchRecords.{no_reply}
use Rattle.fetch_replies.specs.FetchReplies.{is_acknowledgments, is_nak, is_ready, is_shallow_info, if_have, acknowledged_in, shallow_in, unshallow_in, at_packfile, at_rest, at_beginning, at_acknowledgment, at_change}
use Rattle.fetch_lines.specs.KnownIds.{has_id, each_once}
use Rattle.fetch_replies.specs.LinesTold.{Tells}
use Rattle.fetch_wire.specs.Spellings.{IsText, AreTexts, Spells, Acknowledgment, Nak, Ack, acknowledgment_text, IsAcknowledgment, acknowledged_by, Move, Comes, Leaves, move_text, IsMove, coming, leaving, IsRest, IsReplyTo, IsReply}
use Rattle.fetch_replies.specs.Stepping.{Step, goes, ends, breaks, or_breaks}
use Rattle.fetch_wire.proofs.Spelled.{if_step, text_goes, text_ends, flush_ends, some_goes, never_ends}
use Rattle.fetch_wire.proofs.SpelledPack.{exactly, bare, packing, packed, pack_ended, pack_went, Packed}

-- ---- the border

-- the move that a text was
record OneMove (asked : ReplyContext) (ids shallow unshallow : List ObjectId) (said : List ℕ) (t : ReplyParser) : Type 0 where
  move : Move
  text : said ≡ move_text move
  is : IsMove asked.kind move
  goes_on : reading.Reply asked parts.ShallowInfo (bare ids (shallow ++ coming (move ∷ [])) (unshallow ++ leaving (move ∷ []))) ≡ t

-- digits after a word
record IdBehind (kind : Kind) (word said : List ℕ) (id : ObjectId) : Type 0 where
  digits : List ℕ
  text : said ≡ word ++ digits
  is : Spells kind digits id

id_behind : (kind : Kind) (word said : List ℕ) (id : ObjectId) → option_and_then (id_in_hex kind) (after word said) ≡ Some id → IdBehind kind word said id
id_behind kind word said id is = by_word (after word said) refl is
  where
    by_word : (o : Option (List ℕ)) → after word said ≡ o → option_and_then (id_in_hex kind) o ≡ Some id → IdBehind kind word said id
    by_word None e h = absurd cc
    by_word (Some digits) e h = record { digits = digits; text = after_is word said digits e; is = h }

move_goes : (asked : ReplyContext) (ids shallow unshallow : List ObjectId) (said : List ℕ) (t : ReplyParser) → at_change asked (bare ids shallow unshallow) (shallow_in asked.kind said) (unshallow_in asked.kind said) ≡ goes t → OneMove asked ids shallow unshallow said t
unfolding shallow_in unshallow_in
move_goes asked ids shallow unshallow said t is = by_words (shallow_in asked.kind said) (unshallow_in asked.kind said) refl refl is
  where
    by_words : (a b : Option ObjectId) → shallow_in asked.kind said ≡ a → unshallow_in asked.kind said ≡ b → at_change asked (bare ids shallow unshallow) a b ≡ goes t → OneMove asked ids shallow unshallow said t
    by_words (Some id) b e f h =
        let w = id_behind asked.kind (codes "shallow ") said id e in
        record {
          move = Comes w.digits id;
          text = w.text;
          is = w.is;
          goes_on = ap (λ (u : List ObjectId). reading.Reply asked parts.ShallowInfo (bare ids (shallow ++ id ∷ []) u)) (append-nil unshallow) ∙ cc;
        }
    by_words None (Some id) e f h =
        let w = id_behind asked.kind (codes "unshallow ") said id f in
        record {
          move = Leaves w.digits id;
          text = w.text;
          is = w.is;
          goes_on = ap (λ (s : List ObjectId). reading.Reply asked parts.ShallowInfo (bare ids s (unshallow ++ id ∷ []))) (append-nil shallow) ∙ cc;
        }
    by_words None None e f h = absurd cc

coming_more : (move : Move) (moves : List Move) → coming (move ∷ []) ++ coming moves ≡ coming (move ∷ moves)
coming_more (Comes digits id) moves = refl
coming_more (Leaves digits id) moves = refl

leaving_more : (move : Move) (moves : List Move) → leaving (move ∷ []) ++ leaving moves ≡ leaving (move ∷ moves)
leaving_more (Comes digits id) moves = refl
leaving_more (Leaves digits id) moves = refl

-- moves after those that were told before, and the pack after them
record Moved (asked : ReplyContext) (ids shallow unshallow : List ObjectId) (lines : List Line) (x : ParsedReply) : Type 0 where
  moves : List Move
  front : List Line
  others : List Line
  is : lines ≡ front ++ Delim ∷ others
  texts : AreTexts (map move_text moves) front
  each : All (IsMove asked.kind) moves
  pack : Packed asked ids (shallow ++ coming moves) (unshallow ++ leaving moves) others x

abbrev change_step : ReplyContext → FetchReply → List ℕ → Step ReplyParser ParsedReply
change_step asked reply text = at_change asked reply (shallow_in asked.kind text) (unshallow_in asked.kind text)

-- a line among them: a move, or the delimiter
record MoveOrDelim (asked : ReplyContext) (ids shallow unshallow : List ObjectId) (line : Line) (t : ReplyParser) : Type 0 where
  is : ((said : List ℕ) × IsText said line × OneMove asked ids shallow unshallow said t) ⊎ ((line ≡ Delim) × (reading.Reply asked parts.Packfile (bare ids shallow unshallow) ≡ t))

move_or_delim : (asked : ReplyContext) (ids shallow unshallow : List ObjectId) (line : Line) (t : ReplyParser) → step_of (reading.Reply asked parts.ShallowInfo (bare ids shallow unshallow)) line ≡ goes t → MoveOrDelim asked ids shallow unshallow line t
unfolding step_of
move_or_delim asked ids shallow unshallow (Payload payload) t is =
    let g = text_goes breaks breaks (change_step asked (bare ids shallow unshallow)) (Payload payload) t (λ e. cc) (λ e. cc) is in
    record { is = inl (g.0, g.1, move_goes asked ids shallow unshallow g.0 t g.2) }
move_or_delim asked ids shallow unshallow Flush t is = absurd cc
move_or_delim asked ids shallow unshallow Delim t is = record { is = inr (refl, cc) }
move_or_delim asked ids shallow unshallow End t is = absurd cc

no_change_ends : (asked : ReplyContext) (reply : FetchReply) (a b : Option ObjectId) (x : ParsedReply) → at_change asked reply a b ≢ ends x
no_change_ends asked reply (Some id) b x = λ e. cc
no_change_ends asked reply None (Some id) x = λ e. cc
no_change_ends asked reply None None x = λ e. cc

no_move_ends : (asked : ReplyContext) (reply : FetchReply) (line : Line) (x : ParsedReply) → step_of (reading.Reply asked parts.ShallowInfo reply) line ≢ ends x
unfolding step_of
no_move_ends asked reply (Payload payload) x = λ is.
    let e = text_ends (change_step asked reply) (Payload payload) x is in no_change_ends asked reply (shallow_in asked.kind e.0) (unshallow_in asked.kind e.0) x e.2
no_move_ends asked reply Flush x = λ is. cc
no_move_ends asked reply Delim x = λ is. cc
no_move_ends asked reply End x = λ is. cc

moved : (asked : ReplyContext) (ids shallow unshallow : List ObjectId) (lines : List Line) (x : ParsedReply) → Tells step_of (reading.Reply asked parts.ShallowInfo (bare ids shallow unshallow)) lines x → Moved asked ids shallow unshallow lines x
moved asked ids shallow unshallow [] x h = absurd h
moved asked ids shallow unshallow (line ∷ []) x h = absurd (no_move_ends asked (bare ids shallow unshallow) line x h)
moved asked ids shallow unshallow (line ∷ next ∷ lines) x (t, goes_on, h) = by_line_is (move_or_delim asked ids shallow unshallow line t goes_on).is (λ s u. moved asked ids s u (next ∷ lines) x)
  where
    by_line_is : ((said : List ℕ) × IsText said line × OneMove asked ids shallow unshallow said t) ⊎ ((line ≡ Delim) × (reading.Reply asked parts.Packfile (bare ids shallow unshallow) ≡ t))
        → ((s u : List ObjectId) → Tells step_of (reading.Reply asked parts.ShallowInfo (bare ids s u)) (next ∷ lines) x → Moved asked ids s u (next ∷ lines) x) → Moved asked ids shallow unshallow (line ∷ next ∷ lines) x
    by_line_is (inr (is, goes_so)) again = record {
      moves = [];
      front = [];
      others = next ∷ lines;
      is = ap (λ (l : Line). l ∷ next ∷ lines) is;
      texts = tt;
      each = All-nil (IsMove asked.kind);
      pack = subst (λ (s : List ObjectId). Packed asked ids s (unshallow ++ []) (next ∷ lines) x) (sym (append-nil shallow))
          (subst (λ (u : List ObjectId). Packed asked ids shallow u (next ∷ lines) x) (sym (append-nil unshallow))
          (packed asked ids shallow unshallow (next ∷ lines) x (subst (λ (r : ReplyParser). Tells step_of r (next ∷ lines) x) (sym goes_so) h)));
    }
    by_line_is (inl (said, is, one)) again =
        let more = again (shallow ++ coming (one.move ∷ [])) (unshallow ++ leaving (one.move ∷ [])) (subst (λ (r : ReplyParser). Tells step_of r (next ∷ lines) x) (sym one.goes_on) h) in
        record {
          moves = one.move ∷ more.moves;
          front = line ∷ more.front;
          others = more.others;
          is = ap (λ (l : List Line). line ∷ l) more.is;
          texts = (subst (λ (s : List ℕ). IsText s line) one.text is, more.texts);
          each = All-cons (IsMove asked.kind) one.move more.moves one.is more.each;
          pack = subst (λ (s : List ObjectId). Packed asked ids s (unshallow ++ leaving (one.move ∷ more.moves)) more.others x) (append_assoc shallow (coming (one.move ∷ [])) (coming more.moves) ∙ ap (λ (l : List ObjectId). shallow ++ l) (coming_more one.move more.moves))
              (subst (λ (u : List ObjectId). Packed asked ids ((shallow ++ coming (one.move ∷ [])) ++ coming more.moves) u more.others x) (append_assoc unshallow (leaving (one.move ∷ [])) (leaving more.moves) ∙ ap (λ (l : List ObjectId). unshallow ++ l) (leaving_more one.move more.moves))
              more.pack);
        }

-- ---- the rest

record Rested (asked : ReplyContext) (ids : List ObjectId) (lines : List Line) (x : ParsedReply) : Type 0 where
  reply : FetchReply
  rest : IsRest asked ids reply lines
  told : x ≡ tolds.Reply reply

unmoved : (asked : ReplyContext) (ids : List ObjectId) (lines : List Line) (x : ParsedReply) → Packed asked ids [] [] lines x → Rested asked ids lines x
unmoved asked ids lines x p = record {
  reply = packing asked.read_pack (bare ids [] []) p.bands;
  rest = record { moves = None; bands = p.bands; front = []; behind = lines; is = refl; border = refl; pack = p.is; told = refl };
  told = p.told;
}

with_moves : (asked : ReplyContext) (ids : List ObjectId) (said : List ℕ) (line : Line) (lines : List Line) (x : ParsedReply) → said ≡ codes "shallow-info" → IsText said line → Moved asked ids [] [] lines x → Rested asked ids (line ∷ lines) x
with_moves asked ids said line lines x word is m = record {
  reply = packing asked.read_pack (bare ids (coming m.moves) (leaving m.moves)) m.pack.bands;
  rest = record {
    moves = Some m.moves;
    bands = m.pack.bands;
    front = line ∷ (m.front ++ Delim ∷ []);
    behind = m.others;
    is = ap (λ (l : List Line). line ∷ l) (m.is ∙ sym (append_assoc m.front (Delim ∷ []) m.others));
    border = (line ∷ m.front, refl, (subst (λ (s : List ℕ). IsText s line) word is, m.texts), m.each);
    pack = m.pack.is;
    told = refl;
  };
  told = m.pack.told;
}

rest_goes : (asked : ReplyContext) (ids : List ObjectId) (said : List ℕ) (line next : Line) (lines : List Line) (t : ReplyParser) (x : ParsedReply) → IsText said line → at_rest asked (bare ids [] []) said ≡ goes t → Tells step_of t (next ∷ lines) x → Rested asked ids (line ∷ next ∷ lines) x
unfolding is_shallow_info
rest_goes asked ids said line next lines t x is h tells = by_word (is_shallow_info said) refl h
  where
    by_word : (b : Bool) → is_shallow_info said ≡ b → if_step b (goes (reading.Reply asked parts.ShallowInfo (bare ids [] []))) (at_packfile asked (bare ids [] []) said) ≡ goes t → Rested asked ids (line ∷ next ∷ lines) x
    by_word true e g =
        with_moves asked ids said line (next ∷ lines) x (exactly said (codes "shallow-info") e) is
        (moved asked ids [] [] (next ∷ lines) x (subst (λ (r : ReplyParser). Tells step_of r (next ∷ lines) x) (let s : reading.Reply asked parts.ShallowInfo (bare ids [] []) ≡ t = cc in sym s) tells))
    by_word false e g = unmoved asked ids (line ∷ next ∷ lines) x (pack_went asked ids [] [] said line next lines t x is g tells)

rest_ends : (asked : ReplyContext) (ids : List ObjectId) (said : List ℕ) (line : Line) (x : ParsedReply) → IsText said line → at_rest asked (bare ids [] []) said ≡ ends x → Rested asked ids (line ∷ []) x
unfolding is_shallow_info
rest_ends asked ids said line x is h = by_word (is_shallow_info said) refl h
  where
    by_word : (b : Bool) → is_shallow_info said ≡ b → if_step b (goes (reading.Reply asked parts.ShallowInfo (bare ids [] []))) (at_packfile asked (bare ids [] []) said) ≡ ends x → Rested asked ids (line ∷ []) x
    by_word true e g = absurd cc
    by_word false e g = unmoved asked ids (line ∷ []) x (pack_ended asked ids [] [] said line x is g)

rested : (asked : ReplyContext) (ids : List ObjectId) (lines : List Line) (x : ParsedReply) → Tells step_of (reading.Reply asked parts.Rest (bare ids [] [])) lines x → Rested asked ids lines x
unfolding step_of
rested asked ids [] x h = absurd h
rested asked ids (line ∷ []) x h = let e = text_ends (at_rest asked (bare ids [] [])) line x h in rest_ends asked ids e.0 line x e.1 e.2
rested asked ids (line ∷ next ∷ lines) x (t, goes_on, h) =
    let g = text_goes breaks breaks (at_rest asked (bare ids [] [])) line t (λ e. cc) (λ e. cc) goes_on in rest_goes asked ids g.0 line next lines t x g.1 g.2 h

-- ---- acknowledgments

-- the word that a text was
record OneAck (asked : ReplyContext) (reply : FetchReply) (said : List ℕ) (t : ReplyParser) : Type 0 where
  word : Acknowledgment
  text : said ≡ acknowledgment_text word
  is : IsAcknowledgment asked word
  goes_on : reading.Reply asked parts.Acknowledgments (record reply { acknowledged = reply.acknowledged ++ acknowledged_by (word ∷ []) }) ≡ t

have_so : (asked : ReplyContext) (digits : List ℕ) (id : ObjectId) → option_and_then (if_have asked.haves) (id_in_hex asked.kind digits) ≡ Some id → Spells asked.kind digits id × (has_id id asked.haves ≡ true)
have_so asked digits id is = by_id (id_in_hex asked.kind digits) refl is
  where
    by_have : (x : ObjectId) (b : Bool) → has_id x asked.haves ≡ b → id_in_hex asked.kind digits ≡ Some x → (if b then Some x else None) ≡ Some id → Spells asked.kind digits id × (has_id id asked.haves ≡ true)
    by_have x true e f h = let s : x ≡ id = cc in (f ∙ ap Some s, ap (λ (y : ObjectId). has_id y asked.haves) (sym s) ∙ e)
    by_have x false e f h = absurd cc

    by_id : (o : Option ObjectId) → id_in_hex asked.kind digits ≡ o → option_and_then (if_have asked.haves) o ≡ Some id → Spells asked.kind digits id × (has_id id asked.haves ≡ true)
    by_id None e h = absurd cc
    by_id (Some x) e h = by_have x (has_id x asked.haves) refl e h

ack_told : (asked : ReplyContext) (said : List ℕ) (id : ObjectId) → acknowledged_in asked said ≡ Some id → (digits : List ℕ) × (said ≡ codes "ACK " ++ digits) × Spells asked.kind digits id × (has_id id asked.haves ≡ true)
unfolding acknowledged_in
ack_told asked said id is = by_word (after (codes "ACK ") said) refl is
  where
    by_word : (o : Option (List ℕ)) → after (codes "ACK ") said ≡ o → option_and_then (λ hex. option_and_then (if_have asked.haves) (id_in_hex asked.kind hex)) o ≡ Some id → (digits : List ℕ) × (said ≡ codes "ACK " ++ digits) × Spells asked.kind digits id × (has_id id asked.haves ≡ true)
    by_word None e h = absurd cc
    by_word (Some digits) e h = let p = have_so asked digits id h in (digits, after_is (codes "ACK ") said digits e, p.0, p.1)

-- a text is a word of these, or `ready`
abbrev AckOrReady : ReplyContext → FetchReply → List ℕ → ReplyParser → Type 0
AckOrReady asked reply said t = OneAck asked reply said t ⊎ ((said ≡ codes "ready") × (reading.Reply asked parts.Ready reply ≡ t))

ack_goes : (asked : ReplyContext) (reply : FetchReply) (said : List ℕ) (t : ReplyParser) → at_acknowledgment asked reply said ≡ goes t → AckOrReady asked reply said t
unfolding is_nak is_ready
ack_goes asked reply said t is = by_words (is_nak said) (is_ready said) refl refl is
  where
    by_words : (a b : Bool) → is_nak said ≡ a → is_ready said ≡ b
        → if_step a (goes (reading.Reply asked parts.Acknowledgments reply)) (if_step b (goes (reading.Reply asked parts.Ready reply))
        (or_breaks (acknowledged_in asked said) (λ id. goes (reading.Reply asked parts.Acknowledgments (record reply { acknowledged = reply.acknowledged ++ id ∷ [] }))))) ≡ goes t → AckOrReady asked reply said t
    by_words true b e f h = inl (record {
      word = Nak;
      text = exactly said (codes "NAK") e;
      is = tt;
      goes_on = ap (λ (ids : List ObjectId). reading.Reply asked parts.Acknowledgments (record reply { acknowledged = ids })) (append-nil reply.acknowledged) ∙ cc;
    })
    by_words false true e f h = inr (exactly said (codes "ready") f, cc)
    by_words false false e f h =
        let s = some_goes (acknowledged_in asked said) (λ id. reading.Reply asked parts.Acknowledgments (record reply { acknowledged = reply.acknowledged ++ id ∷ [] })) t h in
        let w = ack_told asked said s.0 s.1 in
        inl (record { word = Ack w.0 s.0; text = w.1; is = (w.2, w.3); goes_on = s.2 })

no_ack_ends : (asked : ReplyContext) (reply : FetchReply) (said : List ℕ) (x : ParsedReply) → at_acknowledgment asked reply said ≢ ends x
no_ack_ends asked reply said x = λ is. by_words (is_nak said) (is_ready said) is
  where
    by_words : (a b : Bool) → if_step a (goes (reading.Reply asked parts.Acknowledgments reply)) (if_step b (goes (reading.Reply asked parts.Ready reply))
        (or_breaks (acknowledged_in asked said) (λ id. goes (reading.Reply asked parts.Acknowledgments (record reply { acknowledged = reply.acknowledged ++ id ∷ [] }))))) ≡ ends x → ⊥
    by_words true b h = cc
    by_words false true h = cc
    by_words false false h = never_ends (acknowledged_in asked said) (λ id. reading.Reply asked parts.Acknowledgments (record reply { acknowledged = reply.acknowledged ++ id ∷ [] })) x h

ready_goes : (asked : ReplyContext) (reply : FetchReply) (line : Line) (t : ReplyParser) → step_of (reading.Reply asked parts.Ready reply) line ≡ goes t → (line ≡ Delim) × (reading.Reply asked parts.Rest (record reply { acknowledged = each_once reply.acknowledged }) ≡ t)
unfolding step_of
ready_goes asked reply (Payload payload) t is = absurd cc
ready_goes asked reply Flush t is = absurd cc
ready_goes asked reply Delim t is = (refl, cc)
ready_goes asked reply End t is = absurd cc

ready_never_ends : (asked : ReplyContext) (reply : FetchReply) (line : Line) (x : ParsedReply) → step_of (reading.Reply asked parts.Ready reply) line ≢ ends x
unfolding step_of
ready_never_ends asked reply (Payload payload) x = λ is. cc
ready_never_ends asked reply Flush x = λ is. cc
ready_never_ends asked reply Delim x = λ is. cc
ready_never_ends asked reply End x = λ is. cc

-- words after those that were told before, up to the flush, or up to `ready` and its delimiter
data Acked (asked : ReplyContext) (ids : List ObjectId) (lines : List Line) (x : ParsedReply) : Type 0 where
  flushed : (words : List Acknowledgment) (front : List Line) → lines ≡ front ++ Flush ∷ [] → AreTexts (map acknowledgment_text words) front → All (IsAcknowledgment asked) words
      → x ≡ tolds.Reply (record no_reply { acknowledged = each_once (ids ++ acknowledged_by words); last = false }) → Acked asked ids lines x
  readied : (words : List Acknowledgment) (front others : List Line) → lines ≡ front ++ Delim ∷ others → AreTexts (map acknowledgment_text words ++ codes "ready" ∷ []) front → All (IsAcknowledgment asked) words
      → Rested asked (each_once (ids ++ acknowledged_by words)) others x → Acked asked ids lines x

acked_more : (word : Acknowledgment) (words : List Acknowledgment) → acknowledged_by (word ∷ []) ++ acknowledged_by words ≡ acknowledged_by (word ∷ words)
acked_more Nak words = refl
acked_more (Ack digits id) words = refl

ids_more : (ids : List ObjectId) (word : Acknowledgment) (words : List Acknowledgment) → (ids ++ acknowledged_by (word ∷ [])) ++ acknowledged_by words ≡ ids ++ acknowledged_by (word ∷ words)
ids_more ids word words = append_assoc ids (acknowledged_by (word ∷ [])) (acknowledged_by words) ∙ ap (λ (l : List ObjectId). ids ++ l) (acked_more word words)

one_acked : (asked : ReplyContext) (ids : List ObjectId) (said : List ℕ) (line : Line) (lines : List Line) (x : ParsedReply) (word : Acknowledgment) → said ≡ acknowledgment_text word → IsText said line → IsAcknowledgment asked word
    → Acked asked (ids ++ acknowledged_by (word ∷ [])) lines x → Acked asked ids (line ∷ lines) x
one_acked asked ids said line lines x word text is had (flushed words front same texts each told) =
    flushed (word ∷ words) (line ∷ front) (ap (λ (l : List Line). line ∷ l) same) (subst (λ (s : List ℕ). IsText s line) text is, texts) (All-cons (IsAcknowledgment asked) word words had each)
    (told ∙ ap (λ (l : List ObjectId). tolds.Reply (record no_reply { acknowledged = each_once l; last = false })) (ids_more ids word words))
one_acked asked ids said line lines x word text is had (readied words front others same texts each rest) =
    readied (word ∷ words) (line ∷ front) others (ap (λ (l : List Line). line ∷ l) same) (subst (λ (s : List ℕ). IsText s line) text is, texts) (All-cons (IsAcknowledgment asked) word words had each)
    (subst (λ (l : List ObjectId). Rested asked (each_once l) others x) (ids_more ids word words) rest)

ready_acked : (asked : ReplyContext) (ids : List ObjectId) (said : List ℕ) (line : Line) (lines : List Line) (x : ParsedReply) → said ≡ codes "ready" → IsText said line → Tells step_of (reading.Reply asked parts.Ready (bare ids [] [])) lines x → Acked asked ids (line ∷ lines) x
ready_acked asked ids said line [] x word is h = absurd h
ready_acked asked ids said line (delim ∷ []) x word is h = absurd (ready_never_ends asked (bare ids [] []) delim x h)
ready_acked asked ids said line (delim ∷ next ∷ lines) x word is (t, goes_on, h) =
    let g = ready_goes asked (bare ids [] []) delim t goes_on in
    readied [] (line ∷ []) (next ∷ lines) (ap (λ (l : Line). line ∷ l ∷ next ∷ lines) g.0) (subst (λ (s : List ℕ). IsText s line) word is, tt) (All-nil (IsAcknowledgment asked))
    (subst (λ (l : List ObjectId). Rested asked (each_once l) (next ∷ lines) x) (sym (append-nil ids)) (rested asked (each_once ids) (next ∷ lines) x (subst (λ (r : ReplyParser). Tells step_of r (next ∷ lines) x) (sym g.1) h)))

acked : (asked : ReplyContext) (ids : List ObjectId) (lines : List Line) (x : ParsedReply) → Tells step_of (reading.Reply asked parts.Acknowledgments (bare ids [] [])) lines x → Acked asked ids lines x
unfolding step_of
acked asked ids [] x h = absurd h
acked asked ids (line ∷ []) x h =
    let e = flush_ends (tolds.Reply (record (bare (each_once ids) [] []) { last = false })) (at_acknowledgment asked (bare ids [] [])) line x (λ said. no_ack_ends asked (bare ids [] []) said x) h in
    flushed [] [] (ap (λ (l : Line). l ∷ []) e.0) tt (All-nil (IsAcknowledgment asked)) (sym e.1 ∙ ap (λ (l : List ObjectId). tolds.Reply (record no_reply { acknowledged = each_once l; last = false })) (sym (append-nil ids)))
acked asked ids (line ∷ next ∷ lines) x (t, goes_on, h) =
    let g = text_goes (ends (tolds.Reply (record (bare (each_once ids) [] []) { last = false }))) breaks (at_acknowledgment asked (bare ids [] [])) line t (λ e. cc) (λ e. cc) goes_on in
    by_word g.0 g.1 (ack_goes asked (bare ids [] []) g.0 t g.2) (λ l. acked asked l (next ∷ lines) x)
  where
    by_word : (said : List ℕ) → IsText said line → AckOrReady asked (bare ids [] []) said t
        → ((l : List ObjectId) → Tells step_of (reading.Reply asked parts.Acknowledgments (bare l [] [])) (next ∷ lines) x → Acked asked l (next ∷ lines) x) → Acked asked ids (line ∷ next ∷ lines) x
    by_word said is (inl one) again =
        one_acked asked ids said line (next ∷ lines) x one.word one.text is one.is (again (ids ++ acknowledged_by (one.word ∷ [])) (subst (λ (r : ReplyParser). Tells step_of r (next ∷ lines) x) (sym one.goes_on) h))
    by_word said is (inr (word, goes_so)) again = ready_acked asked ids said line (next ∷ lines) x word is (subst (λ (r : ReplyParser). Tells step_of r (next ∷ lines) x) (sym goes_so) h)

-- ---- the whole

-- what the lines of a reply tell
pub record Replied (asked : ReplyContext) (lines : List Line) (x : ParsedReply) : Type 0 where
  pub reply : FetchReply
  pub is : IsReply asked reply lines
  pub told : x ≡ tolds.Reply reply

at_done : (asked : ReplyContext) (reply : FetchReply) (said : List ℕ) (b : Bool) → asked.done ≡ b → at_beginning asked reply said ≡ if_step b (at_rest asked reply said) (if_step (is_acknowledgments said) (goes (reading.Reply asked parts.Acknowledgments reply)) breaks)
at_done asked reply said b is = rw is refl

replied_done : (asked : ReplyContext) (lines : List Line) (x : ParsedReply) → asked.done ≡ true → Rested asked [] lines x → Replied asked lines x
replied_done asked lines x done r = record { reply = r.reply; is = subst (λ (b : Bool). IsReplyTo b asked r.reply lines) (sym done) r.rest; told = r.told }

acked_reply : (asked : ReplyContext) (said : List ℕ) (line : Line) (lines : List Line) (x : ParsedReply) → asked.done ≡ false → said ≡ codes "acknowledgments" → IsText said line → Acked asked [] lines x → Replied asked (line ∷ lines) x
acked_reply asked said line lines x more word is (flushed words front same texts each told) = record {
  reply = record no_reply { acknowledged = each_once (acknowledged_by words); last = false };
  is = subst (λ (b : Bool). IsReplyTo b asked (record no_reply { acknowledged = each_once (acknowledged_by words); last = false }) (line ∷ lines)) (sym more) (inl (record {
    acknowledgments = words;
    front = line ∷ front;
    is = ap (λ (l : List Line). line ∷ l) same;
    acknowledged = ((subst (λ (s : List ℕ). IsText s line) word is, subst (λ (ts : List (List ℕ)). AreTexts ts front) (sym (append-nil (map acknowledgment_text words))) texts), each);
    told = refl;
  }));
  told = told;
}
acked_reply asked said line lines x more word is (readied words front others same texts each rest) = record {
  reply = rest.reply;
  is = subst (λ (b : Bool). IsReplyTo b asked rest.reply (line ∷ lines)) (sym more) (inr (record {
    acknowledgments = words;
    front = line ∷ front;
    behind = others;
    is = ap (λ (l : List Line). line ∷ l) same;
    acknowledged = ((subst (λ (s : List ℕ). IsText s line) word is, texts), each);
    rest = rest.rest;
  }));
  told = rest.told;
}

begins_ends : (asked : ReplyContext) (said : List ℕ) (line : Line) (x : ParsedReply) (b : Bool) → asked.done ≡ b → IsText said line
    → if_step b (at_rest asked no_reply said) (if_step (is_acknowledgments said) (goes (reading.Reply asked parts.Acknowledgments no_reply)) breaks) ≡ ends x → Replied asked (line ∷ []) x
begins_ends asked said line x true done is h = replied_done asked (line ∷ []) x done (rest_ends asked [] said line x is h)
begins_ends asked said line x false done is h = by_word (is_acknowledgments said) h
  where
    by_word : (b : Bool) → if_step b (goes (reading.Reply asked parts.Acknowledgments no_reply)) breaks ≡ ends x → Replied asked (line ∷ []) x
    by_word true e = absurd cc
    by_word false e = absurd cc

begins_goes : (asked : ReplyContext) (said : List ℕ) (line next : Line) (lines : List Line) (t : ReplyParser) (x : ParsedReply) (b : Bool) → asked.done ≡ b → IsText said line
    → if_step b (at_rest asked no_reply said) (if_step (is_acknowledgments said) (goes (reading.Reply asked parts.Acknowledgments no_reply)) breaks) ≡ goes t → Tells step_of t (next ∷ lines) x → Replied asked (line ∷ next ∷ lines) x
unfolding is_acknowledgments
begins_goes asked said line next lines t x true done is h tells = replied_done asked (line ∷ next ∷ lines) x done (rest_goes asked [] said line next lines t x is h tells)
begins_goes asked said line next lines t x false done is h tells = by_word (is_acknowledgments said) refl h
  where
    by_word : (b : Bool) → is_acknowledgments said ≡ b → if_step b (goes (reading.Reply asked parts.Acknowledgments no_reply)) breaks ≡ goes t → Replied asked (line ∷ next ∷ lines) x
    by_word true e g =
        acked_reply asked said line (next ∷ lines) x done (exactly said (codes "acknowledgments") e) is
        (acked asked [] (next ∷ lines) x (subst (λ (r : ReplyParser). Tells step_of r (next ∷ lines) x) (let s : reading.Reply asked parts.Acknowledgments no_reply ≡ t = cc in sym s) tells))
    by_word false e g = absurd cc

pub replied : (asked : ReplyContext) (lines : List Line) (x : ParsedReply) → Tells step_of (reading.Reply asked parts.Beginning no_reply) lines x → Replied asked lines x
unfolding step_of
replied asked [] x h = absurd h
replied asked (line ∷ []) x h =
    let e = text_ends (at_beginning asked no_reply) line x h in begins_ends asked e.0 line x asked.done refl e.1 (sym (at_done asked no_reply e.0 asked.done refl) ∙ e.2)
replied asked (line ∷ next ∷ lines) x (t, goes_on, h) =
    let g = text_goes breaks breaks (at_beginning asked no_reply) line t (λ e. cc) (λ e. cc) goes_on in
    begins_goes asked g.0 line next lines t x asked.done refl g.1 (sym (at_done asked no_reply g.0 asked.done refl) ∙ g.2) h

same_reply : (a b : FetchReply) → tolds.Reply a ≡ tolds.Reply b → a ≡ b
same_reply a b is = cc

pub reply_told : (asked : ReplyContext) (reply : FetchReply) (lines : List Line) → Tells step_of (reading.Reply asked parts.Beginning no_reply) lines (tolds.Reply reply) → IsReply asked reply lines
reply_told asked reply lines tells =
    let r = replied asked lines (tolds.Reply reply) tells in subst (λ (x : FetchReply). IsReply asked x lines) (sym (same_reply reply r.reply r.told)) r.is
