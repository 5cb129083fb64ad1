-- A reply whose pack isn't read tells the same as the whole one, the pack aside.
use Rattle.std.proofs.Common.{◌≡◌, ◌⊎◌, inl, inr, ℕ, zero, suc, ◌+◌, Bool, true, false, List, [], ◌∷◌, ◌++◌, length, Option, Some, None, Result, Ok, Err, refl, sym, ap, ◌∙◌, subst}
use Rattle.std.specs.Prelude.{⊤, if◌then◌else◌, ◌==◌}
use Rattle.fetch_base.specs.declared.id.ObjectId.{ObjectId}
use Rattle.fetch_replies.specs.declared.replies.reply.ReplyContext.{ReplyContext}
use Rattle.fetch_replies.specs.declared.replies.reply.ReplyKind.TheVariants as awaits
use Rattle.fetch_replies.specs.declared.replies.reply.ReplyError.{ReplyError}
use Rattle.fetch_replies.specs.declared.replies.reply.ParsedReply.{ParsedReply}
use Rattle.fetch_replies.specs.declared.replies.reply.ParsedReply.TheVariants as told
use Rattle.fetch_lines.specs.declared.lines.line.Line.{Line}
use Rattle.fetch_lines.specs.declared.lines.line.Line.TheVariants.{Payload, Flush, Delim, End}
use Rattle.fetch_lines.specs.declared.lines.section.LineError.{LineError}
use Rattle.fetch_replies.specs.declared.replies.parser.Part.{Part}
use Rattle.fetch_replies.specs.declared.replies.parser.Part.TheVariants as parts
use Rattle.fetch_replies.specs.declared.replies.parser.ReplyParser.{ReplyParser}
use Rattle.fetch_replies.specs.declared.replies.parser.ReplyParser.TheVariants as reading
use Rattle.fetch_lines.specs.declared.requests.records.FetchReply.{FetchReply}
use Rattle.fetch_replies.specs.Awaited.{step_of, told_at}
use Rattle.fetch_lines.specs.KnownIds.{each_once}
use Rattle.fetch_lines.specs.FetchRecords.{no_reply}
use Rattle.fetch_replies.specs.FetchReplies.{is_packfile, is_shallow_info, is_acknowledgments, is_nak, is_ready, acknowledged_in, shallow_in, unshallow_in, with_bytes, at_packfile, at_rest, at_beginning, at_acknowledgment, behind_ready, at_change}
use Rattle.fetch_lines.specs.Lines.{line_at, line_len}
use Rattle.fetch_replies.specs.Stepping.{Step, goes, ends, breaks, says, or_breaks, after_step, after_line, read_within}
use Rattle.fetch_replies.specs.Steps.{by_line, error_text}
use Rattle.fetch_lines.specs.Texts.{without_lf, is_error}

-- the same reply, read up to its pack
abbrev pub up_to_pack : ReplyContext → ReplyContext
up_to_pack asked = record asked { read_pack = false }

-- with this pack and this progress
abbrev with_these : Option (List ℕ) → List (List ℕ) → FetchReply → FetchReply
with_these pack progress reply = record reply { pack = pack; progress = progress }

-- without its pack and its progress
abbrev pub unread : FetchReply → FetchReply
unread reply = with_these None [] reply

-- before the pack
abbrev IsEarly : Part → Type 0
IsEarly parts.Beginning = ⊤
IsEarly parts.Acknowledgments = ⊤
IsEarly parts.Ready = ⊤
IsEarly parts.Rest = ⊤
IsEarly parts.ShallowInfo = ⊤
IsEarly parts.Packfile = ⊤
IsEarly parts.Bands = ⊥

-- nothing of a pack came, and whether it is the last stays
record Keeps (old now : FetchReply) : Type 0 where
  pack : now.pack ≡ old.pack
  progress : now.progress ≡ old.progress

-- ---- one line

-- both read on before the pack
record BothGo (asked : ReplyContext) (reply : FetchReply) (t : ReplyParser) (other : Step ReplyParser ParsedReply) : Type 0 where
  part : Part
  now : FetchReply
  early : IsEarly part
  keeps : Keeps reply now
  last : now.last ≡ reply.last
  is : t ≡ reading.Reply asked part now
  same : other ≡ goes (reading.Reply (up_to_pack asked) part now)

-- the one reads the pack, and the other is at its end
record PackBegins (asked : ReplyContext) (reply : FetchReply) (t : ReplyParser) (other : Step ReplyParser ParsedReply) : Type 0 where
  is : t ≡ reading.Reply asked parts.Bands (record reply { pack = Some [] })
  same : other ≡ ends (told.Reply reply)

-- both are at their end
record BothEnd (reply : FetchReply) (x : ParsedReply) (other : Step ReplyParser ParsedReply) : Type 0 where
  whole : FetchReply
  keeps : Keeps reply whole
  is : x ≡ told.Reply whole
  same : other ≡ ends (told.Reply whole)

abbrev Follows : ReplyContext → FetchReply → Step ReplyParser ParsedReply → Step ReplyParser ParsedReply → Type 0
Follows asked reply (goes t) other = BothGo asked reply t other ⊎ PackBegins asked reply t other
Follows asked reply (ends x) other = BothEnd reply x other
Follows asked reply breaks other = ⊤
Follows asked reply (says text) other = ⊤

module _ (asked : ReplyContext) (reply : FetchReply) where
  on : (part : Part) (now : FetchReply) → IsEarly part → Keeps reply now → now.last ≡ reply.last → Follows asked reply (goes (reading.Reply asked part now)) (goes (reading.Reply (up_to_pack asked) part now))
  on part now early keeps last = inl (record { part = part; now = now; early = early; keeps = keeps; last = last; is = refl; same = refl })

  either : (b : Bool) (x y u v : Step ReplyParser ParsedReply) → Follows asked reply x u → Follows asked reply y v → Follows asked reply (if b then x else y) (if b then u else v)
  either true x y u v h k = h
  either false x y u v h k = k

  some : {A : Type 0} (o : Option A) (f g : A → Step ReplyParser ParsedReply) → ((x : A) → Follows asked reply (f x) (g x)) → Follows asked reply (or_breaks o f) (or_breaks o g)
  some None f g h = tt
  some (Some x) f g h = h x

  line_by : (flush delim flush' delim' : Step ReplyParser ParsedReply) (f g : List ℕ → Step ReplyParser ParsedReply) (line : Line) → Follows asked reply flush flush' → Follows asked reply delim delim' → ((text : List ℕ) → Follows asked reply (f text) (g text))
      → Follows asked reply (by_line flush delim f line) (by_line flush' delim' g line)
  line_by flush delim flush' delim' f g (Payload payload) a b h = either (is_error payload) (says (error_text payload)) (f (without_lf payload)) (says (error_text payload)) (g (without_lf payload)) tt (h (without_lf payload))
  line_by flush delim flush' delim' f g Flush a b h = a
  line_by flush delim flush' delim' f g Delim a b h = b
  line_by flush delim flush' delim' f g End a b h = tt

  same_reply : Keeps reply reply
  same_reply = record { pack = refl; progress = refl }

  pack_or_end : (b : Bool) → Follows asked reply (if b then goes (reading.Reply asked parts.Bands (record reply { pack = Some [] })) else ends (told.Reply reply)) (ends (told.Reply reply))
  pack_or_end true = inr (record { is = refl; same = refl })
  pack_or_end false = record { whole = reply; keeps = same_reply; is = refl; same = refl }

  packfile : (text : List ℕ) → Follows asked reply (at_packfile asked reply text) (at_packfile (up_to_pack asked) reply text)
  packfile text = either (is_packfile text) _ _ _ _ (pack_or_end asked.read_pack) tt

  rest : (text : List ℕ) → Follows asked reply (at_rest asked reply text) (at_rest (up_to_pack asked) reply text)
  rest text = either (is_shallow_info text) _ _ _ _ (on parts.ShallowInfo reply tt same_reply refl) (packfile text)

  beginning : (text : List ℕ) → Follows asked reply (at_beginning asked reply text) (at_beginning (up_to_pack asked) reply text)
  beginning text = either asked.done _ _ _ _ (rest text) (either (is_acknowledgments text) _ _ _ _ (on parts.Acknowledgments reply tt same_reply refl) tt)

  acknowledgment : (text : List ℕ) → Follows asked reply (at_acknowledgment asked reply text) (at_acknowledgment (up_to_pack asked) reply text)
  unfolding acknowledged_in
  acknowledgment text =
      either (is_nak text) _ _ _ _ (on parts.Acknowledgments reply tt same_reply refl)
      (either (is_ready text) _ _ _ _ (on parts.Ready reply tt same_reply refl)
      (some (acknowledged_in asked text) _ _ (λ id. on parts.Acknowledgments (record reply { acknowledged = reply.acknowledged ++ id ∷ [] }) tt (record { pack = refl; progress = refl }) refl)))

  ready : (line : Line) → Follows asked reply (behind_ready asked reply line) (behind_ready (up_to_pack asked) reply line)
  ready (Payload payload) = tt
  ready Flush = tt
  ready Delim = on parts.Rest (record reply { acknowledged = each_once reply.acknowledged }) tt (record { pack = refl; progress = refl }) refl
  ready End = tt

  change : (a b : Option ObjectId) → Follows asked reply (at_change asked reply a b) (at_change (up_to_pack asked) reply a b)
  change (Some id) b = on parts.ShallowInfo (record reply { shallow = reply.shallow ++ id ∷ [] }) tt (record { pack = refl; progress = refl }) refl
  change None (Some id) = on parts.ShallowInfo (record reply { unshallow = reply.unshallow ++ id ∷ [] }) tt (record { pack = refl; progress = refl }) refl
  change None None = tt

  more_comes : Follows asked reply (ends (told.Reply (record reply { acknowledged = each_once reply.acknowledged; last = false }))) (ends (told.Reply (record reply { acknowledged = each_once reply.acknowledged; last = false })))
  more_comes = record { whole = record reply { acknowledged = each_once reply.acknowledged; last = false }; keeps = record { pack = refl; progress = refl }; is = refl; same = refl }

  step_follows : (part : Part) (line : Line) → IsEarly part → Follows asked reply (step_of (reading.Reply asked part reply) line) (step_of (reading.Reply (up_to_pack asked) part reply) line)
  unfolding step_of
  step_follows parts.Beginning line early = line_by breaks breaks breaks breaks _ _ line tt tt beginning
  step_follows parts.Acknowledgments line early = line_by _ breaks _ breaks _ _ line more_comes tt acknowledgment
  step_follows parts.Ready line early = ready line
  step_follows parts.Rest line early = line_by breaks breaks breaks breaks _ _ line tt tt rest
  step_follows parts.ShallowInfo line early = line_by breaks _ breaks _ _ _ line tt (on parts.Packfile reply tt same_reply refl) (λ text. change (shallow_in asked.kind text) (unshallow_in asked.kind text))
  step_follows parts.Packfile line early = line_by breaks breaks breaks breaks _ _ line tt tt packfile
  step_follows parts.Bands line early = absurd early

-- ---- the bands

-- A band changes the pack and its progress alone.
abbrev AddsBand : ReplyContext → FetchReply → Step ReplyParser ParsedReply → Type 0
AddsBand asked reply (goes t) = (now : FetchReply) × (t ≡ reading.Reply asked parts.Bands now) × (unread now ≡ unread reply)
AddsBand asked reply (ends x) = x ≡ told.Reply reply
AddsBand asked reply breaks = ⊤
AddsBand asked reply (says text) = ⊤

adds_either : (asked : ReplyContext) (reply : FetchReply) (b : Bool) (x y : Step ReplyParser ParsedReply) → AddsBand asked reply x → AddsBand asked reply y → AddsBand asked reply (if b then x else y)
adds_either asked reply true x y h k = h
adds_either asked reply false x y h k = k

band_adds : (asked : ReplyContext) (reply : FetchReply) (line : Line) → AddsBand asked reply (step_of (reading.Reply asked parts.Bands reply) line)
unfolding step_of
band_adds asked reply (Payload []) = tt
band_adds asked reply (Payload (band ∷ bytes)) =
    adds_either asked reply (band == 1) _ _ (record reply { pack = with_bytes reply.pack bytes }, refl, refl)
    (adds_either asked reply (band == 2) _ _ (record reply { progress = reply.progress ++ bytes ∷ [] }, refl, refl) (adds_either asked reply (band == 3) _ _ tt tt))
band_adds asked reply Flush = refl
band_adds asked reply Delim = tt
band_adds asked reply End = tt

abbrev read_ok : ParsedReply → List ℕ → Result (ParsedReply × List ℕ) ReplyError
read_ok x left = Ok (x, left)

pair_first : (x y : ParsedReply) (a b : List ℕ) → read_ok x a ≡ read_ok y b → x ≡ y
pair_first x y a b is = let p : (x, a) ≡ (y, b) = cc in ap (λ (z : ParsedReply × List ℕ). z.0) p

pair_second : (x y : ParsedReply) (a b : List ℕ) → read_ok x a ≡ read_ok y b → a ≡ b
pair_second x y a b is = let p : (x, a) ≡ (y, b) = cc in ap (λ (z : ParsedReply × List ℕ). z.1) p

one_reply : (a b : FetchReply) → told.Reply a ≡ told.Reply b → a ≡ b
one_reply a b is = cc

bands_keep : (n bound : ℕ) (asked : ReplyContext) (reply whole : FetchReply) (place : ℕ) (bytes rest : List ℕ) → read_within n step_of bound (reading.Reply asked parts.Bands reply) place bytes ≡ Ok (told.Reply whole, rest) → unread whole ≡ unread reply
unfolding read_within
bands_keep zero bound asked reply whole place bytes rest is = absurd cc
bands_keep (suc n) bound asked reply whole place bytes rest is = by_found (line_at bound place bytes) (λ now p b. bands_keep n bound asked now whole p b rest) is
  where
    by_step : (line : Line) (behind : List ℕ) (x : Step ReplyParser ParsedReply) → AddsBand asked reply x
        → ((now : FetchReply) (p : ℕ) (b : List ℕ) → read_within n step_of bound (reading.Reply asked parts.Bands now) p b ≡ Ok (told.Reply whole, rest) → unread whole ≡ unread now)
        → after_step place behind (λ t. read_within n step_of bound t (place + line_len line) behind) x ≡ Ok (told.Reply whole, rest) → unread whole ≡ unread reply
    by_step line behind (goes t) h again is =
        again h.0 (place + line_len line) behind (subst (λ (r : ReplyParser). read_within n step_of bound r (place + line_len line) behind ≡ Ok (told.Reply whole, rest)) h.1 is) ∙ h.2
    by_step line behind (ends x) h again is = ap unread (sym (one_reply reply whole (sym h ∙ pair_first x (told.Reply whole) behind rest is)))
    by_step line behind breaks h again is = absurd cc
    by_step line behind (says text) h again is = absurd cc

    by_found : (found : Result (Line × List ℕ) LineError) → ((now : FetchReply) (p : ℕ) (b : List ℕ) → read_within n step_of bound (reading.Reply asked parts.Bands now) p b ≡ Ok (told.Reply whole, rest) → unread whole ≡ unread now)
        → after_line found (λ line behind. after_step place behind (λ t. read_within n step_of bound t (place + line_len line) behind) (step_of (reading.Reply asked parts.Bands reply) line)) ≡ Ok (told.Reply whole, rest) → unread whole ≡ unread reply
    by_found (Err trouble) again is = absurd cc
    by_found (Ok x) again is = by_step x.0 x.1 (step_of (reading.Reply asked parts.Bands reply) x.0) (band_adds asked reply x.0) again is

-- ---- the whole reply

-- what is told up to the pack, and what is left: all that the whole reply leaves, where it isn't the last
record UpTo (found : Result (ParsedReply × List ℕ) ReplyError) (reply whole : FetchReply) (rest : List ℕ) : Type 0 where
  left : List ℕ
  same : found ≡ Ok (told.Reply (with_these reply.pack reply.progress whole), left)
  kept : whole.last ≡ false → left ≡ rest

with_own : (reply now : FetchReply) → Keeps reply now → now ≡ with_these reply.pack reply.progress now
with_own reply now h = ap (λ (p : Option (List ℕ)). with_these p now.progress now) h.pack ∙ ap (λ (q : List (List ℕ)). with_these reply.pack q now) h.progress

as_before : (reply now whole : FetchReply) → Keeps reply now → with_these now.pack now.progress whole ≡ with_these reply.pack reply.progress whole
as_before reply now whole h = ap (λ (p : Option (List ℕ)). with_these p now.progress whole) h.pack ∙ ap (λ (q : List (List ℕ)). with_these reply.pack q whole) h.progress

up_to : (n bound : ℕ) (asked : ReplyContext) (part : Part) (reply whole : FetchReply) (place : ℕ) (bytes rest : List ℕ) → IsEarly part → reply.last ≡ true
    → read_within n step_of bound (reading.Reply asked part reply) place bytes ≡ Ok (told.Reply whole, rest) → UpTo (read_within n step_of bound (reading.Reply (up_to_pack asked) part reply) place bytes) reply whole rest
unfolding read_within
up_to zero bound asked part reply whole place bytes rest early last is = absurd cc
up_to (suc n) bound asked part reply whole place bytes rest early last is = by_found (line_at bound place bytes) (λ next now p b before marked read. up_to n bound asked next now whole p b rest before marked read) is
  where
    by_step : (line : Line) (behind : List ℕ) (x other : Step ReplyParser ParsedReply) → Follows asked reply x other
        → ((next : Part) (now : FetchReply) (p : ℕ) (b : List ℕ) → IsEarly next → now.last ≡ true → read_within n step_of bound (reading.Reply asked next now) p b ≡ Ok (told.Reply whole, rest)
        → UpTo (read_within n step_of bound (reading.Reply (up_to_pack asked) next now) p b) now whole rest)
        → after_step place behind (λ t. read_within n step_of bound t (place + line_len line) behind) x ≡ Ok (told.Reply whole, rest)
        → UpTo (after_step place behind (λ t. read_within n step_of bound t (place + line_len line) behind) other) reply whole rest
    by_step line behind (goes t) other (inl g) again is =
        let h = again g.part g.now (place + line_len line) behind g.early (g.last ∙ last) (subst (λ (r : ReplyParser). read_within n step_of bound r (place + line_len line) behind ≡ Ok (told.Reply whole, rest)) g.is is) in
        rw g.same (record { left = h.left; same = h.same ∙ ap (λ (r : FetchReply). Ok (told.Reply r, h.left)) (as_before reply g.now whole g.keeps); kept = h.kept })
    by_step line behind (goes t) other (inr p) again is =
        let begun : FetchReply = record reply { pack = Some [] } in
        let k : unread whole ≡ unread begun = bands_keep n bound asked begun whole (place + line_len line) behind rest (subst (λ (r : ReplyParser). read_within n step_of bound r (place + line_len line) behind ≡ Ok (told.Reply whole, rest)) p.is is) in
        let marked : whole.last ≡ true = ap (λ (r : FetchReply). r.last) k ∙ last in
        let same : with_these reply.pack reply.progress whole ≡ reply = ap (with_these reply.pack reply.progress) k in
        rw p.same (record { left = behind; same = ap (λ (r : FetchReply). Ok (told.Reply r, behind)) (sym same); kept = λ no. absurd (let e : true ≡ false = sym marked ∙ no in cc) })
    by_step line behind (ends x) other h again is =
        let w : h.whole ≡ whole = one_reply h.whole whole (sym h.is ∙ pair_first x (told.Reply whole) behind rest is) in
        rw h.same (record {
          left = behind;
          same = ap (λ (r : FetchReply). Ok (told.Reply r, behind)) (with_own reply h.whole h.keeps ∙ ap (with_these reply.pack reply.progress) w);
          kept = λ _. pair_second x (told.Reply whole) behind rest is;
        })
    by_step line behind breaks other h again is = absurd cc
    by_step line behind (says text) other h again is = absurd cc

    by_found : (found : Result (Line × List ℕ) LineError)
        → ((next : Part) (now : FetchReply) (p : ℕ) (b : List ℕ) → IsEarly next → now.last ≡ true → read_within n step_of bound (reading.Reply asked next now) p b ≡ Ok (told.Reply whole, rest)
        → UpTo (read_within n step_of bound (reading.Reply (up_to_pack asked) next now) p b) now whole rest)
        → after_line found (λ line behind. after_step place behind (λ t. read_within n step_of bound t (place + line_len line) behind) (step_of (reading.Reply asked part reply) line)) ≡ Ok (told.Reply whole, rest)
        → UpTo (after_line found (λ line behind. after_step place behind (λ t. read_within n step_of bound t (place + line_len line) behind) (step_of (reading.Reply (up_to_pack asked) part reply) line))) reply whole rest
    by_found (Err trouble) again is = absurd cc
    by_found (Ok x) again is = by_step x.0 x.1 (step_of (reading.Reply asked part reply) x.0) (step_of (reading.Reply (up_to_pack asked) part reply) x.0) (step_follows asked reply part x.0 early) again is

pub record ReadUpTo (bound : ℕ) (asked : ReplyContext) (bytes rest : List ℕ) (whole : FetchReply) : Type 0 where
  pub left : List ℕ
  pub same : told_at bound (awaits.Reply (up_to_pack asked)) bytes ≡ Ok (told.Reply (unread whole), left)
  pub kept : whole.last ≡ false → left ≡ rest

-- Where the whole reply is read, so is it up to its pack.
pub reads_up_to : (bound : ℕ) (asked : ReplyContext) (bytes rest : List ℕ) (whole : FetchReply) → told_at bound (awaits.Reply asked) bytes ≡ Ok (told.Reply whole, rest) → ReadUpTo bound asked bytes rest whole
reads_up_to bound asked bytes rest whole is =
    let h = up_to (suc (length bytes)) bound asked parts.Beginning no_reply whole 0 bytes rest tt refl is in
    record { left = h.left; same = h.same; kept = h.kept }
