-- Lines that were read as a pack, and its bands.
use Rattle.std.proofs.Common.{◌≡◌, ℕ, Bool, true, false, List, [], ◌∷◌, ◌++◌, map, Some, None, refl, sym, ap, ap₂, ◌∙◌, subst, append_assoc, codes, bytes_eq, ◌==◌}
use Rattle.std.specs.List.{concat}
use Rattle.std.proofs.lemmas.Bool.{eqb-true}
use Rattle.std.proofs.lemmas.List.{append-nil}
use Rattle.std.proofs.lemmas.Slice.Eq.{bytes_eq-Decides}
use Rattle.fetch_base.specs.declared.id.ObjectId.{ObjectId}
use Rattle.fetch_replies.specs.declared.replies.reply.ReplyContext.{ReplyContext}
use Rattle.fetch_replies.specs.declared.replies.reply.ParsedReply.{ParsedReply}
use Rattle.fetch_replies.specs.declared.replies.reply.ParsedReply.TheVariants as tolds
use Rattle.fetch_lines.specs.declared.lines.line.Line.{Line}
use Rattle.fetch_lines.specs.declared.lines.line.Line.TheVariants.{Payload, Flush, Delim, End}
use Rattle.fetch_replies.specs.declared.replies.parser.Part.TheVariants as parts
use Rattle.fetch_replies.specs.declared.replies.parser.ReplyParser.{ReplyParser}
use Rattle.fetch_replies.specs.declared.replies.parser.ReplyParser.TheVariants as reading
use Rattle.fetch_lines.specs.declared.requests.records.FetchReply.{FetchReply}
use Rattle.fetch_replies.specs.Awaited.{step_of}
use Rattle.fetch_lines.specs.Bands.{Band, Piece, Progress, band_line, pieces_of, texts_of}
use Rattle.fetch_replies.specs.BandsTold.{behind}
use Rattle.fetch_replies.specs.FetchReplies.{is_packfile, at_packfile, with_bytes}
use Rattle.fetch_replies.specs.LinesTold.{Tells}
use Rattle.fetch_wire.specs.Spellings.{IsText, AreBands, IsPack, pack_in}
use Rattle.fetch_replies.specs.Stepping.{goes, ends, breaks, says}
use Rattle.fetch_wire.proofs.Spelled.{if_step, text_goes, text_ends}

pub exactly : (a b : List ℕ) → bytes_eq a b ≡ true → a ≡ b
exactly a b is = (bytes_eq-Decides a b).0 is

-- ---- bands

-- bands after what was read of the pack
record Banded (asked : ReplyContext) (reply : FetchReply) (pack : List ℕ) (progress : List (List ℕ)) (lines : List Line) (x : ParsedReply) : Type 0 where
  bands : List Band
  is : lines ≡ map band_line bands ++ Flush ∷ []
  told : x ≡ tolds.Reply (behind reply (pack ++ concat (pieces_of bands)) (progress ++ texts_of bands))

band_ends : (asked : ReplyContext) (reply : FetchReply) (pack : List ℕ) (progress : List (List ℕ)) (line : Line) (x : ParsedReply) → step_of (reading.Reply asked parts.Bands (behind reply pack progress)) line ≡ ends x → Banded asked reply pack progress (line ∷ []) x
unfolding step_of
band_ends asked reply pack progress (Payload []) x is = absurd cc
band_ends asked reply pack progress (Payload (band ∷ bytes)) x is = by_one (band == 1) (band == 2) (band == 3) is
  where
    by_one : (a b c : Bool)
        → if_step a (goes (reading.Reply asked parts.Bands (record (behind reply pack progress) { pack = with_bytes (Some pack) bytes })))
        (if_step b (goes (reading.Reply asked parts.Bands (record (behind reply pack progress) { progress = progress ++ bytes ∷ [] }))) (if_step c (says bytes) breaks)) ≡ ends x → Banded asked reply pack progress (Payload (band ∷ bytes) ∷ []) x
    by_one true b c h = absurd cc
    by_one false true c h = absurd cc
    by_one false false true h = absurd cc
    by_one false false false h = absurd cc
band_ends asked reply pack progress Flush x is = record { bands = []; is = refl; told = (let e : tolds.Reply (behind reply pack progress) ≡ x = cc in sym e) ∙ ap₂ (λ (p : List ℕ) (q : List (List ℕ)). tolds.Reply (behind reply p q)) (sym (append-nil pack)) (sym (append-nil progress)) }
band_ends asked reply pack progress Delim x is = absurd cc
band_ends asked reply pack progress End x is = absurd cc

-- the band that a line was
record OneBand (asked : ReplyContext) (reply : FetchReply) (pack : List ℕ) (progress : List (List ℕ)) (line : Line) (t : ReplyParser) : Type 0 where
  band : Band
  is : line ≡ band_line band
  goes_on : t ≡ reading.Reply asked parts.Bands (behind reply (pack ++ concat (pieces_of (band ∷ []))) (progress ++ texts_of (band ∷ [])))

band_goes : (asked : ReplyContext) (reply : FetchReply) (pack : List ℕ) (progress : List (List ℕ)) (line : Line) (t : ReplyParser) → step_of (reading.Reply asked parts.Bands (behind reply pack progress)) line ≡ goes t → OneBand asked reply pack progress line t
unfolding step_of
band_goes asked reply pack progress (Payload []) t is = absurd cc
band_goes asked reply pack progress (Payload (band ∷ bytes)) t is = by_one (band == 1) (band == 2) (band == 3) refl refl is
  where
    by_one : (a b c : Bool) → (band == 1) ≡ a → (band == 2) ≡ b
        → if_step a (goes (reading.Reply asked parts.Bands (record (behind reply pack progress) { pack = with_bytes (Some pack) bytes })))
        (if_step b (goes (reading.Reply asked parts.Bands (record (behind reply pack progress) { progress = progress ++ bytes ∷ [] }))) (if_step c (says bytes) breaks)) ≡ goes t → OneBand asked reply pack progress (Payload (band ∷ bytes)) t
    by_one true b c e f h = record {
      band = Piece bytes;
      is = ap (λ (n : ℕ). Payload (n ∷ bytes)) (eqb-true _ _ e);
      goes_on = (let s : reading.Reply asked parts.Bands (behind reply (pack ++ bytes) progress) ≡ t = cc in sym s)
          ∙ ap₂ (λ (p : List ℕ) (q : List (List ℕ)). reading.Reply asked parts.Bands (behind reply (pack ++ p) q)) (sym (append-nil bytes)) (sym (append-nil progress));
    }
    by_one false true c e f h = record {
      band = Progress bytes;
      is = ap (λ (n : ℕ). Payload (n ∷ bytes)) (eqb-true _ _ f);
      goes_on = (let s : reading.Reply asked parts.Bands (behind reply pack (progress ++ bytes ∷ [])) ≡ t = cc in sym s)
          ∙ ap (λ (p : List ℕ). reading.Reply asked parts.Bands (behind reply p (progress ++ bytes ∷ []))) (sym (append-nil pack));
    }
    by_one false false true e f h = absurd cc
    by_one false false false e f h = absurd cc
band_goes asked reply pack progress Flush t is = absurd cc
band_goes asked reply pack progress Delim t is = absurd cc
band_goes asked reply pack progress End t is = absurd cc

pieces_more : (band : Band) (bands : List Band) → concat (pieces_of (band ∷ [])) ++ concat (pieces_of bands) ≡ concat (pieces_of (band ∷ bands))
pieces_more (Piece bytes) bands = append_assoc bytes [] (concat (pieces_of bands))
pieces_more (Progress text) bands = refl

texts_more : (band : Band) (bands : List Band) → texts_of (band ∷ []) ++ texts_of bands ≡ texts_of (band ∷ bands)
texts_more (Piece bytes) bands = refl
texts_more (Progress text) bands = refl

banded : (asked : ReplyContext) (reply : FetchReply) (pack : List ℕ) (progress : List (List ℕ)) (lines : List Line) (x : ParsedReply) → Tells step_of (reading.Reply asked parts.Bands (behind reply pack progress)) lines x → Banded asked reply pack progress lines x
banded asked reply pack progress [] x h = absurd h
banded asked reply pack progress (line ∷ []) x h = band_ends asked reply pack progress line x h
banded asked reply pack progress (line ∷ next ∷ lines) x (t, goes_on, h) =
    let one = band_goes asked reply pack progress line t goes_on in
    let p = pack ++ concat (pieces_of (one.band ∷ [])) in
    let q = progress ++ texts_of (one.band ∷ []) in
    let more = banded asked reply p q (next ∷ lines) x (subst (λ (r : ReplyParser). Tells step_of r (next ∷ lines) x) one.goes_on h) in
    record {
      bands = one.band ∷ more.bands;
      is = ap₂ (λ (l : Line) (ls : List Line). l ∷ ls) one.is more.is;
      told = more.told ∙ ap₂ (λ (a : List ℕ) (b : List (List ℕ)). tolds.Reply (behind reply a b))
          (append_assoc pack (concat (pieces_of (one.band ∷ []))) (concat (pieces_of more.bands)) ∙ ap (λ (a : List ℕ). pack ++ a) (pieces_more one.band more.bands))
          (append_assoc progress (texts_of (one.band ∷ [])) (texts_of more.bands) ∙ ap (λ (b : List (List ℕ)). progress ++ b) (texts_more one.band more.bands));
    }

-- ---- the pack

-- a reply to which nothing of a pack was added yet
abbrev pub bare : List ObjectId → List ObjectId → List ObjectId → FetchReply
bare ids shallow unshallow = record { acknowledged = ids; shallow = shallow; unshallow = unshallow; pack = None; progress = []; last = true }

-- the reply with these bands
abbrev pub packing : Bool → FetchReply → List Band → FetchReply
packing reads reply bands = record reply { pack = pack_in reads bands; progress = texts_of bands }

pub record Packed (asked : ReplyContext) (ids shallow unshallow : List ObjectId) (lines : List Line) (x : ParsedReply) : Type 0 where
  pub bands : List Band
  pub is : IsPack asked bands lines
  pub told : x ≡ tolds.Reply (packing asked.read_pack (bare ids shallow unshallow) bands)

-- the step that `packfile` makes
record PackGoes (asked : ReplyContext) (reply : FetchReply) (said : List ℕ) (t : ReplyParser) : Type 0 where
  text : said ≡ codes "packfile"
  reads : asked.read_pack ≡ true
  goes_on : reading.Reply asked parts.Bands (record reply { pack = Some [] }) ≡ t

pack_goes : (asked : ReplyContext) (reply : FetchReply) (said : List ℕ) (t : ReplyParser) → at_packfile asked reply said ≡ goes t → PackGoes asked reply said t
unfolding is_packfile
pack_goes asked reply said t is = by_word (is_packfile said) asked.read_pack refl refl is
  where
    by_word : (a b : Bool) → is_packfile said ≡ a → asked.read_pack ≡ b
        → if_step a (if_step b (goes (reading.Reply asked parts.Bands (record reply { pack = Some [] }))) (ends (tolds.Reply reply))) breaks ≡ goes t → PackGoes asked reply said t
    by_word true true e f h = record { text = exactly said (codes "packfile") e; reads = f; goes_on = cc }
    by_word true false e f h = absurd cc
    by_word false b e f h = absurd cc

record PackEnds (asked : ReplyContext) (reply : FetchReply) (said : List ℕ) (x : ParsedReply) : Type 0 where
  text : said ≡ codes "packfile"
  unread : asked.read_pack ≡ false
  told : tolds.Reply reply ≡ x

pack_ends : (asked : ReplyContext) (reply : FetchReply) (said : List ℕ) (x : ParsedReply) → at_packfile asked reply said ≡ ends x → PackEnds asked reply said x
unfolding is_packfile
pack_ends asked reply said x is = by_word (is_packfile said) asked.read_pack refl refl is
  where
    by_word : (a b : Bool) → is_packfile said ≡ a → asked.read_pack ≡ b
        → if_step a (if_step b (goes (reading.Reply asked parts.Bands (record reply { pack = Some [] }))) (ends (tolds.Reply reply))) breaks ≡ ends x → PackEnds asked reply said x
    by_word true true e f h = absurd cc
    by_word true false e f h = record { text = exactly said (codes "packfile") e; unread = f; told = cc }
    by_word false b e f h = absurd cc

pub pack_ended : (asked : ReplyContext) (ids shallow unshallow : List ObjectId) (said : List ℕ) (line : Line) (x : ParsedReply) → IsText said line → at_packfile asked (bare ids shallow unshallow) said ≡ ends x → Packed asked ids shallow unshallow (line ∷ []) x
pack_ended asked ids shallow unshallow said line x is h =
    let e = pack_ends asked (bare ids shallow unshallow) said x h in
    record {
      bands = [];
      is = (subst (λ (t : List ℕ). IsText t line) e.text is, subst (λ (b : Bool). AreBands b [] []) (sym e.unread) (refl, refl));
      told = sym e.told ∙ ap (λ (b : Bool). tolds.Reply (packing b (bare ids shallow unshallow) [])) (sym e.unread);
    }

pub pack_went : (asked : ReplyContext) (ids shallow unshallow : List ObjectId) (said : List ℕ) (line next : Line) (lines : List Line) (t : ReplyParser) (x : ParsedReply) → IsText said line → at_packfile asked (bare ids shallow unshallow) said ≡ goes t
    → Tells step_of t (next ∷ lines) x → Packed asked ids shallow unshallow (line ∷ next ∷ lines) x
pack_went asked ids shallow unshallow said line next lines t x is h tells =
    let reply = bare ids shallow unshallow in
    let g = pack_goes asked reply said t h in
    let more = banded asked reply [] [] (next ∷ lines) x (subst (λ (r : ReplyParser). Tells step_of r (next ∷ lines) x) (sym g.goes_on) tells) in
    record {
      bands = more.bands;
      is = (subst (λ (s : List ℕ). IsText s line) g.text is, subst (λ (b : Bool). AreBands b more.bands (next ∷ lines)) (sym g.reads) more.is);
      told = more.told ∙ ap (λ (b : Bool). tolds.Reply (packing b reply more.bands)) (sym g.reads);
    }

pub packed : (asked : ReplyContext) (ids shallow unshallow : List ObjectId) (lines : List Line) (x : ParsedReply) → Tells step_of (reading.Reply asked parts.Packfile (bare ids shallow unshallow)) lines x → Packed asked ids shallow unshallow lines x
unfolding step_of
packed asked ids shallow unshallow [] x h = absurd h
packed asked ids shallow unshallow (line ∷ []) x h =
    let e = text_ends (at_packfile asked (bare ids shallow unshallow)) line x h in pack_ended asked ids shallow unshallow e.0 line x e.1 e.2
packed asked ids shallow unshallow (line ∷ next ∷ lines) x (t, goes_on, h) =
    let g = text_goes breaks breaks (at_packfile asked (bare ids shallow unshallow)) line t (λ e. cc) (λ e. cc) goes_on in pack_went asked ids shallow unshallow g.0 line next lines t x g.1 g.2 h
