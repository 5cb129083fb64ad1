-- What a server reads of the one fetch request of a mirror.
use Rattle.std.proofs.Common.{◌≡◌, ℕ, ◌-◌, true, false, List, [], ◌∷◌, ◌++◌, length, refl, sym, ap, subst, ◌∙◌, append_assoc}
use Rattle.std.specs.Prelude.{slice_get}
use Rattle.std.proofs.lemmas.List.{append-nil}
use Rattle.hex.specs.Hex.{encode_lower}
use Rattle.fetch_base.specs.Id.{bytes_of}
use Rattle.fetch_store.specs.Borders.{ids_of}
use Rattle.fetch_base.specs.declared.id.Kind.{Kind}
use Rattle.fetch_base.specs.declared.id.Kind.TheVariants.{Sha1, Sha256}
use Rattle.fetch_base.specs.declared.id.ObjectId.{ObjectId}
use Rattle.fetch_specs.specs.declared.tags.Tags.{Tags}
use Rattle.fetch_specs.specs.declared.tags.Tags.TheVariants as tags
use Rattle.fetch_pack.specs.declared.version.PackVersion.TheVariants.{V2}
use Rattle.fetch_lines.specs.Greetings.{format_in, is_format}
use Rattle.fetch_replies.specs.LinesTold.{Tells}
use Rattle.fetch_lines.specs.RequestLines.{id_lines}
use Rattle.fetch_lines.specs.RequestWords.{agent_word, command_word, done_word, format_is, format_word, have_word, include_tag, plain_pack, plain_pack_2, shallow_word, want_word}
use Rattle.fetch_lines.specs.Requests.{kind_text, listing_word, sent, text_line, when}
use Rattle.fetch_lines.specs.ServerLines.{IsIdOf}
use Rattle.fetch_replies.specs.Stepping.{goes}
use Rattle.fetch_lines.specs.Texts.{without_lf}
use Rattle.fetch_lines.specs.declared.greetings.handshake.Handshake.{Handshake}
use Rattle.fetch_lines.specs.declared.lines.line.Line.{Line}
use Rattle.fetch_lines.specs.declared.lines.line.Line.TheVariants.{Delim, Flush}
use Rattle.fetch_replies.proofs.IdTexts.{id_read}
use Rattle.fetch_replies.proofs.Moving.{Moves, first_tells, lf_last, moves_tell}
use Rattle.fetch_negotiate.specs.Requests.{Asked as Request, depth_lines, fetch_request, head_of, is_included, pack_word}
use Rattle.fetch_negotiate.specs.declared.algorithm.Shallow.{Shallow}
use Rattle.fetch_negotiate.specs.declared.algorithm.Shallow.TheVariants.{NoChange}
use Rattle.fetch_asked.specs.declared.asked.Asked.TheVariants.{Fetch}
use Rattle.fetch_asked.specs.declared.asked.FetchAsked.{FetchAsked}
use Rattle.fetch_asked.specs.declared.reading.FetchHead.TheVariants as head
use Rattle.fetch_asked.specs.declared.reading.FetchPart.{FetchPart}
use Rattle.fetch_asked.specs.declared.reading.FetchPart.TheVariants as parts
use Rattle.fetch_asked.specs.declared.reading.Reading.{Reading}
use Rattle.fetch_asked.specs.declared.reading.Reading.TheVariants as reading
use Rattle.fetch_serve.specs.Offered.{capabilities_of}
use Rattle.fetch_asked.specs.Requests.{IsRequest, asked_step, at_detail, detail_in, format_text, has_id, is_greater, nothing_asked}
use Rattle.fetch_mirror.specs.Fetches.{AreAbove, AreNew, IsWanting, wanting_behind}
use Rattle.fetch_mirror.specs.Listings.{greeting_of}

-- the line of a want
abbrev want_text : ObjectId → List ℕ
want_text id = want_word ++ encode_lower (bytes_of id)

-- the line of an id of the border
abbrev border_text : ObjectId → List ℕ
border_text id = shallow_word ++ encode_lower (bytes_of id)

-- so far this border is told, and these are wanted
abbrev asking_for : List ObjectId → List ObjectId → FetchAsked
asking_for border wants = record (nothing_asked V2) { border = border; wants = wants }

-- ---- the border

-- its first id
border_first : (hash : Kind) (id : ObjectId) → IsIdOf hash id → asked_step hash (reading.Details parts.Beginning (nothing_asked V2)) (text_line (border_text id)) ≡ goes (reading.Details parts.Border (asking_for (id ∷ []) []))
unfolding asked_step detail_in want_word shallow_word include_tag done_word
border_first hash id is = ap (at_detail hash parts.Beginning (nothing_asked V2)) (lf_last (border_text id)) ∙ rw (id_read hash id is) refl

-- one more
border_next : (hash : Kind) (before : List ObjectId) (id : ObjectId) → IsIdOf hash id → is_greater (slice_get before (length before - 1)) id ≡ true
    → asked_step hash (reading.Details parts.Border (asking_for before [])) (text_line (border_text id)) ≡ goes (reading.Details parts.Border (asking_for (before ++ id ∷ []) []))
unfolding asked_step detail_in want_word shallow_word include_tag done_word
border_next hash before id is greater = ap (at_detail hash parts.Border (asking_for before [])) (lf_last (border_text id)) ∙ rw (id_read hash id is, greater) refl

border_on : (hash : Kind) (before border : List ObjectId) → AreAbove hash before border
    → Moves (asked_step hash) (reading.Details parts.Border (asking_for before [])) (sent (id_lines shallow_word border)) (reading.Details parts.Border (asking_for (before ++ border) []))
border_on hash before [] above = ap (λ (l : List ObjectId). reading.Details parts.Border (asking_for l [])) (sym (append-nil before))
border_on hash before (id ∷ border) above = (
  reading.Details parts.Border (asking_for (before ++ id ∷ []) []),
  border_next hash before id above.0 above.1,
  subst (λ (l : List ObjectId). Moves (asked_step hash) (reading.Details parts.Border (asking_for (before ++ id ∷ []) [])) (sent (id_lines shallow_word border)) (reading.Details parts.Border (asking_for l []))) (append_assoc before (id ∷ []) border)
      (border_on hash (before ++ id ∷ []) border above.2),
)

-- ---- the wants

-- the first want, where no border is told
want_first : (hash : Kind) (id : ObjectId) → IsIdOf hash id → asked_step hash (reading.Details parts.Beginning (asking_for [] [])) (text_line (want_text id)) ≡ goes (reading.Details parts.Wants (asking_for [] (id ∷ [])))
unfolding asked_step detail_in want_word shallow_word include_tag done_word
want_first hash id is = ap (at_detail hash parts.Beginning (asking_for [] [])) (lf_last (want_text id)) ∙ rw (id_read hash id is) refl

-- and where one is
want_behind : (hash : Kind) (border : List ObjectId) (id : ObjectId) → IsIdOf hash id → asked_step hash (reading.Details parts.Border (asking_for border [])) (text_line (want_text id)) ≡ goes (reading.Details parts.Wants (asking_for border (id ∷ [])))
unfolding asked_step detail_in want_word shallow_word include_tag done_word
want_behind hash border id is = ap (at_detail hash parts.Border (asking_for border [])) (lf_last (want_text id)) ∙ rw (id_read hash id is) refl

-- one more
want_next : (hash : Kind) (border before : List ObjectId) (id : ObjectId) → IsIdOf hash id → has_id id before ≡ false
    → asked_step hash (reading.Details parts.Wants (asking_for border before)) (text_line (want_text id)) ≡ goes (reading.Details parts.Wants (asking_for border (before ++ id ∷ [])))
unfolding asked_step detail_in want_word shallow_word include_tag done_word
want_next hash border before id is fresh = ap (at_detail hash parts.Wants (asking_for border before)) (lf_last (want_text id)) ∙ rw (id_read hash id is, fresh) refl

wants_on : (hash : Kind) (border before wants : List ObjectId) → AreNew hash before wants
    → Moves (asked_step hash) (reading.Details parts.Wants (asking_for border before)) (sent (id_lines want_word wants)) (reading.Details parts.Wants (asking_for border (before ++ wants)))
wants_on hash border before [] new = ap (λ (l : List ObjectId). reading.Details parts.Wants (asking_for border l)) (sym (append-nil before))
wants_on hash border before (id ∷ wants) new = (
  reading.Details parts.Wants (asking_for border (before ++ id ∷ [])),
  want_next hash border before id new.0 new.1,
  subst (λ (l : List ObjectId). Moves (asked_step hash) (reading.Details parts.Wants (asking_for border (before ++ id ∷ []))) (sent (id_lines want_word wants)) (reading.Details parts.Wants (asking_for border l))) (append_assoc before (id ∷ []) wants)
      (wants_on hash border (before ++ id ∷ []) wants new.2),
)

done_on : (hash : Kind) (border wants : List ObjectId) → asked_step hash (reading.Details parts.Wants (asking_for border wants)) (text_line done_word) ≡ goes (reading.Details parts.Done (wanting_behind border wants))
unfolding asked_step detail_in done_word include_tag
done_on hash border wants = ap (at_detail hash parts.Wants (asking_for border wants)) (lf_last done_word)

-- `done`, and the flush
ends_so : (hash : Kind) (border wants : List ObjectId) → Tells (asked_step hash) (reading.Details parts.Wants (asking_for border wants)) (text_line done_word ∷ Flush ∷ []) (Fetch (wanting_behind border wants))
unfolding asked_step
ends_so hash border wants = (reading.Details parts.Done (wanting_behind border wants), done_on hash border wants, refl)

-- the lines of the wants, of which there are some, and what ends the request
abbrev pub wants_lines : ObjectId → List ObjectId → List Line
wants_lines id wants = text_line (want_text id) ∷ (sent (id_lines want_word wants) ++ (text_line done_word ∷ Flush ∷ []))

wants_read : (hash : Kind) (part : FetchPart) (border : List ObjectId) (id : ObjectId) (wants : List ObjectId) → AreNew hash [] (id ∷ wants)
    → asked_step hash (reading.Details part (asking_for border [])) (text_line (want_text id)) ≡ goes (reading.Details parts.Wants (asking_for border (id ∷ [])))
    → Tells (asked_step hash) (reading.Details part (asking_for border [])) (wants_lines id wants) (Fetch (wanting_behind border (id ∷ wants)))
wants_read hash part border id wants new first =
    first_tells (asked_step hash) (reading.Details part (asking_for border [])) (reading.Details parts.Wants (asking_for border (id ∷ []))) (text_line (want_text id)) (sent (id_lines want_word wants) ++ (text_line done_word ∷ Flush ∷ []))
    (Fetch (wanting_behind border (id ∷ wants))) first
    (moves_tell (asked_step hash) (reading.Details parts.Wants (asking_for border (id ∷ []))) (reading.Details parts.Wants (asking_for border (id ∷ wants))) (sent (id_lines want_word wants)) (text_line done_word ∷ Flush ∷ [])
    (Fetch (wanting_behind border (id ∷ wants))) (wants_on hash border (id ∷ []) wants new.2) (ends_so hash border (id ∷ wants)))

-- the lines behind the word for a pack
abbrev pub details_lines : List ObjectId → ObjectId → List ObjectId → List Line
details_lines border id wants = sent (id_lines shallow_word border) ++ wants_lines id wants

details_read : (hash : Kind) (border : List ObjectId) (id : ObjectId) (wants : List ObjectId) → AreAbove hash [] border → AreNew hash [] (id ∷ wants)
    → Tells (asked_step hash) (reading.Details parts.Beginning (nothing_asked V2)) (details_lines border id wants) (Fetch (wanting_behind border (id ∷ wants)))
details_read hash [] id wants above new = wants_read hash parts.Beginning [] id wants new (want_first hash id new.0)
details_read hash (first ∷ border) id wants above new =
    first_tells (asked_step hash) (reading.Details parts.Beginning (nothing_asked V2)) (reading.Details parts.Border (asking_for (first ∷ []) [])) (text_line (border_text first)) (sent (id_lines shallow_word border) ++ wants_lines id wants)
    (Fetch (wanting_behind (first ∷ border) (id ∷ wants))) (border_first hash first above.0)
    (moves_tell (asked_step hash) (reading.Details parts.Border (asking_for (first ∷ []) [])) (reading.Details parts.Border (asking_for (first ∷ border) [])) (sent (id_lines shallow_word border)) (wants_lines id wants)
    (Fetch (wanting_behind (first ∷ border) (id ∷ wants))) (border_on hash (first ∷ []) border above.2)
    (wants_read hash parts.Border (first ∷ border) id wants new (want_behind hash (first ∷ border) id new.0)))

-- ---- the whole request

-- the request by its parts
abbrev request_with : Handshake → List ℕ → Tags → Shallow → List ObjectId → List ObjectId → List Line
request_with h agent tags shallow border wants =
    sent (head_of h agent) ++ Delim ∷ []
    ++ sent ((pack_word h ∷ (when (is_included tags) include_tag ++ id_lines shallow_word border ++ depth_lines shallow ++ id_lines want_word wants)) ++ id_lines have_word [] ++ when true done_word) ++ Flush ∷ []

pub request_is : (hash : Kind) (a : Request) (border : List ObjectId) (id : ObjectId) (wants : List ObjectId) → IsWanting hash a border id wants → fetch_request a [] true ≡ request_with (greeting_of hash) a.agent tags.None NoChange border (id ∷ wants)
unfolding fetch_request
request_is hash a border id wants is =
    ap (λ (h : Handshake). request_with h a.agent a.tags a.shallow (ids_of a.border) a.wants) is.handshake
    ∙ ap (λ (t : Tags). request_with (greeting_of hash) a.agent t a.shallow (ids_of a.border) a.wants) is.tags
    ∙ ap (λ (s : Shallow). request_with (greeting_of hash) a.agent tags.None s (ids_of a.border) a.wants) is.shallow
    ∙ ap (λ (l : List ObjectId). request_with (greeting_of hash) a.agent tags.None NoChange l a.wants) is.border_is
    ∙ ap (λ (l : List ObjectId). request_with (greeting_of hash) a.agent tags.None NoChange border l) is.wanted

-- the wants with what is behind them
behind_is : (texts : List (List ℕ)) → sent (texts ++ done_word ∷ []) ++ Flush ∷ [] ≡ sent texts ++ (text_line done_word ∷ Flush ∷ [])
behind_is [] = refl
behind_is (text ∷ texts) = ap (λ (l : List Line). text_line text ∷ l) (behind_is texts)

-- and with the border before them
details_are : (border wants : List (List ℕ)) → sent ((((border ++ []) ++ wants) ++ []) ++ done_word ∷ []) ++ Flush ∷ [] ≡ sent border ++ (sent wants ++ (text_line done_word ∷ Flush ∷ []))
details_are [] wants = ap (λ (l : List (List ℕ)). sent (l ++ done_word ∷ []) ++ Flush ∷ []) (append-nil wants) ∙ behind_is wants
details_are (text ∷ border) wants = ap (λ (l : List Line). text_line text ∷ l) (details_are border wants)

-- the same line by line
abbrev pub spelled : Kind → List Line → List Line
spelled hash details = text_line command_word ∷ text_line (format_text hash) ∷ Delim ∷ text_line plain_pack_2 ∷ details

pub spelled_so : (hash : Kind) (agent : List ℕ) (border : List ObjectId) (id : ObjectId) (wants : List ObjectId) → request_with (greeting_of hash) agent tags.None NoChange border (id ∷ wants) ≡ spelled hash (details_lines border id wants)
unfolding capabilities_of kind_text is_format format_in agent_word format_word format_is format_text pack_word plain_pack plain_pack_2
spelled_so Sha1 agent border id wants =
    ap (λ (l : List Line). text_line command_word ∷ text_line (format_text Sha1) ∷ Delim ∷ text_line plain_pack_2 ∷ l) (details_are (id_lines shallow_word border) (id_lines want_word (id ∷ wants)))
spelled_so Sha256 agent border id wants =
    ap (λ (l : List Line). text_line command_word ∷ text_line (format_text Sha256) ∷ Delim ∷ text_line plain_pack_2 ∷ l) (details_are (id_lines shallow_word border) (id_lines want_word (id ∷ wants)))

abbrev follows : Kind → Reading → Line → Reading → Type 0
follows hash s line t = asked_step hash s line ≡ goes t

command_on : (hash : Kind) → follows hash reading.Command (text_line command_word) (reading.Fetch head.Format)
unfolding asked_step command_word listing_word without_lf
command_on hash = refl

format_on : (hash : Kind) → follows hash (reading.Fetch head.Format) (text_line (format_text hash)) (reading.Fetch head.Delimiter)
unfolding asked_step format_text format_is kind_text without_lf
format_on Sha1 = refl
format_on Sha256 = refl

delimiter_on : (hash : Kind) → follows hash (reading.Fetch head.Delimiter) Delim (reading.Fetch head.Version)
unfolding asked_step
delimiter_on hash = refl

version_on : (hash : Kind) → follows hash (reading.Fetch head.Version) (text_line plain_pack_2) (reading.Details parts.Beginning (nothing_asked V2))
unfolding asked_step plain_pack plain_pack_2 without_lf
version_on hash = refl

whole_read : (hash : Kind) (border : List ObjectId) (id : ObjectId) (wants : List ObjectId) → AreAbove hash [] border → AreNew hash [] (id ∷ wants)
    → Tells (asked_step hash) reading.Command (spelled hash (details_lines border id wants)) (Fetch (wanting_behind border (id ∷ wants)))
whole_read hash border id wants above new =
    let step = asked_step hash in
    let asked = Fetch (wanting_behind border (id ∷ wants)) in
    let last : List Line = details_lines border id wants in
    first_tells step reading.Command (reading.Fetch head.Format) (text_line command_word) (text_line (format_text hash) ∷ Delim ∷ text_line plain_pack_2 ∷ last) asked (command_on hash)
    (first_tells step (reading.Fetch head.Format) (reading.Fetch head.Delimiter) (text_line (format_text hash)) (Delim ∷ text_line plain_pack_2 ∷ last) asked (format_on hash)
    (first_tells step (reading.Fetch head.Delimiter) (reading.Fetch head.Version) Delim (text_line plain_pack_2 ∷ last) asked (delimiter_on hash)
    (first_tells step (reading.Fetch head.Version) (reading.Details parts.Beginning (nothing_asked V2)) (text_line plain_pack_2) last asked (version_on hash) (details_read hash border id wants above new))))

-- A server reads the request of a worker, also behind a border.
pub fetch_read : (hash : Kind) (a : Request) (border : List ObjectId) (id : ObjectId) (wants : List ObjectId) → IsWanting hash a border id wants → AreAbove hash [] border → AreNew hash [] (id ∷ wants)
    → IsRequest hash true (fetch_request a [] true) (Fetch (wanting_behind border (id ∷ wants)))
fetch_read hash a border id wants is above new =
    subst (λ (l : List Line). Tells (asked_step hash) reading.Command l (Fetch (wanting_behind border (id ∷ wants)))) (sym (request_is hash a border id wants is ∙ spelled_so hash a.agent border id wants)) (whole_read hash border id wants above new)
