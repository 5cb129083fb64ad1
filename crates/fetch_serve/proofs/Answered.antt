-- What is answered is read back.
use Rattle.std.proofs.Common.{◌≡◌, ℕ, ◌^◌, ◌<◌, Bool, true, false, not, ◌||◌, ◌&&◌, cond, List, [], ◌∷◌, length, get_or, Option, Some, None, Ok, refl, sym, ap, subst, arith, All}
use Rattle.std.specs.Prelude.{◌≢◌, IfSome, codes, is_some, nat_le, filter, slice_get}
use Rattle.std.specs.FinMap as finmap
use Rattle.std.specs.List.{AllByRecursion, list_any}
use Rattle.std.proofs.lemmas.Bool.Decides.{nat_tests}
use Rattle.std.proofs.lemmas.List.Elements.{All-cons, All-filter, All-head, All-nil, Contains-get_or}
use Rattle.fetch_refs.specs.declared.target.Target.{Target}
use Rattle.fetch_refs.specs.declared.target.Target.TheVariants.{Object, Symbolic}
use Rattle.fetch_pack.specs.Reading.{read}
use Rattle.fetch_pack.specs.Records.{Fits, body, limit_of, payloads_of}
use Rattle.fetch_pack.specs.declared.version.PackVersion.{PackVersion}
use Rattle.fetch_reach.proofs.Written.{is_read, they_fit}
use Rattle.fetch_specs.specs.Names.{is_full_name}
use Rattle.fetch_base.specs.Hashing.{digest}
use Rattle.fetch_objects.specs.Objects.{Stored}
use Rattle.fetch_base.specs.declared.id.Kind.{Kind}
use Rattle.fetch_base.specs.declared.id.Kind.TheVariants.{Sha1, Sha256}
use Rattle.fetch_base.specs.declared.id.ObjectId.{ObjectId}
use Rattle.fetch_store.proofs.Borders.{named-Contains}
use Rattle.fetch_store.proofs.Honesty.{commit_at}
use Rattle.fetch_lines.specs.Bands as bands
use Rattle.fetch_replies.specs.Awaited.{start_of, step_of}
use Rattle.fetch_lines.specs.FetchRecords.{no_reply}
use Rattle.fetch_lines.specs.Greetings.{format_in, is_format}
use Rattle.fetch_lines.specs.KnownIds.{has_id}
use Rattle.fetch_replies.specs.LinesTold.{Tells}
use Rattle.fetch_replies.specs.NamesTold.{AreNamedOnce}
use Rattle.fetch_lines.specs.Requests.{kind_text}
use Rattle.fetch_lines.specs.ServerLines.{IsChangeOf, IsIdOf, IsListable, IsTellable, IsWord, bands_of, change_lines, in_round, last_lines, round_lines, with_change}
use Rattle.fetch_lines.specs.Texts.{is_error}
use Rattle.fetch_lines.specs.Written.{first_too_long}
use Rattle.fetch_lines.specs.declared.listings.reference.Ref.{Ref}
use Rattle.fetch_replies.specs.declared.replies.reply.ReplyContext.{ReplyContext}
use Rattle.fetch_replies.specs.declared.replies.reply.ReplyKind.TheVariants as await
use Rattle.fetch_replies.specs.declared.replies.reply.ParsedReply.TheVariants as told
use Rattle.fetch_replies.proofs.GreetingLines.{greeting_tells}
use Rattle.fetch_replies.proofs.ListingLines.{listing_tells}
use Rattle.fetch_replies.proofs.ReplyLines.{bands_hold, last_tells, round_tells}
use Rattle.fetch_serve.specs.Answers.{awaits, fails, fetched, pack_bytes, told_of}
use Rattle.fetch_asked.specs.declared.asked.Asked.{Asked}
use Rattle.fetch_asked.specs.declared.asked.Asked.TheVariants.{First, Listing, Fetch}
use Rattle.fetch_asked.specs.declared.asked.DepthAsked.{DepthAsked}
use Rattle.fetch_asked.specs.declared.asked.FetchAsked.{FetchAsked}
use Rattle.fetch_serve.specs.Offered.{capabilities_of, capability, offer, offered_ids, offered_of, peeled_behind, target_of}
use Rattle.fetch_serve.specs.declared.depth.Move.{Move}
use Rattle.fetch_serve.specs.declared.depth.Move.TheVariants.{Comes, Leaves}
use Rattle.fetch_serve.specs.Depths.{border_of, depth_of, kept_of, moved_of, shallow_of, unshallow_of}
use Rattle.fetch_serve.specs.Packs.{known_haves, pack_of, served_of}
use Rattle.fetch_serve.specs.Replies.{change_in, error_lines, fetch_lines, first_unoffered, is_too_large, is_too_long, not_offered, objects_of, pack_lines, reply_lines, too_large}
use Rattle.fetch_serve.specs.Servable.{IsServable, end_of, is_long, is_refused as is_lost, is_unlistable}
use Rattle.fetch_serve.specs.Served.{Data, history_of, references_of}
use Rattle.fetch_asked.specs.Texts.{request_at}
use Rattle.fetch_serve.proofs.Ids.{short_id, stored_is}
use Rattle.fetch_serve.proofs.Fitting.{greeting_fits, listing_fits}
use Rattle.fetch_serve.proofs.Kept.{kept_commit, moved_kept}
use Rattle.fetch_serve.proofs.Lines.{AreShort, both_fit, change_fits, large_fits, pack_fits, refusal_fits, round_fits}
use Rattle.fetch_serve.proofs.Names.{full_word, named_once, names_apart, some_apart}
use Rattle.fetch_serve.proofs.Needed.{served_own, served_rise}
use Rattle.fetch_serve.proofs.Reached.{filtered}
use Rattle.fetch_asked.proofs.WantIds.{HasIdsOf, read_ids}
use Rattle.fetch_serve.proofs.References.{IsListed, full_by, id_of, offered_made, offered_one, id_stored, orb, peeled_stored, servable}

-- ---- the greeting

some_code : (b : ℕ) (bytes : List ℕ) → (b ∷ bytes) ≢ []
some_code b bytes = λ e. absurd (cc)

listing_tellable : IsTellable (capability (codes "ls-refs") (codes "unborn"))
unfolding is_format format_in is_error
listing_tellable = record { named = some_code _ _; plain = refl; known = refl; no_error = refl }

fetch_tellable : IsTellable (capability (codes "fetch") (codes "shallow plain-pack plain-pack-2"))
unfolding is_format format_in is_error
fetch_tellable = record { named = some_code _ _; plain = refl; known = refl; no_error = refl }

format_tellable : (hash : Kind) → IsTellable (capability (codes "object-format") (kind_text hash))
unfolding kind_text is_format format_in is_error
format_tellable Sha1 = record { named = some_code _ _; plain = refl; known = refl; no_error = refl }
format_tellable Sha256 = record { named = some_code _ _; plain = refl; known = refl; no_error = refl }

pub greeting : (hash : Kind) → All IsTellable (capabilities_of hash)
unfolding capabilities_of
greeting hash =
    let refs = capability (codes "ls-refs") (codes "unborn") in
    let fetch = capability (codes "fetch") (codes "shallow plain-pack plain-pack-2") in
    let format = capability (codes "object-format") (kind_text hash) in
    All-cons IsTellable refs (fetch ∷ format ∷ []) listing_tellable
    (All-cons IsTellable fetch (format ∷ []) fetch_tellable (All-cons IsTellable format [] (format_tellable hash) (All-nil IsTellable)))

-- ---- a listing

if_some : (P : ObjectId → Type 0) (o : Option ObjectId) → ((id : ObjectId) → o ≡ Some id → P id) → IfSome o P
if_some P None f = tt
if_some P (Some id) f = f id refl

target_word : (d : Data) (e : List ℕ × Target) (t : Target) → is_unlistable t ≡ false → IfSome (target_of t) IsWord
target_word d e (Object id) goes = tt
target_word d e (Symbolic name) goes = full_word name (full_by (is_full_name name) (orb (is_long name) (not (is_full_name name)) goes).1)

listable_as : (d : Data) (e : List ℕ × Target) (r : Ref) → IsServable d → IsListed d e r → IsListable d.hash r
listable_as d e r s l =
    let full = (filtered (λ (x : List ℕ × Target). is_full_name x.0) e (finmap.entries d.names) l.among).1 in
    let goes = orb (is_long e.0 || is_unlistable e.1) (is_lost (end_of d e.0 e.1)) (servable d e s l.among) in
    let target = (orb (is_long e.0) (is_unlistable e.1) goes.0).1 in
    record {
      name = subst IsWord (sym l.tells.name_is) (full_word e.0 full);
      target = subst (λ t. IfSome t IsWord) (sym l.tells.target_is) (target_word d e e.1 target);
      id = subst (λ i. IfSome i (IsIdOf d.hash)) (sym l.tells.id_is) (if_some (IsIdOf d.hash) (id_of d e) (λ id is. stored_is d id s (id_stored d e id s l.among is)));
      peeled = subst (λ i. IfSome i (IsIdOf d.hash)) (sym l.tells.peeled_is)
          (if_some (IsIdOf d.hash) (peeled_behind (history_of d) (id_of d e)) (λ id is. stored_is d id s (peeled_stored d (id_of d e) id is)));
    }

listable : (d : Data) (unborn : Bool) (prefixes : List (List ℕ)) → IsServable d → All (IsListable d.hash) (offered_of d unborn prefixes)
listable d unborn prefixes s = λ k r lt.
    let o = offered_one d unborn prefixes (get_or (offered_of d unborn prefixes) k r) (Contains-get_or (offered_of d unborn prefixes) k r lt) in
    listable_as d o.0 (get_or (offered_of d unborn prefixes) k r) s o.1

once : (d : Data) (unborn : Bool) (prefixes : List (List ℕ)) → AreNamedOnce (offered_of d unborn prefixes)
once d unborn prefixes =
    named_once (offer d unborn prefixes) (references_of d) (λ e r is. (offered_made d unborn prefixes e r is).name_is)
    (some_apart (λ (x : List ℕ × Target). is_full_name x.0) (finmap.entries d.names) (names_apart d.names))

-- ---- a round

known_are : (d : Data) (r : FetchAsked) → IsServable d → All (IsIdOf d.hash) (known_haves d r)
known_are d r s = λ k e lt.
    stored_is d (get_or (known_haves d r) k e) s (filtered (finmap.contains_key d.objects) (get_or (known_haves d r) k e) r.haves (Contains-get_or (known_haves d r) k e lt)).1

known_among : (d : Data) (r : FetchAsked) → All (λ id. has_id id r.haves ≡ true) (known_haves d r)
known_among d r = λ k e lt.
    named-Contains (get_or (known_haves d r) k e) r.haves (filtered (finmap.contains_key d.objects) (get_or (known_haves d r) k e) r.haves (Contains-get_or (known_haves d r) k e lt)).0

abbrev asked_of : Data → FetchAsked → ReplyContext
asked_of d r = record { kind = d.hash; haves = r.haves; done = r.done; read_pack = true }

-- ---- a pack

-- commits that come or leave are of the hash
moved_are : (d : Data) (r : FetchAsked) (way : Move) → IsServable d → All (IsIdOf d.hash) (moved_of (history_of d) (border_of r) (kept_of d r) way)
moved_are d r way s = λ k e lt.
    let id = get_or (moved_of (history_of d) (border_of r) (kept_of d r) way) k e in
    let kept = moved_kept d r way id (Contains-get_or (moved_of (history_of d) (border_of r) (kept_of d r) way) k e lt) in
    let o = commit_at d.objects id (kept_commit d r id kept) in
    stored_is d id s (ap is_some o.1)

moves_are : (d : Data) (r : FetchAsked) (depth : Option DepthAsked) → IsServable d → IfSome (change_in d r depth) (IsChangeOf d.hash)
moves_are d r None s = tt
moves_are d r (Some depth) s = record { shallow = moved_are d r Comes s; unshallow = moved_are d r Leaves s }

-- ---- a fetch request

pub either : (a b : Bool) → (a || b) ≡ false → (a ≡ false) × (b ≡ false)
either true b e = absurd (cc)
either false b e = (refl, e)

none_of : (o : Option ObjectId) → is_some o ≡ false → o ≡ None
none_of None e = refl
none_of (Some id) e = absurd (cc)

fetched_tells : (d : Data) (r : FetchAsked) (done : Bool) → IsServable d → r.done ≡ done → (done && is_too_large r.version (objects_of d r)) ≡ false
    → Tells step_of (start_of (await.Reply (asked_of d r))) (cond done (pack_lines d r (objects_of d r)) (round_lines (known_haves d r)))
    (told.Reply (cond done (with_change (change_in d r r.depth) (record no_reply { pack = Some (pack_bytes d r) })) (in_round (known_haves d r))))
fetched_tells d r false s is fits = round_tells (asked_of d r) (known_haves d r) is (known_are d r s) (known_among d r)
fetched_tells d r true s is fits =
    let lines = ap (λ b. cond b (error_lines too_large) (last_lines (change_in d r r.depth) (bands_of (pack_bytes d r)))) fits in
    subst (λ l. Tells step_of (start_of (await.Reply (asked_of d r))) l (told.Reply (with_change (change_in d r r.depth) (record no_reply { pack = Some (pack_bytes d r) })))) (sym lines)
    (subst (λ p. Tells step_of (start_of (await.Reply (asked_of d r))) (last_lines (change_in d r r.depth) (bands_of (pack_bytes d r))) (told.Reply (with_change (change_in d r r.depth) p)))
    (bands_hold (pack_bytes d r)) (last_tells (asked_of d r) (change_in d r r.depth) (bands_of (pack_bytes d r)) is refl (moves_are d r r.depth s)))

-- what is answered tells what it should
pub answered : (d : Data) (asked : Asked) → IsServable d → fails d asked ≡ false → Tells step_of (start_of (awaits d asked)) (reply_lines d asked) (told_of d asked)
unfolding reply_lines
answered d First s goes = greeting_tells (capabilities_of d.hash) (greeting d.hash)
answered d (Listing unborn prefixes) s goes = listing_tells d.hash (offered_of d unborn prefixes) (listable d unborn prefixes s) (once d unborn prefixes)
answered d (Fetch r) s goes =
    let p = either (is_some (first_unoffered d r)) (r.done && is_too_large r.version (objects_of d r)) goes in
    subst (λ o. Tells step_of (start_of (await.Reply (asked_of d r))) (fetch_lines d r o) (told.Reply (fetched d r))) (sym (none_of (first_unoffered d r) p.0)) (fetched_tells d r r.done s refl p.1)

refused_by : (d : Data) (r : FetchAsked) (o : Option ObjectId) (done : Bool) → r.done ≡ done → (is_some o || (done && is_too_large r.version (objects_of d r))) ≡ true
    → (text : List ℕ) × (fetch_lines d r o ≡ error_lines text)
refused_by d r (Some id) done is e = (not_offered id, refl)
refused_by d r None false is e = absurd (cc)
refused_by d r None true is e = (too_large, rw (is, e) refl)

-- and else it is one line that tells why not
pub refused : (d : Data) (asked : Asked) → fails d asked ≡ true → (text : List ℕ) × (reply_lines d asked ≡ error_lines text)
unfolding reply_lines
refused d First e = absurd (cc)
refused d (Listing unborn prefixes) e = absurd (cc)
refused d (Fetch r) e = refused_by d r (first_unoffered d r) r.done refl e

-- ---- each line fits

fetched_fits : (d : Data) (r : FetchAsked) (done : Bool) → IsServable d → first_too_long (cond done (pack_lines d r (objects_of d r)) (round_lines (known_haves d r))) ≡ None
fetched_fits d r false s = round_fits (known_haves d r) (λ k e lt. short_id d.hash (get_or (known_haves d r) k e) (known_are d r s k e lt))
fetched_fits d r true s = by_size (is_too_large r.version (objects_of d r))
  where
    short_moves : (way : Move) → AreShort (moved_of (history_of d) (border_of r) (kept_of d r) way)
    short_moves way = λ k e lt. short_id d.hash (get_or (moved_of (history_of d) (border_of r) (kept_of d r) way) k e) (moved_are d r way s k e lt)

    by_depth : (depth : Option DepthAsked) → first_too_long (last_lines (change_in d r depth) (bands_of (pack_bytes d r))) ≡ None
    by_depth None = pack_fits (pack_bytes d r)
    by_depth (Some depth) =
        both_fit (change_lines (change_in d r (Some depth))) (bands.pack_lines (bands_of (pack_bytes d r)))
        (change_fits (shallow_of d r) (unshallow_of d r) (short_moves Comes) (short_moves Leaves)) (pack_fits (pack_bytes d r))

    by_size : (b : Bool) → first_too_long (cond b (error_lines too_large) (last_lines (change_in d r r.depth) (bands_of (pack_bytes d r)))) ≡ None
    by_size true = large_fits
    by_size false = by_depth r.depth

fetch_fits : (d : Data) (r : FetchAsked) (o : Option ObjectId) → first_unoffered d r ≡ o → IsServable d → All (IsIdOf d.hash) r.wants → first_too_long (fetch_lines d r o) ≡ None
fetch_fits d r None is s ids = fetched_fits d r r.done s
fetch_fits d r (Some id) is s ids = refusal_fits id (short_id d.hash id (first_of (λ id. not (has_id id (offered_ids d))) r.wants id is ids))
  where
    first_of : (p : ObjectId → Bool) (wants : List ObjectId) (id : ObjectId) → slice_get (filter p wants) 0 ≡ Some id → All (IsIdOf d.hash) wants → IsIdOf d.hash id
    first_of p wants id is all = by_list (filter p wants) is (All-filter p (IsIdOf d.hash) wants all)
      where
        by_list : (xs : List ObjectId) → slice_get xs 0 ≡ Some id → All (IsIdOf d.hash) xs → IsIdOf d.hash id
        by_list [] e all = absurd (cc)
        by_list (x ∷ xs) e all = let same : x ≡ id = cc in subst (IsIdOf d.hash) same (All-head (IsIdOf d.hash) x xs all)

lines_fit : (d : Data) (asked : Asked) → IsServable d → HasIdsOf d.hash asked → first_too_long (reply_lines d asked) ≡ None
unfolding reply_lines
lines_fit d First s ids = greeting_fits d.hash
lines_fit d (Listing unborn prefixes) s ids = listing_fits d unborn prefixes s
lines_fit d (Fetch r) s ids = fetch_fits d r (first_unoffered d r) refl s ids

-- each line of the reply to a request that was read fits
pub reply_fits : (d : Data) (begun : Bool) (text rest : List ℕ) (asked : Asked) → IsServable d → request_at d.hash begun text ≡ Ok (asked, rest) → first_too_long (reply_lines d asked) ≡ None
reply_fits d begun text rest asked s read = lines_fit d asked s (read_ids d.hash begun text rest asked read)

-- ---- packs are read

pub each_short : (v : PackVersion) (os : List Stored) → list_any (is_too_long v) os ≡ false → AllByRecursion (λ o. length o.bytes < limit_of v) os
each_short v [] e = tt
each_short v (o ∷ os) e = let p = either (is_too_long v o) (list_any (is_too_long v) os) e in (short (length o.bytes) (limit_of v) p.0, each_short v os p.1)
  where
    short : (n m : ℕ) → nat_le m n ≡ false → n < m
    short n m h = grind (arith, nat_tests)

few_by : (n : ℕ) → nat_le (2 ^ 32) n ≡ false → n < 2 ^ 32
few_by n h = grind (arith, nat_tests)

pub few_of : (v : PackVersion) (os : List Stored) → is_too_large v os ≡ false → length os < 2 ^ 32
few_of v os e = few_by (length os) (either (nat_le (2 ^ 32) (length os)) (list_any (is_too_long v) os) e).0

not_large : (v : PackVersion) (os : List Stored) → is_too_large v os ≡ false → Fits v (payloads_of os)
not_large v os e = they_fit v os (few_of v os e) (each_short v os (either (nat_le (2 ^ 32) (length os)) (list_any (is_too_long v) os) e).1)

-- the pack of a request is read as what is served
pub pack_read : (d : Data) (r : FetchAsked) → IsServable d → is_too_large r.version (objects_of d r) ≡ false → read d.hash (pack_bytes d r)
    ≡ Ok (record { objects = (pack_of d r).objects; count = length (served_of d r); digest = digest d.hash (body r.version d.hash (payloads_of (objects_of d r))) })
pack_read d r s fits =
    is_read d.objects d.hash s.hash r.version (served_of d r) s.objects (served_rise d r (depth_of d r)) (served_own d r (depth_of d r) s.own) (not_large r.version (objects_of d r) fits)
