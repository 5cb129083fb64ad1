-- What a worker is told by a server that it hears to the end: its share's names, mapped to themselves, and the pack of all that
-- they reach, but for what is stored.
use Rattle.std.proofs.Common.{◌≡◌, ℕ, ◌<◌, ◌≤◌, Bool, true, false, not, ◌||◌, ◌&&◌, cond, List, [], ◌∷◌, ◌++◌, length, map, filter, Option, Some, None, Result, Ok, Err, refl, sym, ap, ◌∙◌, subst, ⊎_elim, codes, sum_by, Contains}
use Rattle.std.specs.Prelude.{is_some, slice_get, if◌then◌else◌}
use Rattle.std.specs.FinSet as set
use Rattle.std.specs.List.Sorted.{IsStrictlySortedBy}
use Rattle.std.specs.Option.{option_map}
use Rattle.std.proofs.lemmas.Bool.{cases_lt}
use Rattle.std.proofs.lemmas.List.{append-nil}
use Rattle.fetch_store.specs.Borders.{ids_of}
use Rattle.fetch_store.specs.Closed.{IsStored}
use Rattle.fetch_store.specs.Graph.{graph_of}
use Rattle.fetch_base.specs.Hashing.{digest}
use Rattle.fetch_base.specs.declared.id.Kind.{Kind}
use Rattle.fetch_base.specs.declared.id.ObjectId.{ObjectId}
use Rattle.fetch_store.proofs.Borders.{ids_of-set, named-Contains}
use Rattle.fetch_store.proofs.Members.{first_in, later_in, none_in}
use Rattle.fetch_specs.specs.Names.{is_full_name}
use Rattle.fetch_specs.specs.Prefixes.{prefixes_of}
use Rattle.fetch_pack.specs.Reading.{Contents, read}
use Rattle.fetch_pack.specs.Records.{body, payloads_of}
use Rattle.fetch_refs.specs.declared.log.Signature.{Signature}
use Rattle.fetch_refs.specs.declared.target.Target.{Target}
use Rattle.fetch_refs.specs.declared.target.Target.TheVariants.{Object}
use Rattle.fetch_update.specs.Policy.{value_of}
use Rattle.fetch_replies.specs.Awaited.{start_of, step_of}
use Rattle.fetch_replies.specs.LinesTold.{Tells}
use Rattle.fetch_lines.specs.Lines.{line_len}
use Rattle.fetch_wire.specs.Parameters.{first_bad, texts_told}
use Rattle.fetch_lines.specs.References.{id_in, name_in, peeled_in, source_id}
use Rattle.fetch_lines.specs.Requests.{listing_lines}
use Rattle.fetch_lines.specs.ServerLines.{IsIdOf, bands_of, last_lines}
use Rattle.fetch_lines.specs.Written.{first_too_long}
use Rattle.fetch_lines.specs.declared.error.WireError.TheVariants as wire
use Rattle.fetch_lines.specs.declared.greetings.handshake.Handshake.{Handshake}
use Rattle.fetch_lines.specs.declared.lines.line.Line.{Line}
use Rattle.fetch_map.specs.declared.mapping.Mapping.{Mapping}
use Rattle.fetch_map.specs.declared.mapping.SpecIndex.TheVariants.{ExplicitInRemote}
use Rattle.fetch_lines.specs.declared.listings.reference.Ref.{Ref}
use Rattle.fetch_replies.specs.declared.replies.reply.ReplyKind.TheVariants as await
use Rattle.fetch_replies.specs.declared.replies.reply.ReplyError.TheVariants.{Short}
use Rattle.fetch_replies.specs.declared.replies.reply.ParsedReply.TheVariants as telling
use Rattle.fetch_negotiate.specs.Requests.{fetch_request}
use Rattle.fetch_conversation.specs.ConverseStage.{is_no_change, is_rejecting, first_outside, read_of, received, result_unless, unpacked, with_pack}
use Rattle.fetch_conversation.specs.Exchange.{FetchArgumentsValue, asked_by, failed as unreceived_by, reply_to, too_long as unsendable_by}
use Rattle.fetch_conversation.specs.ListStage.{LsRefsValue, ListedValue, all_specs, handshaking, ls_refs_stage, is_nil, mapped, no_specs, prefixes_asked, unsendable}
use Rattle.fetch_conversation.specs.Mapped.{ref_mappings}
use Rattle.fetch_conversation.specs.declared.conversing.Received.{Received}
use Rattle.fetch_conversation.specs.declared.fetch.Error.{Error as ReceiveError}
use Rattle.fetch_conversation.specs.declared.fetch.Error.TheVariants as receive
use Rattle.fetch_conversation.specs.declared.prepare.Error.{Error as PrepareError}
use Rattle.fetch_conversation.specs.declared.prepare.Error.TheVariants as prepare
use Rattle.fetch_remote.specs.Errors.{preparing, receiving}
use Rattle.fetch_remote.specs.Form.{Given}
use Rattle.fetch_remote.specs.Repositories.{State}
use Rattle.fetch_remote.specs.Stages.{Told, conversation, inquiry_in, pack_stage, terms_in}
use Rattle.fetch_remote.specs.declared.fetching.fetch_error.FetchError.{FetchError}
use Rattle.fetch_asked.specs.declared.asked.Asked.{Asked}
use Rattle.fetch_asked.specs.declared.asked.Asked.TheVariants.{First, Listing, Fetch}
use Rattle.fetch_asked.specs.declared.asked.FetchAsked.{FetchAsked}
use Rattle.fetch_serve.specs.Answers.{fails, fetched, pack_bytes}
use Rattle.fetch_serve.specs.Offered.{ids_in, offer, offered_ids, offered_of, some_of}
use Rattle.fetch_serve.specs.Packs.{pack_of, served_of}
use Rattle.fetch_serve.specs.Replies.{error_lines, fetch_lines, first_unoffered, is_too_large, objects_of, replies_of, reply_lines, too_large}
use Rattle.fetch_asked.specs.Requests.{has_id}
use Rattle.fetch_serve.specs.Servable.{IsServable}
use Rattle.fetch_serve.specs.Served.{Data, references_of}
use Rattle.fetch_asked.specs.Texts.{request_bound}
use Rattle.fetch_serve.proofs.Answered.{answered, pack_read}
use Rattle.fetch_serve.proofs.Ids.{stored_is}
use Rattle.fetch_serve.proofs.Lines.{large_fits, pack_fits}
use Rattle.fetch_serve.proofs.Names.{named_once, names_apart, some_apart}
use Rattle.fetch_serve.proofs.Reached.{in_first, one_of}
use Rattle.fetch_serve.proofs.References.{id_stored, offered_made}
use Rattle.std.specs.FinMap as finmap
use Rattle.fetch_mirror.specs.Born.{born_of}
use Rattle.fetch_mirror.specs.Fetches.{AreAbove, AreNew, AreTerms, IsFetching, one_round, wanting_behind}
use Rattle.fetch_mirror.specs.GoingAlong.{GoesAlong}
use Rattle.fetch_mirror.specs.Limits.{worker_given}
use Rattle.fetch_mirror.specs.Listings.{AreRising, IsHeard, asked_lines, greeting_of}
use Rattle.fetch_mirror.specs.Settings.{own_meta}
use Rattle.fetch_mirror.specs.Shares.{AreOnce, AreOwnNames, as_itself}
use Rattle.fetch_mirror.specs.Workers.{IsListed}
use Rattle.fetch_mirror.proofs.AcceptedTerms.{accepted, tells_no_haves}
use Rattle.fetch_mirror.proofs.ListerAlong.{sendable}
use Rattle.fetch_mirror.proofs.ListingAlong.{IsAskable, listing_along, listing_too_long, request_unfit, request_unread, same_hash, ungreeted}
use Rattle.fetch_mirror.proofs.MappedOwn.{IsOwnMapping, each_own, greeted_is, mappings_are, one_of_each}
use Rattle.fetch_mirror.proofs.MirrorAlong.{worker_broken, worker_fetches, worker_long_pack, worker_wants_nothing}
use Rattle.fetch_mirror.proofs.NoopRead.{agent_read, is_read}
use Rattle.fetch_mirror.proofs.OfferedOwn.{IsOffered, asked_for, born_at, offers, value_is}
use Rattle.fetch_mirror.proofs.Once.{once_at}
use Rattle.fetch_mirror.proofs.PackAlong.{IsRequesting, pack_refused, pack_unread, pack_unsent}
use Rattle.fetch_mirror.proofs.Places.{at_contains, mapped_at}
use Rattle.fetch_mirror.proofs.RisingPrefixes.{rising_prefixes}
use Rattle.fetch_mirror.proofs.ServedAlong.{AreWhole}
use Rattle.fetch_mirror.proofs.WantedOwn.{is_wanted, wants_new}
use Rattle.fetch_mirror.proofs.WorkerAlong.{unlisted_along}

-- ---- what is to be shown

-- a mapping of a name of the share to itself, from the reference of the server that is born, by its id
pub record IsBornMapping (d : Data) (share : List (List ℕ)) (m : Mapping) : Type 0 where
  pub name : List ℕ
  pub index : ℕ
  pub shared : slice_get share index ≡ Some name
  pub id : ObjectId
  pub born : Contains (born_of d) (name, id)
  pub source : source_id m.remote ≡ Some id
  pub value : value_of m.remote ≡ Object id
  pub local : m.local ≡ Some name
  pub spec : m.spec_index ≡ ExplicitInRemote index

-- what is received of these wants behind this border: their pack, without a change of the border; of none nothing
abbrev pub IsReceivedBehind : Data → List ObjectId → List ObjectId → Option Received → Type 0
IsReceivedBehind d border [] r = r ≡ None
IsReceivedBehind d border (id ∷ wants) r = (x : Received) × (r ≡ Some x) × (x.objects ≡ (pack_of d (wanting_behind border (id ∷ wants))).objects) × (x.shallow ≡ []) × (x.unshallow ≡ [])

-- the same without a border
abbrev pub IsReceivedOf : Data → List ObjectId → Option Received → Type 0
IsReceivedOf d wants r = IsReceivedBehind d [] wants r

-- each name of the share is born, by some id
abbrev pub AreBorn : Data → List (List ℕ) → Type 0
AreBorn d share = (index : ℕ) (name : List ℕ) → slice_get share index ≡ Some name → (id : ObjectId) × Contains (born_of d) (name, id)

-- what it is offered
abbrev pub offered_to : Data → Signature → ℕ → List (List ℕ) → List Ref
offered_to d committer bound share = offered_of d true (prefixes_asked (inquiry_in (worker_given d committer bound share)))

-- It listed its share, and received the pack of what it wants over this state, behind this border.
pub record HasTold (d : Data) (committer : Signature) (bound : ℕ) (share : List (List ℕ)) (s : State) (border : List ObjectId) (told : Told) : Type 0 where
  pub maps : mapped (inquiry_in (worker_given d committer bound share)) (greeting_of d.hash) (offered_to d committer bound share) ≡ Ok told.listed
  pub received : IsReceivedBehind d border (terms_in (worker_given d committer bound share) s told.listed).view.wants told.received

-- ---- lists

some_not_nil : {X : Type 0} (xs : List X) (x : X) → Contains xs x → is_nil xs ≡ false
some_not_nil [] x h = absurd (none_in x h)
some_not_nil (y ∷ xs) x h = refl

nothing_kept : {X : Type 0} (p : X → Bool) (xs : List X) → ((x : X) → Contains xs x → p x ≡ false) → filter p xs ≡ []
nothing_kept p [] none = refl
nothing_kept {X} p (x ∷ xs) none = ap (λ (b : Bool). cond b (x ∷ filter p xs) (filter p xs)) (none x (first_in x xs)) ∙ nothing_kept p xs (λ y c. none y (later_in y x xs c))

same_at : (refs : List Ref) (once : AreOnce (map name_in refs)) (i j : ℕ) (r s : Ref) (name : List ℕ) → slice_get refs i ≡ Some r → slice_get refs j ≡ Some s → name_in r ≡ name → name_in s ≡ name → r ≡ s
same_at refs once i j r s name r_at s_at r_is s_is =
    let place : i ≡ j = once i j name (mapped_at name_in refs i r r_at ∙ ap (λ (n : List ℕ). Some n) r_is) (mapped_at name_in refs j s s_at ∙ ap (λ (n : List ℕ). Some n) s_is) in
    let both : Some r ≡ Some s = sym r_at ∙ ap (λ (k : ℕ). slice_get refs k) place ∙ s_at in
    cc

no_ids : ids_of set.empty ≡ []
unfolding IsStrictlySortedBy
no_ids = ids_of-set [] tt

-- a state without a border
pub no_border : (s : State) → s.border ≡ set.empty → ids_of s.border ≡ []
no_border s none = ap ids_of none ∙ no_ids

pub none_above : (hash : Kind) (s : State) → s.border ≡ set.empty → AreAbove hash [] (ids_of s.border)
none_above hash s none = subst (λ (l : List ObjectId). AreAbove hash [] l) (sym (no_border s none)) tt

-- ---- the worker

module _ (d : Data) (servable : IsServable d) (committer : Signature) (bound : ℕ) (share : List (List ℕ)) (own : AreOwnNames share) (born : AreBorn d share) (first : List ℕ) (some : slice_get share 0 ≡ Some first) where
  abbrev pub given : Given
  given = worker_given d committer bound share

  abbrev pub q : LsRefsValue
  q = inquiry_in given

  pub all_are : all_specs q ≡ map as_itself share
  all_are = append-nil (map as_itself share)

  pub prefixes_are : prefixes_asked q ≡ prefixes_of (map as_itself share)
  prefixes_are = ap prefixes_of all_are

  specified : (names : List (List ℕ)) → slice_get names 0 ≡ Some first → is_nil (map as_itself names) ≡ false
  specified [] at = absurd cc
  specified (name ∷ names) at = refl

  pub named : no_specs q ≡ None
  named = ap (λ (b : Bool). if b && true then Some prepare.MissingRefSpecs else None) (specified share some)

  sends : unsendable q ≡ None
  sends = ap (λ (agent : List ℕ). option_map (λ (bad : List ℕ × ℕ). handshaking (wire.BadParameter bad.0 bad.1)) (first_bad (texts_told (codes ".") [] agent))) (agent_read own_meta) ∙ sendable bound

  pub askable : IsAskable d q
  askable = record {
    servable = servable;
    told = record { greeting = answered d First servable refl; listing = answered d (Listing true (prefixes_asked q)) servable refl };
    inquiry = record { address = refl; plain = refl; sendable = sends };
    rising = subst (λ (l : List (List ℕ)). AreRising [] l) (sym prefixes_are) (rising_prefixes share (λ i name at. own.under i name at));
  }

  -- what is listed
  abbrev pub refs : List Ref
  refs = offered_of d true (prefixes_asked q)

  pub once : AreOnce (map name_in refs)
  once = once_at (map name_in refs)
      (named_once (offer d true (prefixes_asked q)) (references_of d) (λ e r is. (offered_made d true (prefixes_asked q) e r is).name_is)
      (some_apart (λ (x : List ℕ × Target). is_full_name x.0) (finmap.entries d.names) (names_apart d.names)))

  offered_here : (index : ℕ) (name : List ℕ) → slice_get share index ≡ Some name → (id : ObjectId) → Contains (born_of d) (name, id) → IsOffered d true (prefixes_asked q) name id
  offered_here index name at id among =
      subst (λ (l : List (List ℕ)). IsOffered d true l name id) (sym prefixes_are)
      (offers d true (prefixes_of (map as_itself share)) name id (born_at d name id among) (asked_for share index name at (own.under index name at)))

  module _ (l : ListedValue) (maps : mapped q (greeting_of d.hash) refs ≡ Ok l) where
    mapped_as : l.ref_map.mappings ≡ ref_mappings (length share) (map as_itself share) (greeting_of d.hash).object_hash refs
    mapped_as = mappings_are share q refl all_are (greeting_of d.hash) refs l maps

    pub each_born : (y : Mapping) → Contains l.ref_map.mappings y → IsBornMapping d share y
    each_born y among =
        let m : IsOwnMapping share refs y = each_own share own (greeting_of d.hash).object_hash refs once y (subst (λ (ms : List Mapping). Contains ms y) mapped_as among) in
        let b = born m.index m.name m.shared in
        let o = offered_here m.index m.name m.shared b.0 b.1 in
        let at = at_contains refs o.reference o.among in
        let same = same_at refs once m.item at.0 m.reference o.reference m.name m.told at.1 m.named o.name_is in
        let id_is : id_in m.reference ≡ Some b.0 = ap id_in same ∙ o.id_is in
        record {
          name = m.name;
          index = m.index;
          shared = m.shared;
          id = b.0;
          born = b.1;
          source = ap source_id m.remote ∙ id_is;
          value = ap value_of m.remote ∙ value_is m.reference b.0 id_is;
          local = m.local;
          spec = m.spec;
        }

    -- each name of the share has its mapping
    pub each_mapped : (index : ℕ) (name : List ℕ) → slice_get share index ≡ Some name → (y : Mapping) × Contains l.ref_map.mappings y × (y.local ≡ Some name)
    each_mapped index name at =
        let b = born index name at in
        let o = offered_here index name at b.0 b.1 in
        let place = at_contains refs o.reference o.among in
        let y = one_of_each share own (greeting_of d.hash).object_hash refs once index place.0 name o.reference at place.1 o.name_is in
        (y.0, subst (λ (ms : List Mapping). Contains ms y.0) (sym mapped_as) y.1, y.2)

    some_mapped : is_nil l.ref_map.mappings ≡ false
    some_mapped = let y = each_mapped 0 first some in some_not_nil l.ref_map.mappings y.0 y.1

    ids_are : (y : Mapping) (id : ObjectId) → Contains l.ref_map.mappings y → source_id y.remote ≡ Some id → IsIdOf d.hash id
    ids_are y id among source =
        let m = each_born y among in
        let b = born_at d m.name m.id m.born in
        let same : m.id ≡ id = (let both : Some m.id ≡ Some id = sym m.source ∙ source in cc) in
        stored_is d id servable (subst (IsStored d.objects) same (id_stored d b.entry m.id servable b.among b.id_is))

    module _ (s : State) (above : AreAbove d.hash [] (ids_of s.border)) where
      abbrev border : List ObjectId
      border = ids_of s.border

      abbrev pub t : FetchArgumentsValue
      t = terms_in given s l

      pub terms : AreTerms d.hash t
      terms = record {
        read = is_read own_meta;
        strict = refl;
        kind = refl;
        handshake = sym (greeted_is q (greeting_of d.hash) refs l maps);
        mapped = some_mapped;
        shallow = refl;
      }

      module _ (id : ObjectId) (wants : List ObjectId) (wanted : t.view.wants ≡ id ∷ wants) where
        abbrev pub r : FetchAsked
        r = wanting_behind border (id ∷ wants)

        abbrev asked : Asked
        asked = Fetch r

        pub requesting : IsRequesting d t border id wants
        requesting = record {
          accepted = accepted d.hash t terms;
          wanted = wanted;
          noop = tells_no_haves d.hash t terms;
          asked = record { handshake = terms.handshake; tags = refl; shallow = refl; border_is = refl; wanted = wanted };
          above = above;
          new = subst (λ (ids : List ObjectId). AreNew d.hash [] ids) wanted (wants_new d.hash l.ref_map (graph_of s.objects) (λ y i among source. ids_are y i among source));
        }

        offered_each : (want : ObjectId) → Contains (id ∷ wants) want → not (has_id want (offered_ids d)) ≡ false
        offered_each want among =
            let w = is_wanted l.ref_map (graph_of s.objects) want (subst (λ (ids : List ObjectId). Contains ids want) (sym wanted) among) in
            let m = each_born w.mapping w.among in
            let same : m.id ≡ want = (let both : Some m.id ≡ Some want = sym m.source ∙ w.source in cc) in
            let o = offers d false [] m.name m.id (born_at d m.name m.id m.born) refl in
            let own_id : Contains (ids_in o.reference) want =
            in_first want (some_of (id_in o.reference)) (some_of (peeled_in o.reference)) (subst (λ (x : Option ObjectId). Contains (some_of x) want) (sym (o.id_is ∙ ap (λ (i : ObjectId). Some i) same)) (first_in want [])) in
            ap not (named-Contains want (offered_ids d) (one_of ids_in o.reference want (offered_of d false []) o.among own_id))

        none_unoffered : first_unoffered d r ≡ None
        none_unoffered = ap (λ (ids : List ObjectId). slice_get ids 0) (nothing_kept (λ i. not (has_id i (offered_ids d))) (id ∷ wants) offered_each)

        -- its lines
        small_lines : is_too_large r.version (objects_of d r) ≡ false → reply_lines d asked ≡ last_lines None (bands_of (pack_bytes d r))
        unfolding reply_lines
        small_lines small =
            ap (λ (o : Option ObjectId). fetch_lines d r o) none_unoffered
            ∙ ap (λ (b : Bool). if b then error_lines too_large else last_lines None (bands_of (pack_bytes d r))) small

        large_lines : is_too_large r.version (objects_of d r) ≡ true → reply_lines d asked ≡ error_lines too_large
        unfolding reply_lines
        large_lines large =
            ap (λ (o : Option ObjectId). fetch_lines d r o) none_unoffered
            ∙ ap (λ (b : Bool). if b then error_lines too_large else last_lines None (bands_of (pack_bytes d r))) large

        goes : is_too_large r.version (objects_of d r) ≡ false → fails d asked ≡ false
        goes small = ap (λ (o : Option ObjectId). is_some o || is_too_large r.version (objects_of d r)) none_unoffered ∙ small

        fitting : is_too_large r.version (objects_of d r) ≡ false → first_too_long (reply_lines d asked) ≡ None
        fitting small = ap first_too_long (small_lines small) ∙ pack_fits (pack_bytes d r)

        hash_is : t.listed.handshake.object_hash ≡ d.hash
        hash_is = ap (λ (h : Handshake). h.object_hash) terms.handshake ∙ same_hash d.hash

        tells : is_too_large r.version (objects_of d r) ≡ false → Tells step_of (start_of (await.Reply (reply_to t [] true))) (reply_lines d asked) (telling.Reply (fetched d r))
        tells small =
            subst (λ (k : Kind). Tells step_of (start_of (await.Reply (record { kind = k; haves = []; done = true; read_pack = true }))) (reply_lines d asked) (telling.Reply (fetched d r))) (sym hash_is)
            (answered d asked servable (goes small))

        pub fetching : is_too_large r.version (objects_of d r) ≡ false → first_too_long (fetch_request (asked_by t) [] true) ≡ None → IsFetching d t border id wants (fetched d r)
        fetching small fits = record {
          accepted = requesting.accepted;
          wanted = wanted;
          noop = requesting.noop;
          asked = requesting.asked;
          above = above;
          new = requesting.new;
          fits = fits;
          tells = tells small;
          whole = fitting small;
        }

        -- what its pack holds
        abbrev contents : Contents
        contents = record { objects = (pack_of d r).objects; count = length (served_of d r); digest = digest d.hash (body r.version d.hash (payloads_of (objects_of d r))) }

        abbrev pub bringing : Received
        bringing = with_pack (one_round (fetched d r)) contents

        pub brings : is_too_large r.version (objects_of d r) ≡ false → received t (one_round (fetched d r)) ≡ Ok (Some bringing)
        unfolding received
        brings small =
            ap (λ (x : Result Bool (List ℕ)). result_unless (if is_rejecting x && is_no_change t.shallow then option_map (λ i. receive.RejectShallowRemote i) (first_outside t.view.border (fetched d r).shallow) else None)
            (read_of t.listed.handshake.object_hash t.dry_run (one_round (fetched d r)))) (is_read own_meta).rejects
            ∙ ap (λ (k : Kind). unpacked (one_round (fetched d r)) (read k (pack_bytes d r))) hash_is
            ∙ ap (unpacked (one_round (fetched d r))) (pack_read d r servable small)

      -- ---- the whole conversation

      module _ (l_is : IsListed d given l) (told : Told) (along : (sent : List Line) (answer : Result Told FetchError) → GoesAlong bound (replies_of d) [] (conversation given s) sent answer → answer ≡ Ok told) where
        -- so it was told
        abbrev Done : Type 0
        Done = (told.listed ≡ l) × IsReceivedBehind d border t.view.wants told.received

        abbrev as_told : Option Received → Told
        as_told x = record { listed = l; received = x }

        abbrev answered_by : Told → Result Told FetchError
        answered_by x = Ok x

        done_by : (x : Option Received) → answered_by (as_told x) ≡ answered_by told → IsReceivedBehind d border t.view.wants x → Done
        done_by x is h =
            let same : as_told x ≡ told = cc in
            (sym (ap (λ (y : Told). y.listed) same), subst (λ (y : Told). IsReceivedBehind d border t.view.wants y.received) same h)

        never : (others : List Line) (e : FetchError) → GoesAlong bound (replies_of d) [] (conversation given s) others (Err e) → Done
        never others e g = let is = along others (Err e) g in absurd cc

        module _ (id : ObjectId) (wants : List ObjectId) (wanted : t.view.wants ≡ id ∷ wants) where
          abbrev request : List Line
          request = fetch_request (asked_by t) [] true

          broken : (others : List Line) → ((heard : List ℕ) → AreWhole d.hash true heard → (e : ReceiveError) × GoesAlong bound (replies_of d) heard (pack_stage given s l) others (Err e)) → Done
          broken others k = let w = worker_broken d given s l others l_is k in never _ (receiving w.0) w.1

          fetched_so : is_too_large (r id wants wanted).version (objects_of d (r id wants wanted)) ≡ false → first_too_long request ≡ None → sum_by line_len request ≤ request_bound → Done
          fetched_so small fits short =
              let f = fetching id wants wanted small fits in
              ⊎_elim
              (λ (far : bound < sum_by line_len (reply_lines d (asked id wants wanted))). never _ _ (worker_long_pack d given s l border id wants (fetched d (r id wants wanted)) l_is f short far))
              (λ (within : sum_by line_len (reply_lines d (asked id wants wanted)) ≤ bound).
              let x = bringing id wants wanted in
              done_by (Some x) (along _ _ (worker_fetches d given s l border id wants (fetched d (r id wants wanted)) (Some x) l_is f short within (brings id wants wanted small)))
              (subst (λ (ids : List ObjectId). IsReceivedBehind d border ids (Some x)) (sym wanted) (x, refl, refl, refl, refl)))
              (cases_lt bound (sum_by line_len (reply_lines d (asked id wants wanted))))

          by_size : (large : Bool) → is_too_large (r id wants wanted).version (objects_of d (r id wants wanted)) ≡ large → first_too_long request ≡ None → sum_by line_len request ≤ request_bound → Done
          by_size false small fits short = fetched_so small fits short
          by_size true large fits short =
              broken (request ++ []) (λ heard whole. pack_refused d bound (graph_of s.objects) t border id wants (requesting id wants wanted) heard too_large whole fits short (large_lines id wants wanted large) large_fits)

          by_length : first_too_long request ≡ None → Done
          by_length fits =
              ⊎_elim
              (λ (long : request_bound < sum_by line_len request). broken (request ++ []) (λ heard whole. (unreceived_by bound (Short 0), pack_unread d bound (graph_of s.objects) t border id wants (requesting id wants wanted) heard whole fits long)))
              (λ (short : sum_by line_len request ≤ request_bound). by_size (is_too_large (r id wants wanted).version (objects_of d (r id wants wanted))) refl fits short)
              (cases_lt request_bound (sum_by line_len request))

          by_fitting : (long : Option ℕ) → first_too_long request ≡ long → Done
          by_fitting None fits = by_length fits
          by_fitting (Some n) is = broken [] (λ heard whole. (unsendable_by n, pack_unsent d bound (graph_of s.objects) t border id wants (requesting id wants wanted) heard n is))

        by_wants : (ids : List ObjectId) → t.view.wants ≡ ids → Done
        by_wants [] none =
            done_by None (along _ _ (worker_wants_nothing d given s l l_is (accepted d.hash t terms) none)) (subst (λ (ids : List ObjectId). IsReceivedBehind d border ids None) (sym none) refl)
        by_wants (id ∷ wants) wanted = by_fitting id wants wanted (first_too_long (fetch_request (asked_by t) [] true)) refl

        pub told_so : Done
        told_so = by_wants t.view.wants refl

  -- ---- the listing

  module _ (s : State) (above : AreAbove d.hash [] (ids_of s.border)) (told : Told) (along : (sent : List Line) (answer : Result Told FetchError) → GoesAlong bound (replies_of d) [] (conversation given s) sent answer → answer ≡ Ok told) where
    unlisted : (sent : List Line) (e : PrepareError) → GoesAlong bound (replies_of d) [] (ls_refs_stage bound q) sent (Err e) → HasTold d committer bound share s (ids_of s.border) told
    unlisted sent e g = let is = along sent (Err (preparing e)) (unlisted_along (replies_of d) given s sent e named g) in absurd cc

    abbrev listing : List Line
    listing = listing_lines (greeting_of d.hash) q.agent (prefixes_asked q)

    module _ (heard : IsHeard d q) (greeted : sum_by line_len (reply_lines d First) ≤ bound) (listed : sum_by line_len (reply_lines d (Listing true (prefixes_asked q))) ≤ bound) where
      by_map : (answer : Result ListedValue PrepareError) → mapped q (greeting_of d.hash) refs ≡ answer → HasTold d committer bound share s (ids_of s.border) told
      by_map (Err e) is = unlisted _ e (subst (λ (a : Result ListedValue PrepareError). GoesAlong bound (replies_of d) [] (ls_refs_stage bound q) (asked_lines d q) a) is (listing_along d bound q heard greeted listed))
      by_map (Ok l) is =
          let so = told_so l is s above (record { named = named; heard = heard; greeting = greeted; listing = listed; maps = is }) told along in
          record {
            maps = is ∙ ap (λ (x : ListedValue). Ok x) (sym so.0);
            received = subst (λ (x : ListedValue). IsReceivedBehind d (ids_of s.border) (terms_in given s x).view.wants told.received) (sym so.0) so.1;
          }

    by_listing : IsHeard d q → sum_by line_len (reply_lines d First) ≤ bound → HasTold d committer bound share s (ids_of s.border) told
    by_listing heard greeted =
        ⊎_elim
        (λ (far : bound < sum_by line_len (reply_lines d (Listing true (prefixes_asked q)))). unlisted _ _ (listing_too_long d bound q heard greeted far))
        (λ (within : sum_by line_len (reply_lines d (Listing true (prefixes_asked q))) ≤ bound). by_map heard greeted within (mapped q (greeting_of d.hash) refs) refl)
        (cases_lt bound (sum_by line_len (reply_lines d (Listing true (prefixes_asked q)))))

    by_request : first_too_long listing ≡ None → sum_by line_len (reply_lines d First) ≤ bound → HasTold d committer bound share s (ids_of s.border) told
    by_request fits greeted =
        ⊎_elim
        (λ (long : request_bound < sum_by line_len listing). unlisted _ _ (request_unread d bound q askable fits long greeted))
        (λ (short : sum_by line_len listing ≤ request_bound).
        by_listing (record { servable = servable; told = askable.told; inquiry = askable.inquiry; rising = askable.rising; fits = fits; short = short }) greeted)
        (cases_lt request_bound (sum_by line_len listing))

    by_line : (long : Option ℕ) → first_too_long listing ≡ long → sum_by line_len (reply_lines d First) ≤ bound → HasTold d committer bound share s (ids_of s.border) told
    by_line None fits greeted = by_request fits greeted
    by_line (Some n) is greeted = unlisted _ _ (request_unfit d bound q askable n is greeted)

    pub is_told : HasTold d committer bound share s (ids_of s.border) told
    is_told =
        ⊎_elim
        (λ (far : bound < sum_by line_len (reply_lines d First)). unlisted _ _ (ungreeted d bound q askable far))
        (λ (within : sum_by line_len (reply_lines d First) ≤ bound). by_line (first_too_long listing) refl within)
        (cases_lt bound (sum_by line_len (reply_lines d First)))
