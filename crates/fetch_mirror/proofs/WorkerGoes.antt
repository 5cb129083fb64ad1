-- A worker is told all that it asks its server for, where nothing is too long.
use Rattle.std.proofs.Common.{◌≡◌, ℕ, true, false, List, [], ◌∷◌, ◌++◌, map, Some, None, Ok, refl, sym, ap, ◌∙◌, subst, codes, sum_by, Contains}
use Rattle.std.specs.Prelude.{◌≤◌}
use Rattle.std.specs.FinSet as set
use Rattle.std.proofs.lemmas.List.{append-nil}
use Rattle.std.proofs.lemmas.List.Concat.{flat_map-append}
use Rattle.fetch_store.specs.Graph.{graph_of}
use Rattle.fetch_store.specs.Borders.{ids_of}
use Rattle.fetch_base.specs.declared.id.ObjectId.{ObjectId}
use Rattle.fetch_refs.specs.declared.log.Signature.{Signature}
use Rattle.fetch_specs.specs.Matches.{mappings_of}
use Rattle.fetch_specs.specs.Prefixes.{prefixes_of}
use Rattle.fetch_specs.specs.Specs.{Spec}
use Rattle.fetch_specs.specs.declared.tags.Tags.TheVariants as tags
use Rattle.fetch_lines.specs.Lines.{line_len}
use Rattle.fetch_lines.specs.References.{name_in}
use Rattle.fetch_lines.specs.Requests.{first_line, listing_lines}
use Rattle.fetch_lines.specs.Written.{first_too_long, line_text, lines_text}
use Rattle.fetch_lines.specs.declared.lines.line.Line.{Line}
use Rattle.fetch_lines.specs.declared.listings.reference.Ref.{Ref}
use Rattle.fetch_negotiate.specs.Requests.{fetch_request}
use Rattle.fetch_negotiate.specs.declared.algorithm.Shallow.TheVariants.{NoChange}
use Rattle.fetch_conversation.specs.Exchange.{FetchArgumentsValue, asked_by}
use Rattle.fetch_conversation.specs.ListStage.{LsRefsValue, ListedValue, map_of, mapped, prefixes_asked}
use Rattle.fetch_remote.specs.Form.{Given}
use Rattle.fetch_remote.specs.Repositories.{State}
use Rattle.fetch_remote.specs.Stages.{Told, conversation}
use Rattle.fetch_pack.specs.declared.version.PackVersion.TheVariants.{V2}
use Rattle.fetch_asked.specs.declared.asked.Asked.TheVariants.{Listing, Fetch}
use Rattle.fetch_asked.specs.declared.asked.FetchAsked.{FetchAsked}
use Rattle.fetch_serve.specs.Answers.{fetched}
use Rattle.fetch_serve.specs.Replies.{is_too_large, objects_of, replies_of, reply_lines}
use Rattle.fetch_serve.specs.Servable.{IsServable}
use Rattle.fetch_serve.specs.Served.{Data}
use Rattle.fetch_asked.specs.Texts.{request_bound}
use Rattle.fetch_mirror.specs.Born.{born_of}
use Rattle.fetch_mirror.specs.Fetches.{AreAbove, wanting_behind}
use Rattle.fetch_mirror.specs.GoingAlong.{GoesAlong}
use Rattle.fetch_mirror.specs.Limits.{IsPackWithin, IsShare, IsWithin, MayBeWanted, listing_for, request_for, worker_given}
use Rattle.fetch_mirror.specs.Listings.{IsHeard, asked_lines, greeting_of}
use Rattle.fetch_mirror.specs.Settings.{own_meta}
use Rattle.fetch_mirror.specs.Shares.{as_itself}
use Rattle.fetch_mirror.specs.Workers.{IsListed}
use Rattle.fetch_mirror.proofs.AcceptedTerms.{accepted}
use Rattle.fetch_mirror.proofs.FetchRead.{fetch_read}
use Rattle.fetch_mirror.proofs.LinesFit.{listing_fits, request_fits}
use Rattle.fetch_mirror.proofs.ListingAlong.{first_text, listed_whole}
use Rattle.fetch_mirror.proofs.MirrorAlong.{worker_fetches, worker_wants_nothing}
use Rattle.fetch_mirror.proofs.NoopRead.{agent_read}
use Rattle.fetch_mirror.proofs.RequestsRead.{asked_whole}
use Rattle.fetch_mirror.proofs.ServedAlong.{AreWhole, whole_more}
use Rattle.fetch_mirror.proofs.Unconflicted.{maps_selves, own_selves}
use Rattle.fetch_mirror.proofs.WantedOwn.{is_wanted}
use Rattle.fetch_mirror.proofs.WorkerTold as worker

-- It is told all, over a state, and what is sent for that are whole requests.
pub record IsTold (d : Data) (bound : ℕ) (given : Given) (s : State) : Type 0 where
  pub told : Told
  pub sent : List Line
  pub goes : GoesAlong bound (replies_of d) [] (conversation given s) sent (Ok told)
  pub whole : AreWhole d.hash true (lines_text sent)

module _ (d : Data) (servable : IsServable d) (committer : Signature) (bound : ℕ) (share : List (List ℕ)) (sh : IsShare d share) (within : IsWithin d bound share) where
  abbrev given : Given
  given = worker_given d committer bound share

  abbrev q : LsRefsValue
  q = worker.q d servable committer bound share sh.own sh.born sh.first sh.some

  abbrev refs : List Ref
  refs = worker.refs d servable committer bound share sh.own sh.born sh.first sh.some

  prefixes_are : prefixes_asked q ≡ prefixes_of (map as_itself share)
  prefixes_are = worker.prefixes_are d servable committer bound share sh.own sh.born sh.first sh.some

  -- what is listed
  abbrev l : ListedValue
  l = record { ref_map = map_of q (greeting_of d.hash) refs; handshake = greeting_of d.hash }

  maps : mapped q (greeting_of d.hash) refs ≡ Ok l
  maps =
      maps_selves q (greeting_of d.hash) refs (λ m there. own_selves share (map name_in refs) (greeting_of d.hash).object_hash sh.own (worker.once d servable committer bound share sh.own sh.born sh.first sh.some) m
      (subst (λ (specs : List Spec). Contains (mappings_of specs (map name_in refs) (greeting_of d.hash).object_hash) m) (worker.all_are d servable committer bound share sh.own sh.born sh.first sh.some) there))

  -- its request
  lines_are : listing_lines (greeting_of d.hash) q.agent (prefixes_asked q) ≡ listing_for d.hash share
  lines_are =
      ap (λ (agent : List ℕ). listing_lines (greeting_of d.hash) agent (prefixes_asked q)) (agent_read own_meta)
      ∙ ap (λ (prefixes : List (List ℕ)). listing_lines (greeting_of d.hash) (codes "oxide-0.87.1") prefixes) prefixes_are

  is_heard : IsHeard d q
  is_heard = let askable = worker.askable d servable committer bound share sh.own sh.born sh.first sh.some in record {
    servable = servable;
    told = askable.told;
    inquiry = askable.inquiry;
    rising = askable.rising;
    fits = ap (λ (prefixes : List (List ℕ)). first_too_long (listing_lines (greeting_of d.hash) q.agent prefixes)) prefixes_are ∙ listing_fits d share q.agent servable sh;
    short = subst (λ (lines : List Line). sum_by line_len lines ≤ request_bound) (sym lines_are) within.request;
  }

  is_listed : IsListed d given l
  is_listed = record {
    named = worker.named d servable committer bound share sh.own sh.born sh.first sh.some;
    heard = is_heard;
    greeting = within.greeting;
    listing = subst (λ (prefixes : List (List ℕ)). sum_by line_len (reply_lines d (Listing true prefixes)) ≤ bound) (sym prefixes_are) within.listing;
    maps = maps;
  }

  listing_text : lines_text (asked_lines d q) ≡ first_text ++ lines_text (listing_lines (greeting_of d.hash) q.agent (prefixes_asked q))
  listing_text =
      flat_map-append line_text (first_line (codes ".") [] ∷ []) (listing_lines (greeting_of d.hash) q.agent (prefixes_asked q) ++ [])
      ∙ ap (λ (lines : List Line). first_text ++ lines_text lines) (append-nil (listing_lines (greeting_of d.hash) q.agent (prefixes_asked q)))

  whole_listing : AreWhole d.hash true (lines_text (asked_lines d q))
  whole_listing = subst (AreWhole d.hash true) (sym listing_text) (listed_whole d bound q is_heard)

  module _ (s : State) (border : s.border ≡ set.empty) where
    none : ids_of s.border ≡ []
    none = worker.no_border s border

    above : AreAbove d.hash [] (ids_of s.border)
    above = worker.none_above d.hash s border

    abbrev t : FetchArgumentsValue
    t = worker.t d servable committer bound share sh.own sh.born sh.first sh.some l maps s above

    -- the request for these
    request_is : (wants : List ObjectId) → t.view.wants ≡ wants → fetch_request (asked_by t) [] true ≡ request_for d.hash wants
    request_is wants wanted = λ i. fetch_request (record {
      handshake = greeting_of d.hash;
      agent = agent_read own_meta i;
      tags = tags.None;
      shallow = NoChange;
      border = border i;
      wants = wanted i;
    }) [] true

    told_all : (wants : List ObjectId) → t.view.wants ≡ wants → IsTold d bound given s
    told_all [] nothing = record {
      told = record { listed = l; received = None };
      sent = asked_lines d q ++ ([] ++ []);
      goes = worker_wants_nothing d given s l is_listed (accepted d.hash t (worker.terms d servable committer bound share sh.own sh.born sh.first sh.some l maps s above)) nothing;
      whole = subst (λ (lines : List Line). AreWhole d.hash true (lines_text lines)) (sym (append-nil (asked_lines d q))) whole_listing;
    }
    told_all (id ∷ wants) wanted =
        let requesting = worker.requesting d servable committer bound share sh.own sh.born sh.first sh.some l maps s above id wants wanted in
        let may : MayBeWanted d share (id ∷ wants) = record {
          born = λ x among.
              let w = is_wanted l.ref_map (graph_of s.objects) x (subst (λ (ids : List ObjectId). Contains ids x) (sym wanted) among) in
              let m = worker.each_born d servable committer bound share sh.own sh.born sh.first sh.some l maps w.mapping w.among in
              let same : m.id ≡ x = (let both : Some m.id ≡ Some x = sym m.source ∙ w.source in cc) in
              (m.index, m.name, m.shared, subst (λ (i : ObjectId). Contains (born_of d) (m.name, i)) same m.born);
          new = requesting.new;
        } in
        let small : IsPackWithin d bound (id ∷ wants) = within.packs id wants may in
        let is = request_is (id ∷ wants) wanted in
        let request = fetch_request (asked_by t) [] true in
        let fits : first_too_long request ≡ None = request_fits d.hash (asked_by t) (ids_of s.border) id wants requesting.asked above requesting.new in
        let short : sum_by line_len request ≤ request_bound = subst (λ (lines : List Line). sum_by line_len lines ≤ request_bound) (sym is) small.request in
        let asked : FetchAsked = wanting_behind (ids_of s.border) (id ∷ wants) in
        let pack : is_too_large V2 (objects_of d asked) ≡ false = subst (λ (b : List ObjectId). is_too_large V2 (objects_of d (wanting_behind b (id ∷ wants))) ≡ false) (sym none) small.pack in
        let reply : sum_by line_len (reply_lines d (Fetch asked)) ≤ bound = subst (λ (b : List ObjectId). sum_by line_len (reply_lines d (Fetch (wanting_behind b (id ∷ wants)))) ≤ bound) (sym none) small.reply in
        let f = worker.fetching d servable committer bound share sh.own sh.born sh.first sh.some l maps s above id wants wanted pack fits in
        let x = worker.bringing d servable committer bound share sh.own sh.born sh.first sh.some l maps s above id wants wanted in
        record {
          told = record { listed = l; received = Some x };
          sent = asked_lines d q ++ ((request ++ []) ++ []);
          goes = worker_fetches d given s l (ids_of s.border) id wants (fetched d asked) (Some x) is_listed f short reply
              (worker.brings d servable committer bound share sh.own sh.born sh.first sh.some l maps s above id wants wanted pack);
          whole = subst (AreWhole d.hash true)
              (sym (flat_map-append line_text (asked_lines d q) ((request ++ []) ++ []) ∙ ap (λ (lines : List Line). lines_text (asked_lines d q) ++ lines_text lines) (append-nil (request ++ []) ∙ append-nil request)))
              (whole_more d.hash true (lines_text (asked_lines d q)) (lines_text request) (Fetch asked) whole_listing
              (asked_whole d.hash true request (Fetch asked) (fetch_read d.hash (asked_by t) (ids_of s.border) id wants requesting.asked above requesting.new) fits short));
        }

    pub is_told : IsTold d bound given s
    is_told = told_all t.view.wants refl
