-- What a server writes are valid replies.
use Rattle.std.proofs.Common.{◌≡◌, List, [], ◌++◌, ℕ, Option, Some, None, Ok, refl, ap, ◌∙◌}
use Rattle.fetch_pack.specs.Reading.{Contents}
use Rattle.fetch_store.specs.Graph.{Graph, graph_of}
use Rattle.fetch_lines.specs.declared.greetings.handshake.Capability.{Capability}
use Rattle.fetch_lines.specs.declared.listings.reference.Ref.{Ref}
use Rattle.fetch_conversation.specs.Conversation.{Conversation, ends, answer_in, map_refusal, told_as}
use Rattle.fetch_conversation.specs.ConverseStage.{converse_stage, with_pack}
use Rattle.fetch_conversation.specs.Conversing.{IsClear}
use Rattle.fetch_conversation.specs.Exchange.{FetchArgumentsValue}
use Rattle.fetch_conversation.specs.ListStage.{ListedValue}
use Rattle.fetch_conversation.specs.Writing.{Answer, listing_text, answers_text, negotiated_in}
use Rattle.fetch_conversation.specs.declared.conversing.Received.{Received}
use Rattle.fetch_conversation.proofs.Chained.{answer_behind, answer_then, answer_as}
use Rattle.fetch_conversation.proofs.Writing.{written_listing, written_pack}
use Rattle.fetch_remote.specs.Errors.{preparing, receiving}
use Rattle.fetch_remote.specs.Form.{Given}
use Rattle.fetch_remote.specs.Repositories.{State}
use Rattle.fetch_remote.specs.Serving.{listed_by, IsListed, IsAllStored, IsServed, told_listed, told_served, as_dry_run, but_its_pack, told_dry}
use Rattle.fetch_remote.specs.Stages.{Told, bound_of, terms_in, listing_stage, pack_stage, receiving_stage, conversation}
use Rattle.fetch_remote.specs.declared.fetching.fetch_error.FetchError.{FetchError}
use Rattle.fetch_remote.proofs.DryRuns.{stage_dry}
use Rattle.fetch_shared.specs.Fetching.{Call}
use Rattle.fetch_shared.specs.Valid.{HasListing, HasReplies, AreJudgeableAt}

-- ---- one stage after the other

told_end : (bound : ℕ) (l : ListedValue) (r : Option Received) (rest : List ℕ) → answer_in {X = Told} {E = FetchError} bound (ends (Ok (record { listed = l; received = r }))) rest ≡ Ok (record { listed = l; received = r }, rest)
unfolding answer_in
told_end bound l r rest = refl

receives : (g : Given) (s : State) (l : ListedValue) (r : Option Received) (stream rest : List ℕ) → answer_in (bound_of g) (pack_stage g s l) stream ≡ Ok (r, rest)
    → answer_in (bound_of g) (receiving_stage g s l) stream ≡ Ok (record { listed = l; received = r }, rest)
unfolding receiving_stage
receives g s l r stream rest is =
    let f : Option Received → Conversation Told FetchError = λ x. ends (Ok (record { listed = l; received = x })) in
    answer_then (bound_of g) (told_as receiving (pack_stage g s l)) f stream
    ∙ ap (answer_behind (bound_of g) f) (answer_as (bound_of g) receiving (pack_stage g s l) stream ∙ ap (map_refusal receiving) is)
    ∙ told_end (bound_of g) l r rest

both : (g : Given) (s : State) (l : ListedValue) (r : Option Received) (stream mid rest : List ℕ) → answer_in (bound_of g) (listing_stage g) stream ≡ Ok (l, mid) → answer_in (bound_of g) (pack_stage g s l) mid ≡ Ok (r, rest)
    → answer_in (bound_of g) (conversation g s) stream ≡ Ok (record { listed = l; received = r }, rest)
unfolding conversation
both g s l r stream mid rest first second =
    answer_then (bound_of g) (told_as preparing (listing_stage g)) (receiving_stage g s) stream
    ∙ ap (answer_behind (bound_of g) (receiving_stage g s)) (answer_as (bound_of g) preparing (listing_stage g) stream ∙ ap (map_refusal preparing) first)
    ∙ receives g s l r mid rest second

nothing_asked : (bound : ℕ) (g : Graph) (t : FetchArgumentsValue) (rest : List ℕ) → IsClear t → t.view.wants ≡ [] → answer_in bound (converse_stage bound g t) rest ≡ Ok (None, rest)
unfolding converse_stage answer_in
nothing_asked bound g t rest clear none = rw (clear.mapped, clear.alike, clear.fit, clear.offered, none) refl

-- ---- what a server writes

pub lists : (g : Given) (capabilities : List Capability) (refs : List Ref) (rest : List ℕ) → IsListed g capabilities refs → HasListing g (listing_text capabilities refs ++ rest)
lists g capabilities refs rest h = record { listed = listed_by g capabilities refs; behind = rest; replies = written_listing (bound_of g) _ capabilities refs rest h.askable h.listing }

pub lists_alone : (c : Call) (judged : Option ℕ) (s : State) (capabilities : List Capability) (refs : List Ref) (rest : List ℕ) → IsAllStored c.given s capabilities refs → AreJudgeableAt c judged (listed_by c.given capabilities refs).ref_map
    → HasReplies c judged s (listing_text capabilities refs ++ rest)
lists_alone c judged s capabilities refs rest h able =
    let g = c.given in
    let l = listed_by g capabilities refs in
    record {
      told = told_listed g capabilities refs;
      behind = rest;
      replies = both g s l None (listing_text capabilities refs ++ rest) rest rest (written_listing (bound_of g) _ capabilities refs rest h.listed.askable h.listed.listing) (nothing_asked (bound_of g) (graph_of s.objects) (terms_in g s l) rest h.clear h.unwanted);
      mappings = able;
    }

pub serves : (c : Call) (judged : Option ℕ) (s : State) (capabilities : List Capability) (refs : List Ref) (a : Answer) (answers : List Answer) (contents : Contents) (rest : List ℕ) → IsServed c.given s capabilities refs a answers contents
    → AreJudgeableAt c judged (listed_by c.given capabilities refs).ref_map → HasReplies c judged s (listing_text capabilities refs ++ (answers_text a answers ++ rest))
serves c judged s capabilities refs a answers contents rest h able =
    let g = c.given in
    let l = listed_by g capabilities refs in
    let t : FetchArgumentsValue = terms_in g s l in
    let r : Received = with_pack (negotiated_in t (graph_of s.objects) a answers) contents in
    let answered : List ℕ = answers_text a answers ++ rest in
    record {
      told = told_served g s capabilities refs a answers contents;
      behind = rest;
      replies = both g s l (Some r) (listing_text capabilities refs ++ answered) answered rest (written_listing (bound_of g) _ capabilities refs answered h.listed.askable h.listed.listing) (written_pack (bound_of g) t (graph_of s.objects) a answers contents rest h.packed);
      mappings = able;
    }

-- the same text is read by a dry run, up to the pack
pub serves_dry : (c : Call) (g : Given) (judged : Option ℕ) (s : State) (capabilities : List Capability) (refs : List Ref) (a : Answer) (answers : List Answer) (contents : Contents) (rest : List ℕ) → IsServed g s capabilities refs a answers contents
    → AreJudgeableAt (record c { given = as_dry_run g }) judged (listed_by g capabilities refs).ref_map → HasReplies (record c { given = as_dry_run g }) judged s (listing_text capabilities refs ++ (answers_text a answers ++ rest))
serves_dry c g judged s capabilities refs a answers contents rest h able =
    let l = listed_by g capabilities refs in
    let t : FetchArgumentsValue = terms_in g s l in
    let r : Received = with_pack (negotiated_in t (graph_of s.objects) a answers) contents in
    let answered : List ℕ = answers_text a answers ++ rest in
    let d = stage_dry (bound_of g) (graph_of s.objects) t answered rest (Some r) (written_pack (bound_of g) t (graph_of s.objects) a answers contents rest h.packed) in
    record {
      told = told_dry (told_served g s capabilities refs a answers contents);
      behind = d.left;
      replies = both (as_dry_run g) s l (Some (but_its_pack r)) (listing_text capabilities refs ++ answered) answered d.left (written_listing (bound_of g) _ capabilities refs answered h.listed.askable h.listed.listing) d.is;
      mappings = able;
    }
