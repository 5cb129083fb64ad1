-- The conversation of a worker of a mirror, along what its server gives.
use Rattle.std.proofs.Common.{◌≡◌, ℕ, ◌<◌, ◌≤◌, true, List, [], ◌∷◌, ◌++◌, Option, None, Ok, Err, sum_by}
use Rattle.std.specs.Option.{option_or}
use Rattle.fetch_store.specs.Graph.{graph_of}
use Rattle.fetch_base.specs.declared.id.ObjectId.{ObjectId}
use Rattle.fetch_lines.specs.Lines.{line_len}
use Rattle.fetch_lines.specs.Requests.{listing_lines}
use Rattle.fetch_lines.specs.Written.{lines_text}
use Rattle.fetch_lines.specs.declared.lines.line.Line.{Line}
use Rattle.fetch_replies.specs.declared.replies.reply.ReplyError.TheVariants.{Short, TooLong}
use Rattle.fetch_lines.specs.declared.requests.records.FetchReply.{FetchReply}
use Rattle.fetch_negotiate.specs.Requests.{fetch_request}
use Rattle.fetch_conversation.specs.ConverseStage.{lacking, no_mapping, other_hash, received, unfit}
use Rattle.fetch_conversation.specs.Exchange.{asked_by, failed}
use Rattle.fetch_conversation.specs.ListStage.{LsRefsValue, ListedValue, ls_refs_stage, prefixes_asked}
use Rattle.fetch_conversation.specs.declared.conversing.Received.{Received}
use Rattle.fetch_conversation.specs.declared.fetch.Error.{Error as ReceiveError}
use Rattle.fetch_remote.specs.Errors.{receiving}
use Rattle.fetch_remote.specs.Form.{Given}
use Rattle.fetch_remote.specs.Repositories.{State}
use Rattle.fetch_remote.specs.Stages.{bound_of, conversation, inquiry_in, pack_stage, terms_in}
use Rattle.fetch_asked.specs.declared.asked.Asked.TheVariants.{Fetch}
use Rattle.fetch_serve.specs.Replies.{replies_of, reply_lines}
use Rattle.fetch_serve.specs.Served.{Data}
use Rattle.fetch_asked.specs.Texts.{request_bound}
use Rattle.fetch_mirror.specs.Fetches.{IsFetching, one_round, wanting_behind}
use Rattle.fetch_mirror.specs.GoingAlong.{GoesAlong, GoesTo}
use Rattle.fetch_mirror.specs.Listings.{asked_lines, greeting_of}
use Rattle.fetch_mirror.specs.Workers.{IsListed}
use Rattle.fetch_mirror.proofs.ListingAlong.{first_text, listed_whole, listing_to}
use Rattle.fetch_mirror.proofs.PackAlong.{nothing_to, pack_to, pack_too_long, pack_unserved}
use Rattle.fetch_mirror.proofs.ServedAlong.{AreWhole}
use Rattle.fetch_mirror.proofs.WorkerAlong.{fetched_along, unreceived_along}

-- all that was heard with the listing request
abbrev heard_by : Data → LsRefsValue → List ℕ
heard_by d q = first_text ++ lines_text (listing_lines (greeting_of d.hash) q.agent (prefixes_asked q))

listed_to : (d : Data) (g : Given) (l : ListedValue) → IsListed d g l → GoesTo (bound_of g) (replies_of d) [] (heard_by d (inquiry_in g)) (ls_refs_stage (bound_of g) (inquiry_in g)) (asked_lines d (inquiry_in g)) l
listed_to d g l h = listing_to d (bound_of g) (inquiry_in g) h.heard l h.greeting h.listing h.maps

whole : (d : Data) (g : Given) (l : ListedValue) → IsListed d g l → AreWhole d.hash true (heard_by d (inquiry_in g))
whole d g l h = listed_whole d (bound_of g) (inquiry_in g) h.heard

-- the request of a worker
abbrev request : Given → State → ListedValue → List Line
request g s l = fetch_request (asked_by (terms_in g s l)) [] true

pub worker_fetches : (d : Data) (g : Given) (s : State) (l : ListedValue) (border : List ObjectId) (id : ObjectId) (wants : List ObjectId) (reply : FetchReply) (r : Option Received) → IsListed d g l → IsFetching d (terms_in g s l) border id wants reply
    → sum_by line_len (request g s l) ≤ request_bound → sum_by line_len (reply_lines d (Fetch (wanting_behind border (id ∷ wants)))) ≤ bound_of g → received (terms_in g s l) (one_round reply) ≡ Ok r
    → GoesAlong (bound_of g) (replies_of d) [] (conversation g s) (asked_lines d (inquiry_in g) ++ ((request g s l ++ []) ++ [])) (Ok (record { listed = l; received = r }))
worker_fetches d g s l border id wants reply r h k short within is =
    fetched_along (replies_of d) g s (heard_by d (inquiry_in g)) (heard_by d (inquiry_in g) ++ lines_text (request g s l)) (asked_lines d (inquiry_in g)) (request g s l ++ []) l r h.named (listed_to d g l h)
    (pack_to d (bound_of g) (graph_of s.objects) (terms_in g s l) border id wants reply k (heard_by d (inquiry_in g)) r (whole d g l h) short within is)

pub worker_wants_nothing : (d : Data) (g : Given) (s : State) (l : ListedValue) → IsListed d g l
    → option_or (no_mapping (terms_in g s l)) (option_or (other_hash (terms_in g s l)) (option_or (unfit (terms_in g s l).settings) (lacking (terms_in g s l)))) ≡ None → (terms_in g s l).view.wants ≡ []
    → GoesAlong (bound_of g) (replies_of d) [] (conversation g s) (asked_lines d (inquiry_in g) ++ ([] ++ [])) (Ok (record { listed = l; received = None }))
worker_wants_nothing d g s l h accepted none =
    fetched_along (replies_of d) g s (heard_by d (inquiry_in g)) (heard_by d (inquiry_in g)) (asked_lines d (inquiry_in g)) [] l None h.named (listed_to d g l h)
    (nothing_to d (bound_of g) (graph_of s.objects) (terms_in g s l) (heard_by d (inquiry_in g)) accepted none)

pub worker_long_pack : (d : Data) (g : Given) (s : State) (l : ListedValue) (border : List ObjectId) (id : ObjectId) (wants : List ObjectId) (reply : FetchReply) → IsListed d g l → IsFetching d (terms_in g s l) border id wants reply
    → sum_by line_len (request g s l) ≤ request_bound → bound_of g < sum_by line_len (reply_lines d (Fetch (wanting_behind border (id ∷ wants))))
    → GoesAlong (bound_of g) (replies_of d) [] (conversation g s) (asked_lines d (inquiry_in g) ++ (request g s l ++ [])) (Err (receiving (failed (bound_of g) TooLong)))
worker_long_pack d g s l border id wants reply h k short far =
    unreceived_along (replies_of d) g s (heard_by d (inquiry_in g)) (asked_lines d (inquiry_in g)) (request g s l ++ []) l (failed (bound_of g) TooLong) h.named (listed_to d g l h)
    (pack_too_long d (bound_of g) (graph_of s.objects) (terms_in g s l) border id wants reply k (heard_by d (inquiry_in g)) (whole d g l h) short far)

pub worker_long_request : (d : Data) (g : Given) (s : State) (l : ListedValue) (border : List ObjectId) (id : ObjectId) (wants : List ObjectId) (reply : FetchReply) → IsListed d g l → IsFetching d (terms_in g s l) border id wants reply
    → request_bound < sum_by line_len (request g s l)
    → GoesAlong (bound_of g) (replies_of d) [] (conversation g s) (asked_lines d (inquiry_in g) ++ (request g s l ++ [])) (Err (receiving (failed (bound_of g) (Short 0))))
worker_long_request d g s l border id wants reply h k long =
    unreceived_along (replies_of d) g s (heard_by d (inquiry_in g)) (asked_lines d (inquiry_in g)) (request g s l ++ []) l (failed (bound_of g) (Short 0)) h.named (listed_to d g l h)
    (pack_unserved d (bound_of g) (graph_of s.objects) (terms_in g s l) border id wants reply k (heard_by d (inquiry_in g)) (whole d g l h) long)

-- Behind the listing, the pack isn't had: so it is of the whole.
pub worker_broken : (d : Data) (g : Given) (s : State) (l : ListedValue) (others : List Line) → IsListed d g l
    → ((heard : List ℕ) → AreWhole d.hash true heard → (e : ReceiveError) × GoesAlong (bound_of g) (replies_of d) heard (pack_stage g s l) others (Err e))
    → (e : ReceiveError) × GoesAlong (bound_of g) (replies_of d) [] (conversation g s) (asked_lines d (inquiry_in g) ++ others) (Err (receiving e))
worker_broken d g s l others h k =
    let broke = k (heard_by d (inquiry_in g)) (whole d g l h) in
    (broke.0, unreceived_along (replies_of d) g s (heard_by d (inquiry_in g)) (asked_lines d (inquiry_in g)) others l broke.0 h.named (listed_to d g l h) broke.1)
