-- The rounds of a fetch.
use Rattle.std.proofs.Common.{◌≡◌, ◌∙◌, ℕ, List, [], ◌++◌, filter, Option, Some, None, Result, Ok, Err, refl, sym, ap, subst, arith}
use Rattle.std.specs.Option.{option_or}
use Rattle.fetch_store.specs.Graph.{Graph, graph_of}
use Rattle.fetch_base.specs.declared.id.ObjectId.{ObjectId}
use Rattle.fetch_negotiate.specs.Any.{begun}
use Rattle.fetch_negotiate.specs.Windows.{first_size}
use Rattle.fetch_negotiate.specs.declared.algorithm.Algorithm.{Algorithm}
use Rattle.fetch_negotiate.specs.declared.algorithm.Round.{Round}
use Rattle.fetch_negotiate.proofs.Rounding.{all_told, are_full}
use Rattle.fetch_lines.specs.declared.lines.line.Line.{Line}
use Rattle.fetch_conversation.specs.Conversation.{Conversation, ends, sent_in, answer_in}
use Rattle.fetch_conversation.specs.ConverseStage.{algorithm_in, no_mapping, other_hash, unfit, lacking, wanting, converse_stage}
use Rattle.fetch_conversation.specs.Exchange.{FetchArgumentsValue, asked_by}
use Rattle.fetch_conversation.specs.ListStage.{ListedValue, unless}
use Rattle.fetch_conversation.specs.Requested.{TellsRounds}
use Rattle.fetch_conversation.specs.declared.conversing.Received.{Received}
use Rattle.fetch_conversation.proofs.Told.{stage_sends}
use Rattle.fetch_remote.specs.Form.{Given}
use Rattle.fetch_remote.specs.Negotiated.{HasNegotiated, HasNegotiatedBy, AreHeld, is_shallow}
use Rattle.fetch_remote.specs.Repositories.{State}
use Rattle.fetch_remote.specs.Stages.{bound_of, terms_in, pack_stage}
use Rattle.fetch_remote.proofs.Bordered.{requests_shown}
use Rattle.fetch_remote.proofs.Received.{is_received}

-- ---- nothing is wanted

sent_end : {X E : Type 0} (bound : ℕ) (answer : Result X E) (stream : List ℕ) → sent_in bound (ends answer) stream ≡ []
unfolding sent_in
sent_end bound answer stream = refl

unless_none : {X E : Type 0} (bound : ℕ) (o : Option E) (c : Conversation X E) (stream : List ℕ) → sent_in bound c stream ≡ [] → sent_in bound (unless o c) stream ≡ []
unless_none bound None c stream h = h
unless_none bound (Some e) c stream h = sent_end bound (Err e) stream

wanting_none : (bound : ℕ) (g : Graph) (t : FetchArgumentsValue) (wants : List ObjectId) (stream : List ℕ) → wants ≡ [] → sent_in bound (wanting bound g t wants) stream ≡ []
wanting_none bound g t wants stream is = rw is (sent_end bound (Ok None) stream)

stage_none : (bound : ℕ) (g : Graph) (t : FetchArgumentsValue) (stream : List ℕ) → t.view.wants ≡ [] → sent_in bound (converse_stage bound g t) stream ≡ []
unfolding converse_stage
stage_none bound g t stream is = unless_none bound (option_or (no_mapping t) (option_or (other_hash t) (option_or (unfit t.settings) (lacking t)))) (wanting bound g t t.view.wants) stream (wanting_none bound g t t.view.wants stream is)

-- ---- the rounds

negotiated : (g : Given) (before : State) (l : ListedValue) (lines : List Line) (rounds : List Round) → TellsRounds (graph_of before.objects) (terms_in g before l) lines rounds → HasNegotiated g before l lines rounds
negotiated g before l lines rounds tells =
    let graph : Graph = graph_of before.objects in
    let t : FetchArgumentsValue = terms_in g before l in
    let algorithm : Algorithm = algorithm_in t.settings in
    let told = all_told graph algorithm t.view.tips t.view.border rounds tells.are in
    record {
      requests = tells;
      full = are_full graph algorithm rounds first_size (begun algorithm t.view.tips t.view.border) (omega arith) tells.are;
      once = told.0;
      stored = told.1;
      border = ap (filter is_shallow) tells.lines ∙ requests_shown (asked_by t) [] rounds;
    }

negotiated_by : (g : Given) (before : State) (l : ListedValue) (stream rest : List ℕ) (r : Option Received) → answer_in (bound_of g) (pack_stage g before l) stream ≡ Ok (r, rest)
    → HasNegotiatedBy g before l (sent_in (bound_of g) (pack_stage g before l) stream) r
negotiated_by g before l stream rest None is =
    stage_none (bound_of g) (graph_of before.objects) (terms_in g before l) stream ((is_received (bound_of g) (graph_of before.objects) (terms_in g before l) stream None rest is).none refl)
negotiated_by g before l stream rest (Some r) is =
    let s = stage_sends (bound_of g) (graph_of before.objects) (terms_in g before l) stream in
    negotiated g before l (sent_in (bound_of g) (pack_stage g before l) stream) r.negotiate.rounds
    (subst (λ (x : List Round). TellsRounds (graph_of before.objects) (terms_in g before l) (sent_in (bound_of g) (pack_stage g before l) stream) x) (sym (s.answered r rest is)) s.tells)

pub are_held : (g : Given) (before : State) (l : ListedValue) (behind rest : List ℕ) (r : Option Received) → ((more : List ℕ) → answer_in (bound_of g) (pack_stage g before l) (behind ++ more) ≡ Ok (r, rest ++ more)) → AreHeld g before l behind r
are_held g before l behind rest r replied = record { each = λ more. negotiated_by g before l (behind ++ more) (rest ++ more) r (replied more) }
