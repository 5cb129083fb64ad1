-- Tips that nothing asks for change nothing of a conversation.
use Rattle.std.proofs.Common.{◌≡◌, ℕ, zero, suc, Bool, true, false, List, [], ◌∷◌, Option, Result, Ok, refl, sym, ap, subst, ◌∙◌}
use Rattle.std.specs.Prelude.{if◌then◌else◌}
use Rattle.std.specs.FinMap as map
use Rattle.std.specs.Option.{option_or}
use Rattle.fetch_store.specs.Graph.{Graph, graph_of}
use Rattle.fetch_base.specs.declared.id.ObjectId.{ObjectId}
use Rattle.fetch_lines.specs.Talks.{Talk}
use Rattle.fetch_lines.specs.declared.requests.records.FetchReply.{FetchReply}
use Rattle.fetch_negotiate.specs.Windows.{Window}
use Rattle.fetch_negotiate.specs.declared.algorithm.Algorithm.{Algorithm}
use Rattle.fetch_negotiate.specs.declared.algorithm.Algorithm.TheVariants as algorithms
use Rattle.fetch_conversation.specs.Conversation.{Conversation, Converses, ends, and_then}
use Rattle.fetch_conversation.specs.ConverseStage.{algorithm_in, converse_stage, fetching, lacking, no_mapping, other_hash, received, unfit, wanting}
use Rattle.fetch_conversation.specs.Errors.{is_free_receiving, is_stopped}
use Rattle.fetch_conversation.specs.Exchange.{FetchArgumentsValue, haves_told, exchange}
use Rattle.fetch_conversation.specs.ListStage.{ListedValue, unless}
use Rattle.fetch_conversation.specs.Rounds.{RoundsStateValue, Negotiated, rounds_state_after, first_rounds_state, is_end, is_short, negotiating, next_window, rounds_with}
use Rattle.fetch_conversation.specs.declared.conversing.Received.{Received}
use Rattle.fetch_conversation.specs.declared.conversing.View.{View}
use Rattle.fetch_conversation.specs.declared.fetch.Error.{Error}
use Rattle.fetch_remote.specs.Form.{Given}
use Rattle.fetch_remote.specs.Repositories.{State}
use Rattle.fetch_remote.specs.Showing.{Shows, needs_tips, walks}
use Rattle.fetch_remote.specs.Stages.{bound_of, pack_stage, terms_in, view_with}

-- the same terms with other tips
abbrev with_tips : List ObjectId → FetchArgumentsValue → FetchArgumentsValue
with_tips tips t = record t { view = record t.view { tips = tips } }

-- a request and its reply are the same
same_exchange : (bound : ℕ) (t : FetchArgumentsValue) (tips haves : List ObjectId) (done : Bool) → exchange bound (with_tips tips t) haves done ≡ exchange bound t haves done
unfolding exchange
same_exchange bound t tips haves done = refl

-- what follows a reply
abbrev behind_reply : ℕ → ℕ → Graph → Algorithm → RoundsStateValue → Window → FetchArgumentsValue → FetchReply → Conversation Negotiated Error
behind_reply more bound g algorithm c w t reply =
    if is_end c w reply then ends (Ok (record { rounds = rounds_with c w reply; reply = reply })) else negotiating more bound t g algorithm (rounds_state_after algorithm c w reply)

-- the rounds are the same
same_rounds : (more bound : ℕ) (t : FetchArgumentsValue) (tips : List ObjectId) (g : Graph) (algorithm : Algorithm) (c : RoundsStateValue) → negotiating more bound (with_tips tips t) g algorithm c ≡ negotiating more bound t g algorithm c
unfolding negotiating
same_rounds zero bound t tips g algorithm c = refl
same_rounds (suc more) bound t tips g algorithm c =
    let w : Window = next_window g algorithm c in
    let later : behind_reply more bound g algorithm c w (with_tips tips t) ≡ behind_reply more bound g algorithm c w t =
    λ i reply. if is_end c w reply then ends (Ok (record { rounds = rounds_with c w reply; reply = reply })) else same_rounds more bound t tips g algorithm (rounds_state_after algorithm c w reply) i in
    ap (λ (x : Conversation FetchReply Error). and_then x (behind_reply more bound g algorithm c w (with_tips tips t))) (same_exchange bound t tips (haves_told c.shared w.haves) (is_short c w))
    ∙ ap (λ (go : FetchReply → Conversation Negotiated Error). and_then (exchange bound t (haves_told c.shared w.haves) (is_short c w)) go) later

-- ---- where nothing walks from the tips

-- the rounds by an algorithm, and what they bring
abbrev fetching_by : ℕ → Graph → Algorithm → FetchArgumentsValue → Conversation (Option Received) Error
fetching_by bound g algorithm t = and_then (negotiating (suc (map.len g)) bound t g algorithm (first_rounds_state algorithm t.view)) (λ n. ends (received t n))

unwalked : (bound : ℕ) (g : Graph) (t : FetchArgumentsValue) (tips : List ObjectId) (algorithm : Algorithm) → walks algorithm ≡ false → fetching_by bound g algorithm (with_tips tips t) ≡ fetching_by bound g algorithm t
unfolding received
unwalked bound g t tips algorithms.Noop idle = ap (λ (x : Conversation Negotiated Error). and_then x (λ n. ends (received t n))) (same_rounds (suc (map.len g)) bound t tips g algorithms.Noop (first_rounds_state algorithms.Noop t.view))
unwalked bound g t tips algorithms.Consecutive idle = absurd (cc)
unwalked bound g t tips algorithms.Skipping idle = absurd (cc)

same_fetching : (bound : ℕ) (g : Graph) (t : FetchArgumentsValue) (tips : List ObjectId) → walks (algorithm_in t.settings) ≡ false → fetching bound g (with_tips tips t) ≡ fetching bound g t
unfolding fetching
same_fetching bound g t tips idle = unwalked bound g t tips (algorithm_in t.settings) idle

same_wanting : (bound : ℕ) (g : Graph) (t : FetchArgumentsValue) (tips wants : List ObjectId) → needs_tips (algorithm_in t.settings) wants ≡ false → wanting bound g (with_tips tips t) wants ≡ wanting bound g t wants
same_wanting bound g t tips [] idle = refl
same_wanting bound g t tips (id ∷ ids) idle = same_fetching bound g t tips idle

same_stage : (bound : ℕ) (g : Graph) (t : FetchArgumentsValue) (tips : List ObjectId) → needs_tips (algorithm_in t.settings) t.view.wants ≡ false → converse_stage bound g (with_tips tips t) ≡ converse_stage bound g t
unfolding converse_stage
same_stage bound g t tips idle =
    ap (λ (x : Conversation (Option Received) Error). unless (option_or (no_mapping t) (option_or (other_hash t) (option_or (unfit t.settings) (lacking t)))) x) (same_wanting bound g t tips t.view.wants idle)

-- ---- what a repository shows

same_view : (v w : View) → v.wants ≡ w.wants → v.border ≡ w.border → v.tips ≡ w.tips → v ≡ w
same_view v w wants border tips = λ i. record { wants = wants i; border = border i; tips = tips i }

-- what is asked of a view
abbrev stage_of : Given → State → ListedValue → View → Conversation (Option Received) Error
stage_of g s l v = converse_stage (bound_of g) (graph_of s.objects) (record { listed = l; settings = g.setup.settings; view = v; tags = g.remote.tags; shallow = g.options.shallow; dry_run = g.options.dry_run })

-- all that a repository shows
abbrev whole_in : Given → State → ListedValue → View
whole_in g s l = view_with s l.ref_map g.remote.tags g.options.shallow

shown_stage : (g : Given) (s : State) (l : ListedValue) (v : View) → Shows s g.setup.settings l.ref_map g.remote.tags g.options.shallow v → stage_of g s l v ≡ pack_stage g s l
shown_stage g s l v is = by (needs_tips (algorithm_in g.setup.settings) v.wants) refl
  where
    by : (b : Bool) → needs_tips (algorithm_in g.setup.settings) v.wants ≡ b → stage_of g s l v ≡ pack_stage g s l
    by true asked = ap (stage_of g s l) (same_view v (whole_in g s l) is.wants is.border (is.tips asked))
    by false idle =
        let none : needs_tips (algorithm_in g.setup.settings) (whole_in g s l).wants ≡ false = sym (ap (needs_tips (algorithm_in g.setup.settings)) is.wants) ∙ idle in
        ap (stage_of g s l) (same_view v (record (whole_in g s l) { tips = v.tips }) is.wants is.border refl) ∙ same_stage (bound_of g) (graph_of s.objects) (terms_in g s l) v.tips none

-- a conversation that was held for what was shown is that of the repository
pub held_on : (answers : Bool) (mid new : Option Talk) (pending rest : List ℕ) (g : Given) (s : State) (l : ListedValue) (v : View) (result : Result (Option Received) Error) → Shows s g.setup.settings l.ref_map g.remote.tags g.options.shallow v
    → Converses is_free_receiving is_stopped answers (bound_of g) mid new pending rest (stage_of g s l v) result → Converses is_free_receiving is_stopped answers (bound_of g) mid new pending rest (pack_stage g s l) result
held_on answers mid new pending rest g s l v result is k = subst (λ (c : Conversation (Option Received) Error). Converses is_free_receiving is_stopped answers (bound_of g) mid new pending rest c result) (shown_stage g s l v is) k
