-- What a whole conversation tells of the listing.
use Rattle.std.proofs.Common.{◌≡◌, ℕ, List, Option, Result, Ok, Err, refl, sym, ap, ◌∙◌, subst}
use Rattle.fetch_conversation.specs.Conversation.{answer_in, ends, map_refusal, told_as}
use Rattle.fetch_conversation.specs.ListStage.{ListedValue}
use Rattle.fetch_conversation.specs.declared.conversing.Received.{Received}
use Rattle.fetch_conversation.specs.declared.prepare.Error.{Error as PrepareError}
use Rattle.fetch_conversation.proofs.Chained.{answer_as, answer_behind, answer_then}
use Rattle.fetch_remote.specs.Errors.{preparing, receiving}
use Rattle.fetch_remote.specs.Form.{Given}
use Rattle.fetch_remote.specs.Repositories.{State}
use Rattle.fetch_remote.specs.Stages.{Told, bound_of, conversation, inquiry_in, listing_stage, pack_stage, receiving_stage}
use Rattle.fetch_remote.specs.declared.fetching.fetch_error.FetchError.{FetchError}
use Rattle.fetch_mirror.proofs.Listed.{IsMappedOnce, listing_stage_so}

module _ (g : Given) (s : State) (t : Told) (rest : List ℕ) where
  received_by : (l : ListedValue) (r : Result (Option Received × List ℕ) FetchError) → answer_behind (bound_of g) (λ (x : Option Received). ends (Ok (record { listed = l; received = x }))) r ≡ Ok (t, rest) → l ≡ t.listed
  unfolding answer_in
  received_by l (Ok y) is =
      let first : Told = record { listed = l; received = y.0 } in
      let pair : (first, y.1) ≡ (t, rest) = cc in
      ap (λ (x : Told × List ℕ). x.0.listed) pair
  received_by l (Err e) is = absurd cc

  received_so : (l : ListedValue) (behind : List ℕ) → answer_in (bound_of g) (receiving_stage g s l) behind ≡ Ok (t, rest) → l ≡ t.listed
  unfolding receiving_stage
  received_so l behind is =
      received_by l (answer_in (bound_of g) (told_as receiving (pack_stage g s l)) behind)
      (sym (answer_then (bound_of g) (told_as receiving (pack_stage g s l)) (λ (x : Option Received). ends (Ok (record { listed = l; received = x }))) behind) ∙ is)

  listed_by : (stream : List ℕ) (r : Result (ListedValue × List ℕ) PrepareError) → answer_in (bound_of g) (listing_stage g) stream ≡ r → answer_behind (bound_of g) (receiving_stage g s) (map_refusal preparing r) ≡ Ok (t, rest)
      → IsMappedOnce (inquiry_in g) t.listed
  listed_by stream (Ok x) at is = subst (λ (l : ListedValue). IsMappedOnce (inquiry_in g) l) (received_so x.0 x.1 is) (listing_stage_so (bound_of g) (inquiry_in g) x.0 x.1 stream at)
  listed_by stream (Err e) at is = absurd cc

  pub told_listed : (stream : List ℕ) → answer_in (bound_of g) (conversation g s) stream ≡ Ok (t, rest) → IsMappedOnce (inquiry_in g) t.listed
  unfolding conversation
  told_listed stream is =
      listed_by stream (answer_in (bound_of g) (listing_stage g) stream) refl
      (ap (answer_behind (bound_of g) (receiving_stage g s)) (sym (answer_as (bound_of g) preparing (listing_stage g) stream)) ∙ sym (answer_then (bound_of g) (told_as preparing (listing_stage g)) (receiving_stage g s) stream) ∙ is)
