-- Nothing is refused before the request of a worker.
use Rattle.std.proofs.Common.{◌≡◌, ℕ, Bool, true, false, cond, not, ◌&&◌, List, length, Option, Some, None, Result, refl, ap, ◌∙◌}
use Rattle.std.specs.List.{list_any}
use Rattle.std.specs.Option.{option_or}
use Rattle.fetch_base.specs.declared.id.Kind.{Kind}
use Rattle.fetch_base.specs.declared.id.Kind.TheVariants.{Sha1, Sha256}
use Rattle.fetch_lines.specs.Greetings.{format_in, is_format}
use Rattle.fetch_lines.specs.RequestWords.{plain_pack, plain_pack_2}
use Rattle.fetch_lines.specs.Requests.{kind_text}
use Rattle.fetch_lines.specs.declared.greetings.handshake.Handshake.{Handshake}
use Rattle.fetch_negotiate.specs.declared.algorithm.Algorithm.{Algorithm}
use Rattle.fetch_negotiate.specs.declared.algorithm.Algorithm.TheVariants.{Noop}
use Rattle.fetch_conversation.specs.ConverseStage.{algorithm_in, algorithm_told, fetch_feature, lacked, lacking, names_one, needs_shallow, no_mapping, other_hash, shallow_feature, specs_of, unfit, unlike, unread_as}
use Rattle.fetch_conversation.specs.Exchange.{FetchArgumentsValue}
use Rattle.fetch_conversation.specs.ListStage.{is_nil}
use Rattle.fetch_conversation.specs.ReadSettings.{algorithm_of_config, rejects_shallow_of, threads_of}
use Rattle.fetch_conversation.specs.declared.fetch.Error.{Error}
use Rattle.fetch_conversation.specs.declared.fetch.Error.TheVariants as errors
use Rattle.fetch_serve.specs.Offered.{capabilities_of}
use Rattle.fetch_mirror.specs.Fetches.{AreTerms}
use Rattle.fetch_mirror.specs.Listings.{greeting_of}

one_hash : (hash : Kind) → unlike hash (greeting_of hash).object_hash ≡ None
unfolding capabilities_of kind_text is_format format_in
one_hash Sha1 = refl
one_hash Sha256 = refl

lacks_nothing : (hash : Kind) (border_needed : Bool) → lacked (greeting_of hash) border_needed ≡ None
unfolding capabilities_of kind_text fetch_feature shallow_feature plain_pack plain_pack_2
lacks_nothing Sha1 true = refl
lacks_nothing Sha1 false = refl
lacks_nothing Sha256 true = refl
lacks_nothing Sha256 false = refl

module _ (hash : Kind) (t : FetchArgumentsValue) (h : AreTerms hash t) where
  is_mapped : no_mapping t ≡ None
  is_mapped =
      let m = t.listed.ref_map in
      ap (λ (b : Bool). cond (b && not (is_nil m.remote_refs) && list_any names_one (specs_of m)) (Some (errors.NoMapping (specs_of m) (length m.remote_refs))) None) h.mapped

  is_like : other_hash t ≡ None
  is_like =
      ap (λ (k : Kind). unlike k t.listed.handshake.object_hash) h.kind
      ∙ ap (λ (x : Handshake). unlike hash x.object_hash) h.handshake ∙ one_hash hash

  is_fit : unfit t.settings ≡ None
  is_fit =
      let c = t.settings.config in
      ap (λ (b : Bool). option_or (unread_as errors.RejectShallowRemoteConfig (rejects_shallow_of c)) (option_or (unread_as errors.NegotiationAlgorithmConfig (algorithm_of_config c b)) (unread_as errors.PackThreads (threads_of c b)))) h.strict
      ∙ ap (λ (r : Result Bool (List ℕ)). option_or (unread_as errors.RejectShallowRemoteConfig r) (option_or (unread_as errors.NegotiationAlgorithmConfig (algorithm_of_config c false)) (unread_as errors.PackThreads (threads_of c false)))) h.read.rejects
      ∙ ap (λ (r : Result Algorithm (List ℕ)). option_or (unread_as errors.NegotiationAlgorithmConfig r) (unread_as errors.PackThreads (threads_of c false))) h.read.algorithm
      ∙ ap (λ (r : Result (Option ℕ) (List ℕ)). unread_as errors.PackThreads r) h.read.threads

  lacks_none : lacking t ≡ None
  lacks_none = ap (λ (x : Handshake). lacked x (needs_shallow t)) h.handshake ∙ lacks_nothing hash (needs_shallow t)

  pub accepted : option_or (no_mapping t) (option_or (other_hash t) (option_or (unfit t.settings) (lacking t))) ≡ None
  accepted =
      ap (λ (o : Option Error). option_or o (option_or (other_hash t) (option_or (unfit t.settings) (lacking t)))) is_mapped
      ∙ ap (λ (o : Option Error). option_or o (option_or (unfit t.settings) (lacking t))) is_like
      ∙ ap (λ (o : Option Error). option_or o (lacking t)) is_fit ∙ lacks_none

  pub tells_no_haves : algorithm_in t.settings ≡ Noop
  tells_no_haves =
      ap (λ (b : Bool). algorithm_told (algorithm_of_config t.settings.config b)) h.strict
      ∙ ap algorithm_told h.read.algorithm
