-- No worker is refused while it talks with its server, where nothing is too long.
use Rattle.std.proofs.Common.{◌≡◌, ℕ, Bool, true, false, List, [], Some, Err, refl, sym, ◌∙◌, subst}
use Rattle.std.specs.FinSet as set
use Rattle.fetch_refs.specs.declared.log.Signature.{Signature}
use Rattle.fetch_lines.specs.Talks.{IsFront, Talk}
use Rattle.fetch_lines.specs.Written.{lines_text}
use Rattle.fetch_lines.specs.declared.lines.line.Line.{Line}
use Rattle.fetch_conversation.specs.Conversation.{Breaks}
use Rattle.fetch_conversation.specs.Served.{Follows}
use Rattle.fetch_remote.specs.Errors.{is_free, is_yes}
use Rattle.fetch_remote.specs.Form.{Given}
use Rattle.fetch_remote.specs.Repositories.{State}
use Rattle.fetch_remote.specs.Stages.{bound_of, conversation}
use Rattle.fetch_remote.specs.Conversed.{BreaksListing, BreaksReceiving}
use Rattle.fetch_remote.specs.declared.fetching.fetch_error.FetchError.{FetchError}
use Rattle.fetch_remote.proofs.Broken.{whole_listing, whole_receiving}
use Rattle.fetch_serve.specs.Peers.{ServedPeer, faults_of, heard_by, talk_with, told_by}
use Rattle.fetch_serve.specs.Replies.{replies_of}
use Rattle.fetch_serve.specs.Servable.{IsServable}
use Rattle.fetch_serve.specs.Served.{Data}
use Rattle.fetch_serve.proofs.Growing.{nothing_first}
use Rattle.fetch_mirror.specs.Along.{answer_along}
use Rattle.fetch_mirror.specs.Copying.{fresh}
use Rattle.fetch_mirror.specs.Limits.{IsPeersFault, IsShare, IsWithin, worker_given}
use Rattle.fetch_mirror.specs.Opening.{empty_mirror}
use Rattle.fetch_mirror.proofs.Along as along
use Rattle.fetch_mirror.proofs.HeardAlong.{broken_heard, heard_now}
use Rattle.fetch_mirror.proofs.ListerAlong.{follows_rule, fresh_peer}
use Rattle.fetch_mirror.proofs.ListerRefused.{no_fault, one_hash}
use Rattle.fetch_mirror.proofs.ServedAlong.{grows}
use Rattle.fetch_mirror.proofs.WorkerGoes.{IsTold, is_told}

module _ (d : Data) (peer : ServedPeer) (given : Given) (s : State) (e : FetchError) (fault : IsPeersFault d peer e) (t : IsTold d (bound_of given) given s)
    (h : Breaks is_free is_yes true (bound_of given) (told_by (fresh d)) (told_by peer) [] (conversation given s) e) where
  abbrev talk : Talk
  talk = let heard = heard_by peer.served peer.heard in talk_with peer heard (replies_of peer.served heard)

  follows : Follows (replies_of d) talk
  follows = follows_rule d peer talk refl h.passed.same_rule

  hash_is : peer.served.hash ≡ d.hash
  hash_is = one_hash peer.served d (let rules : Some (replies_of peer.served) ≡ Some (replies_of d) = h.passed.same_rule in cc)

  front : IsFront (heard_by peer.served peer.heard) (lines_text t.sent)
  front =
      subst (λ (l : List ℕ). IsFront l (lines_text t.sent)) (sym (heard_now (replies_of d) true (told_by (fresh d)) talk h.heard h.said (fresh_peer d) h.passed))
      (subst (λ (l : List Line). IsFront h.heard (lines_text l)) t.goes.asked
      (broken_heard (replies_of d) true (bound_of given) (told_by (fresh d)) talk (conversation given s) is_free is_yes e (grows d) (nothing_first d) t.goes.so (fresh_peer d) follows h))

  by : (free : Bool) → is_free e ≡ free → ⊥
  by true free = no_fault d peer hash_is (lines_text t.sent) t.whole front (faults_of (fresh d)) (fault.rose (fault.alone free))
  by false bound_to =
      let refused : answer_along (bound_of given) (replies_of d) [] (conversation given s) ≡ Err e =
      along.broken (replies_of d) true (bound_of given) (told_by (fresh d)) talk (conversation given s) is_free is_yes e (grows d) (nothing_first d) t.goes.so (fresh_peer d) follows h bound_to in
      let both = sym t.goes.is ∙ refused in absurd cc

  pub never : ⊥
  never = by (is_free e) refl

module _ (d : Data) (servable : IsServable d) (committer : Signature) (bound : ℕ) (share : List (List ℕ)) (sh : IsShare d share) (within : IsWithin d bound share) (peer : ServedPeer) (e : FetchError) (fault : IsPeersFault d peer e) where
  abbrev share_given : Given
  share_given = worker_given d committer bound share

  told_over : (s : State) → s.border ≡ set.empty → IsTold d bound share_given s
  told_over s border = is_told d servable committer bound share sh within s border

  -- while it lists: so it is of every state, also of the empty one
  pub listed : BreaksListing true (told_by (fresh d)) (told_by peer) share_given e → ⊥
  listed h =
      let s : State = (empty_mirror d.hash committer).state in
      never d peer share_given s e fault (told_over s refl)
      (subst (λ (x : FetchError). Breaks is_free is_yes true bound (told_by (fresh d)) (told_by peer) [] (conversation share_given s) x) (sym h.told)
      (whole_listing true (told_by (fresh d)) (told_by peer) share_given s h.cause h.broke))

  -- while it asks for a pack
  pub received : (s : State) → s.border ≡ set.empty → BreaksReceiving true (told_by (fresh d)) (told_by peer) share_given s e → ⊥
  received s border h =
      never d peer share_given s e fault (told_over s border)
      (subst (λ (x : FetchError). Breaks is_free is_yes true bound (told_by (fresh d)) (told_by peer) [] (conversation share_given s) x) (sym h.told)
      (whole_receiving true (told_by (fresh d)) h.between (told_by peer) share_given s h.listed h.behind h.cause h.list h.broke))

pub listed_always : (d : Data) → IsServable d → (committer : Signature) (bound : ℕ) (share : List (List ℕ)) → IsShare d share → IsWithin d bound share → (peer : ServedPeer) (e : FetchError) → IsPeersFault d peer e
    → BreaksListing true (told_by (fresh d)) (told_by peer) (worker_given d committer bound share) e → ⊥
listed_always d servable committer bound share sh within peer e fault h = listed d servable committer bound share sh within peer e fault h

pub received_always : (d : Data) → IsServable d → (committer : Signature) (bound : ℕ) (share : List (List ℕ)) → IsShare d share → IsWithin d bound share → (peer : ServedPeer) (e : FetchError) → IsPeersFault d peer e
    → (s : State) → s.border ≡ set.empty → BreaksReceiving true (told_by (fresh d)) (told_by peer) (worker_given d committer bound share) s e → ⊥
received_always d servable committer bound share sh within peer e fault s border h = received d servable committer bound share sh within peer e fault s border h
