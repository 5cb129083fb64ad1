-- What is received is named by its hashes.
use Rattle.std.proofs.Common.{◌≡◌, ℕ, List, [], ◌∷◌, Option, Some, None, Result, Ok, Err, IfOk, refl, sym, subst}
use Rattle.std.specs.Prelude.{unwrap_or, ⊤}
use Rattle.std.specs.FinMap as finmap
use Rattle.std.specs.Option.{option_or}
use Rattle.fetch_store.specs.Graph.{Graph}
use Rattle.fetch_base.specs.declared.id.Kind.{Kind}
use Rattle.fetch_base.specs.declared.id.ObjectId.{ObjectId}
use Rattle.fetch_objects.specs.Objects.{Stored}
use Rattle.fetch_store.specs.Stores.{Entries, collision}
use Rattle.fetch_pack.specs.declared.error.PackError.{PackError}
use Rattle.fetch_pack.specs.Once.{AreNamed}
use Rattle.fetch_pack.specs.Packs.{entries}
use Rattle.fetch_pack.specs.Reading.{◌>>=◌, Contents, Frame, all_parsed, distinct, ids_of, once_from, paired, read, structure, unless, with_digest, with_ids}
use Rattle.fetch_pack.proofs.Laws.{objects_of, paired_entries, parsed_found, payloads_in}
use Rattle.fetch_pack.proofs.Members.{once_named}
use Rattle.fetch_conversation.specs.Conversation.{ends, answer_in}
use Rattle.fetch_conversation.specs.ConverseStage.{converse_stage, fetching, lacking, no_mapping, other_hash, received, rejected, unfit, unpacked, wanting, with_pack, without_pack}
use Rattle.fetch_conversation.specs.Errors.{fetch_of_pack}
use Rattle.fetch_conversation.specs.Exchange.{FetchArgumentsValue}
use Rattle.fetch_conversation.specs.Rounds.{Negotiated}
use Rattle.fetch_conversation.specs.declared.conversing.Received.{Received}
use Rattle.fetch_conversation.specs.declared.fetch.Error.{Error as ReceiveError}
use Rattle.fetch_remote.proofs.Received.{Gives, gives_answer, gives_ok, gives_err, gives_unless, gives_then, dry_or_gives, unless_gives}

-- ---- a pack

if_bind : {A B : Type 0} (r : Result A PackError) (f : A → Result B PackError) (P : B → Type 0) → ((x : A) → r ≡ Ok x → IfOk (f x) P) → IfOk (r >>= f) P
if_bind (Ok x) f P h = h x refl
if_bind (Err e) f P h = tt

once_is : (os kept : Entries) (o : Option ObjectId) → unless (once_from [] os) o ≡ Ok kept → once_from [] os ≡ kept
once_is os kept None is = cc
once_is os kept (Some id) is = absurd cc

abbrev made : Frame → Entries → Result Contents PackError
made f kept = Ok (record { objects = kept; count = f.count; digest = f.digest })

abbrev kept_by : Kind → Frame → List Stored → Result Contents PackError
kept_by hash f os = distinct (paired (ids_of hash os) os) >>= λ kept. made f kept

abbrev parsed_by : Kind → Frame → Result Contents PackError
parsed_by hash f = all_parsed f.version hash 12 f.written >>= λ os. with_ids f.version hash f.written (ids_of hash os) >>= λ _. kept_by hash f os

kept_named : (hash : Kind) (f : Frame) (os : List Stored) (kept : Entries) → all_parsed f.version hash 12 f.written ≡ Ok os → distinct (paired (ids_of hash os) os) ≡ Ok kept → AreNamed kept
kept_named hash f os kept is once =
    let same : objects_of hash (payloads_in f.written) ≡ os = (parsed_found f.version hash 12 f.written os is).1 in
    let pairs : paired (ids_of hash (objects_of hash (payloads_in f.written))) (objects_of hash (payloads_in f.written)) ≡ entries hash (payloads_in f.written) = paired_entries hash (payloads_in f.written) in
    let first : AreNamed (once_from [] (paired (ids_of hash (objects_of hash (payloads_in f.written))) (objects_of hash (payloads_in f.written)))) =
    subst (λ (es : Entries). AreNamed (once_from [] es)) (sym pairs) (once_named hash (payloads_in f.written)) in
    let all : AreNamed (once_from [] (paired (ids_of hash os) os)) = subst (λ (xs : List Stored). AreNamed (once_from [] (paired (ids_of hash xs) xs))) same first in
    subst AreNamed (once_is (paired (ids_of hash os) os) kept (collision finmap.empty (paired (ids_of hash os) os)) once) all

read_named : (hash : Kind) (bytes : List ℕ) → IfOk (read hash bytes) (λ c. AreNamed c.objects)
read_named hash bytes =
    let P : Contents → Type 0 = λ c. AreNamed c.objects in
    if_bind (structure hash bytes) (λ framed. with_digest hash framed >>= λ f. parsed_by hash f) P (λ framed _.
    if_bind (with_digest hash framed) (parsed_by hash) P (λ f _.
    if_bind (all_parsed f.version hash 12 f.written) (λ os. with_ids f.version hash f.written (ids_of hash os) >>= λ _. kept_by hash f os) P (λ os is.
    if_bind (with_ids f.version hash f.written (ids_of hash os)) (λ _. kept_by hash f os) P (λ _ _.
    if_bind (distinct (paired (ids_of hash os) os)) (made f) P (λ kept once. kept_named hash f os kept is once)))))

-- ---- a reply

abbrev pub IsNamed : Option Received → Type 0
IsNamed None = ⊤
IsNamed (Some r) = AreNamed r.objects

unpacked_named : (n : Negotiated) (r : Result Contents PackError) → IfOk r (λ c. AreNamed c.objects) → Gives {E = ReceiveError} IsNamed (ends (unpacked n r))
unpacked_named n (Ok c) h = gives_ok ReceiveError IsNamed (Some (with_pack n c)) h
unpacked_named n (Err e) h = gives_err IsNamed (fetch_of_pack e)

received_named : (t : FetchArgumentsValue) (n : Negotiated) → Gives {E = ReceiveError} IsNamed (ends (received t n))
unfolding received
received_named t n =
    unless_gives IsNamed (rejected t.settings t.view t.shallow n.reply) _
    (dry_or_gives IsNamed t.dry_run (Some (without_pack n)) _ tt
    (unpacked_named n (read t.listed.handshake.object_hash (unwrap_or n.reply.pack [])) (read_named t.listed.handshake.object_hash (unwrap_or n.reply.pack []))))

wanting_named : (bound : ℕ) (g : Graph) (t : FetchArgumentsValue) (wants : List ObjectId) → Gives IsNamed (wanting bound g t wants)
unfolding fetching
wanting_named bound g t [] = gives_ok ReceiveError IsNamed None tt
wanting_named bound g t (id ∷ ids) = gives_then IsNamed _ _ (λ n. received_named t n)

converse_named : (bound : ℕ) (g : Graph) (t : FetchArgumentsValue) → Gives IsNamed (converse_stage bound g t)
unfolding converse_stage
converse_named bound g t = gives_unless IsNamed (option_or (no_mapping t) (option_or (other_hash t) (option_or (unfit t.settings) (lacking t)))) (wanting bound g t t.view.wants) (wanting_named bound g t t.view.wants)

pub named_received : (bound : ℕ) (g : Graph) (t : FetchArgumentsValue) (stream : List ℕ) (r : Option Received) (rest : List ℕ) → answer_in bound (converse_stage bound g t) stream ≡ Ok (r, rest) → IsNamed r
named_received bound g t stream r rest is = gives_answer IsNamed bound (converse_stage bound g t) stream r rest (converse_named bound g t) is
