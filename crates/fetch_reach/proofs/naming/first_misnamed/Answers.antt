use Rattle.std.proofs.Common.{◌≡◌, ◌∷◌, ◌++◌, [], append_assoc, true≢false, All, sym, ap, subst, ◌∙◌}
use Rattle.std.specs.FinMap.{entries}
use Rattle.std.proofs.lemmas.List.{append-nil}
use Rattle.std.proofs.lemmas.List.Elements.{All-append, All-cons, All-nil}
use Rattle.fetch_base.specs.Hashing.{id_of}
use Rattle.fetch_store.specs.Iter.{left, shown}
use Rattle.fetch_reach.specs.Named.{own_id}
use Rattle.fetch_reach.proofs.OwnIds.{IsOwn, all_own, first_misnamed, hash_behind}
use Rattle.fetch_reach.proofs.naming.first_misnamed.Goals as goal

pub returns-then-not-same_id : goal.returns-then-not-same_id
returns-then-not-same_id c =
    let i = c.loop-id.invariant in
    let m = c.args.store.now.objects in
    let e = shown (c.in-Some.id, c.in-Some.object) in
    let split : entries m ≡ i.before ++ e ∷ left c.next.new.self = i.split ∙ ap (λ es. i.before ++ es) c.in-Some.ensures.steps in
    let of_hash = hash_behind c.args.store.now.hash m i.before e (left c.next.new.self) split c.iter-objects.ensures.of_hash in
    let named : c.id_of-own.result ≡ own_id e.1 =
    c.id_of-own.ensures ∙ ap (λ h. id_of h c.kind-in-Some.result c.bytes.result.now) (c.kind.ensures.kind ∙ sym of_hash)
    ∙ ap (λ k. id_of e.1.hash k c.bytes.result.now) c.kind-in-Some.ensures ∙ ap (λ b. id_of e.1.hash e.1.kind b) c.bytes.ensures in
    first_misnamed m i.before e (left c.next.new.self) split i.own (λ same. true≢false (sym (c.same_id.ensures.1 (same ∙ sym named)) ∙ c.if-not-same_id.true))

pub returns : goal.returns
returns c =
    let i = c.loop-id.invariant in
    let m = c.args.store.now.objects in
    all_own m (subst (All IsOwn) (sym (i.split ∙ ap (λ es. i.before ++ es) c.in_default.ensures.steps.0 ∙ append-nil i.before)) i.own)

pub loop-id-preserved : goal.loop-id-preserved
loop-id-preserved c =
    let i = c.loop-id.invariant in
    let m = c.args.store.now.objects in
    let e = shown (c.in-Some.id, c.in-Some.object) in
    let rest = left c.next.new.self in
    let split : entries m ≡ i.before ++ e ∷ rest = i.split ∙ ap (λ es. i.before ++ es) c.in-Some.ensures.steps in
    let of_hash = hash_behind c.args.store.now.hash m i.before e rest split c.iter-objects.ensures.of_hash in
    let named : c.id_of-own.result ≡ own_id e.1 =
    c.id_of-own.ensures ∙ ap (λ h. id_of h c.kind-in-Some.result c.bytes.result.now) (c.kind.ensures.kind ∙ sym of_hash)
    ∙ ap (λ k. id_of e.1.hash k c.bytes.result.now) c.kind-in-Some.ensures ∙ ap (λ b. id_of e.1.hash e.1.kind b) c.bytes.ensures in
    record {
      before = i.before ++ e ∷ [];
      split = split ∙ sym (append_assoc i.before (e ∷ []) rest);
      own = All-append IsOwn i.before (e ∷ []) i.own (All-cons IsOwn e [] (c.same_id.ensures.0 c.if-not-same_id.false ∙ named) (All-nil IsOwn));
    }
