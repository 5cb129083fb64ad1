use Rattle.std.proofs.Common.{ℕ, cond, not, ◌||◌, List, [], ◌∷◌, ◌++◌, ap, ◌∙◌}
use Rattle.fetch_base.specs.Hashing.{digest}
use Rattle.fetch_base.specs.declared.id.Kind.TheVariants.{Sha256}
use Rattle.fetch_lines.specs.declared.listings.reference.Ref.{Ref}
use Rattle.fetch_replies.specs.Listings.{is_listed}
use Rattle.fetch_replies.proofs.Listed.{grown}
use Rattle.fetch_replies.proofs.listing.PartialListing.add.Goals as goal

pub invariant_of-self-2 : goal.invariant_of-self-2
invariant_of-self-2 c =
    (grown c.self.inside.refs.items c.self.inside.digests c.insert.new.self c.args.reference c.digest-digest.result c.in_ok-is_new_digest.is_new_digest c.is_new-is_new.result c.push_if.new.refs.items
    c.self.invariant (c.digest-digest.ensures ∙ ap (λ (n : List ℕ). digest Sha256 n) c.unpack.ensures.name) c.in_ok-is_new_digest.ensures.added c.in_ok-is_new_digest.ensures.updates
    (c.is_new-is_new.ensures ∙ ap (λ (xs : List Ref). c.in_ok-is_new_digest.is_new_digest || not (is_listed xs c.args.reference)) (c.as_slice.ensures.value ∙ c.in_ok-reserve.ensures.items))
    (c.push_if.ensures ∙ ap (λ (xs : List Ref). cond c.is_new-is_new.result (xs ++ c.args.reference ∷ []) xs) c.in_ok-reserve.ensures.items)).has

pub returns-clause-new : goal.returns-clause-new
returns-clause-new c =
    (grown c.self.inside.refs.items c.self.inside.digests c.insert.new.self c.args.reference c.digest-digest.result c.in_ok-is_new_digest.is_new_digest c.is_new-is_new.result c.push_if.new.refs.items
    c.self.invariant (c.digest-digest.ensures ∙ ap (λ (n : List ℕ). digest Sha256 n) c.unpack.ensures.name) c.in_ok-is_new_digest.ensures.added c.in_ok-is_new_digest.ensures.updates
    (c.is_new-is_new.ensures ∙ ap (λ (xs : List Ref). c.in_ok-is_new_digest.is_new_digest || not (is_listed xs c.args.reference)) (c.as_slice.ensures.value ∙ c.in_ok-reserve.ensures.items))
    (c.push_if.ensures ∙ ap (λ (xs : List Ref). cond c.is_new-is_new.result (xs ++ c.args.reference ∷ []) xs) c.in_ok-reserve.ensures.items)).new
    ∙ ap (λ (xs : List Ref). not (is_listed xs c.args.reference)) c.self.view_is

pub returns-clause-added : goal.returns-clause-added
returns-clause-added c =
    (grown c.self.inside.refs.items c.self.inside.digests c.insert.new.self c.args.reference c.digest-digest.result c.in_ok-is_new_digest.is_new_digest c.is_new-is_new.result c.push_if.new.refs.items
    c.self.invariant (c.digest-digest.ensures ∙ ap (λ (n : List ℕ). digest Sha256 n) c.unpack.ensures.name) c.in_ok-is_new_digest.ensures.added c.in_ok-is_new_digest.ensures.updates
    (c.is_new-is_new.ensures ∙ ap (λ (xs : List Ref). c.in_ok-is_new_digest.is_new_digest || not (is_listed xs c.args.reference)) (c.as_slice.ensures.value ∙ c.in_ok-reserve.ensures.items))
    (c.push_if.ensures ∙ ap (λ (xs : List Ref). cond c.is_new-is_new.result (xs ++ c.args.reference ∷ []) xs) c.in_ok-reserve.ensures.items)).added
    ∙ ap (λ (xs : List Ref). cond (is_listed xs c.args.reference) xs (xs ++ c.args.reference ∷ [])) c.self.view_is
