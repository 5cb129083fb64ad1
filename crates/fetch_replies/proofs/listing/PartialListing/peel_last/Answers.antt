use Rattle.std.proofs.Common.{ℕ, List, [], ◌∷◌, ◌++◌, ◌∙◌, ap}
use Rattle.std.specs.Str.{bytes_eq}
use Rattle.fetch_lines.specs.declared.listings.reference.Ref.{Ref}
use Rattle.fetch_replies.proofs.Peeling.{peeled_last}
use Rattle.fetch_replies.proofs.listing.PartialListing.peel_last.Goals as goal

pub returns : goal.returns
returns c =
    let was = c.in-Some.ensures.items in
    let is = c.eq-is_last.ensures ∙ ap (λ (n : List ℕ). bytes_eq n c.args.name.now) c.unpack.ensures.name in
    let now = c.push_reserved.ensures.items ∙ ap (λ (r : Ref). c.pop.new.self.items ++ r ∷ []) c.peel_if.ensures in
    rw (← c.self.view_is) (peeled_last c.args.id c.args.name.now c.self.inside.refs.items c.pop.new.self.items c.push_reserved.new.self.items c.in-Some.last c.eq-is_last.result was is now)
