use Rattle.std.proofs.Common.{◌≡◌, ℕ, List, ◌++◌, ap, ◌∙◌, drop, arith}
use Rattle.std.proofs.lemmas.List.{drop-append-le}
use Rattle.fetch_wire.specs.contracts.session.conversation.Session.{the_view}
use Rattle.fetch_wire.proofs.Conversing.{listed_is}
use Rattle.fetch_wire.proofs.session.conversation.Session.ask_listing.Goals as goal

pub returns-in_ok-found-in-Ok-clause-asked : goal.returns-in_ok-found-in-Ok-clause-asked
returns-in_ok-found-in-Ok-clause-asked c =
    let self = c.self.inside in
    let text = c.deref.result.now in
    let grown : c.extend_from_slice.new.self.items ≡ c.reserve.new.self.items ++ text = rw c.unwrap.ensures at c.extend_from_slice.ensures.items in
    let same = ap (λ (l : List ℕ). l ++ text) c.in_ok-reserve-in-Ok.ensures.items in
    let out = ap (drop self.sent) (grown ∙ same) ∙ drop-append-le self.sent self.outgoing.items text (omega (arith, c.self.invariant, self.outgoing.ok)) in
    let fits = rw (← c.self.view_is) at c.in-Ok.ensures.fits in
    let is = rw (← c.self.view_is) at c.in-Ok.ensures.text in
    rw (← c.self.view_is, c.store.ensures, out)
    (listed_is (the_view self) c.args.handshake text c.start.new.self c.in_ok-found-in-Ok.found fits c.in-Ok.ensures.offered (c.deref.ensures.value ∙ is) c.in_ok-found-in-Ok.ensures.read)
