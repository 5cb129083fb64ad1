use Rattle.std.proofs.Common.{◌≡◌, ◌+◌, ◌-◌, ◌<◌, ℕ, List, map, drop, length, sym, ap, subst, ◌∙◌, arith}
use Rattle.fetch_specs.specs.declared.matching.Item.{Item}
use Rattle.fetch_specs.specs.Exact.{place_from}
use Rattle.fetch_specs.proofs.Keys.{from}
use Rattle.fetch_specs.proofs.Exactly.{Puts, place-more}
use Rattle.fetch_specs.proofs.lookup.places_of.Goals as goal

pub loop-left-preserved : goal.loop-left-preserved
loop-left-preserved c =
    let m = c.loop-left.invariant in
    let within = m.within in
    let more = c.loop-left-test.true in
    let items = c.args.items.now in
    let left = c.loop-left.left - 1 in
    let item = c.index-items-left.result in
    let old = c.loop-left.places.entries in
    let new = c.insert.new.self.entries in
    let low : left < length items = omega (arith, within, more) in
    let next : c.loop-left.left ≡ left + 1 = omega (arith, more) in
    let puts : Puts item.full_ref_name left old new = subst (λ (k : List ℕ). Puts k left old new) (c.in_ok-try_clone.ensures ∙ ap (λ (item : Item). item.full_ref_name) (sym c.index-items-left.is)) c.in_ok-insert.ensures.updates.0 in
    record {
      within = omega (arith, within);
      has = λ text.
          place-more text item.full_ref_name (map (λ (item : Item). item.full_ref_name) (drop (left + 1) items)) left old new puts
          (m.has text ∙ ap (λ (k : ℕ). place_from k text (map (λ (item : Item). item.full_ref_name) (drop k items))) next)
          ∙ ap (λ (xs : List Item). place_from left text (map (λ (item : Item). item.full_ref_name) xs)) (sym (from items left item low c.index-items-left.is));
    }
