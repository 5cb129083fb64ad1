use Rattle.std.proofs.Common.{◌≡◌, ℕ, ◌+◌, ◌<◌, length, get_or, Bool, List, ◌++◌, drop, map, Option, sym, ap, ap₂, ◌∙◌}
use Rattle.std.proofs.lemmas.List.{drop_all, get_or-map}
use Rattle.fetch_specs.specs.declared.matching.Item.{Item}
use Rattle.fetch_specs.specs.declared.found.Match.{Match}
use Rattle.fetch_specs.specs.Matches.{added_all, found, is_excluded, mapping_unless, names_from, name_matches, source_taken}
use Rattle.fetch_base.specs.declared.text.Text.{Text}
use Rattle.fetch_specs.proofs.Keys.{turn, from}
use Rattle.fetch_specs.proofs.matching.add_names_of.Goals as goal

-- what is kept of an item is what its test gave
read_at : (f : Item → Bool) (kept : List Bool) (items : List Item) (j : ℕ) (d r : Bool) (item : Item) → j < length items → kept ≡ map f items → r ≡ get_or kept j d → item ≡ get_or items j item → r ≡ f item
read_at f kept items j d r item lt is here at = here ∙ ap (λ (bs : List Bool). get_or bs j d) is ∙ get_or-map f items j item d lt ∙ ap f (sym at)

pub loop-j-preserved : goal.loop-j-preserved
loop-j-preserved c =
    let specs = c.args.names.now.specs.now in
    let items = c.args.names.now.items.now in
    let j = c.loop-j.j in
    let one = name_matches specs c.args.index c.args.spec.now in
    let rest : List Match = names_from one (j + 1) (map (λ (item : Item). item.full_ref_name) (drop (j + 1) items)) in
    let named = c.as_bytes-name.ensures ∙ ap (λ (item : Item). item.full_ref_name) (sym c.index-items-j.is) in
    let tested : c.index.result.now ≡ is_excluded specs c.index-items-j.result.full_ref_name =
    read_at (λ (item : Item). is_excluded specs item.full_ref_name) c.args.names.now.excluded.items items j _ c.index.result.now c.index-items-j.result c.loop-j-test.true c.args.names.now.tested c.index.ensures c.index-items-j.is in
    let whole : names_from one j (map (λ (item : Item). item.full_ref_name) (drop j items)) ≡ found c.in_ok-one.one ++ rest =
    ap (λ (xs : List Item). names_from one j (map (λ (item : Item). item.full_ref_name) xs)) (from items j c.index-items-j.result c.loop-j-test.true c.index-items-j.is)
    ∙ ap (λ (o : Option Match). found o ++ rest) (sym (c.in_ok-one.ensures ∙ ap₂ (λ (excluded : Bool) (name : Text). mapping_unless excluded c.args.index c.args.spec.now j name (source_taken c.args.spec.now.source name)) tested named)) in
    record {
      pairs = c.add_some.ensures.pairs ∙ c.loop-j.invariant.pairs;
      added = turn c.loop-j.found.pairs c.add_some.new.found.pairs c.loop-j.found.matches c.add_some.new.found.matches (found c.in_ok-one.one) rest _ _ c.add_some.ensures.pairs c.in_ok-add_some.ensures.added whole c.loop-j.invariant.added;
    }

pub returns-clause-added : goal.returns-clause-added
returns-clause-added c =
    sym (ap (λ (items : List Item). added_all c.loop-j.found.pairs c.loop-j.found.matches (names_from (name_matches c.args.names.now.specs.now c.args.index c.args.spec.now) c.loop-j.j (map (λ (item : Item). item.full_ref_name) items))) (drop_all c.loop-j.j c.args.names.now.items.now c.loop-j-test.false))
    ∙ c.loop-j.invariant.added
