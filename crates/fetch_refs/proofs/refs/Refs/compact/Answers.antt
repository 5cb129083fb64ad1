use Rattle.std.proofs.Common.{refl, sym, ap, ◌∙◌}
use Rattle.fetch_refs.specs.Contents.{shown_in}
use Rattle.fetch_refs.specs.Names.{RefsValue}
use Rattle.fetch_refs.specs.Packed.{all_direct, packed_text}
use Rattle.fetch_refs.proofs.Packs.{direct_list}
use Rattle.fetch_refs.proofs.Sifted.{all_three}
use Rattle.fetch_refs.proofs.refs.Refs.compact.Goals as goal

pub invariant_of-self : goal.invariant_of-self
invariant_of-self c = c.in_ok-text.ensures ∙ ap packed_text (direct_list c.self.inside.contents.names.entries ∙ sym c.pack_all.ensures.packed)

pub returns-clause-ok : goal.returns-clause-ok
returns-clause-ok c =
    let r : RefsValue = shown_in c.self.inside.contents in
    all_three r.hash c.pack_all.ensures.names (refl {a = r.logs}) c.pack_all.ensures.packed
    ∙ ap (λ (v : RefsValue). record { hash = v.hash; names = v.names; logs = v.logs; packed = all_direct v.names }) c.self.view_is
