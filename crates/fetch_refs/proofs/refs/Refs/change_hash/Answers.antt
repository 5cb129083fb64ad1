use Rattle.std.proofs.Common.{refl, ap, ◌∙◌, sym}
use Rattle.fetch_refs.specs.Contents.{shown_in}
use Rattle.fetch_refs.specs.Hashing.{of_hash}
use Rattle.fetch_refs.specs.Names.{RefsValue}
use Rattle.fetch_refs.specs.Packed.{packed_text}
use Rattle.fetch_refs.proofs.Packs.{no_text}
use Rattle.fetch_refs.proofs.Sifted.{all_three}
use Rattle.fetch_refs.proofs.refs.Refs.change_hash.Goals as goal

pub invariant_of-self : goal.invariant_of-self
invariant_of-self c = c.from.ensures ∙ c.new.ensures.items ∙ no_text ∙ ap packed_text (sym c.unpack_all.ensures.packed)

pub returns : goal.returns
returns c =
    let r : RefsValue = shown_in c.self.inside.contents in
    all_three c.args.kind c.unpack_all.ensures.names (refl {a = r.logs}) c.unpack_all.ensures.packed ∙ ap (of_hash c.args.kind) c.self.view_is
