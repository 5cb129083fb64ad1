use Rattle.std.proofs.Common.{◌≡◌, Bool, true, false, not, refl, sym, ◌∙◌}
use Rattle.std.specs.Prelude.{◌&&◌}
use Rattle.std.specs.List.{list_any}
use Rattle.fetch_map.specs.declared.mapping.RefMap.{RefMap}
use Rattle.fetch_conversation.specs.ConverseStage.{names_one, specs_of}
use Rattle.fetch_conversation.specs.ListStage.{is_nil}
use Rattle.fetch_conversation.proofs.Nil.{nil_by}
use Rattle.fetch_conversation.proofs.refusals.is_unmapped.Goals as goal

no_refs : (unmapped none named : Bool) → none ≡ true → false ≡ (unmapped && not none && named)
no_refs true true named is = refl
no_refs false true named is = refl
no_refs unmapped false named is = absurd (cc)

no_mappings : (unmapped none named : Bool) → none ≡ false → unmapped ≡ true → named ≡ (unmapped && not none && named)
no_mappings true false named is test = refl
no_mappings unmapped true named is test = absurd (cc)
no_mappings false false named is test = absurd (cc)

some_mappings : (unmapped none named : Bool) → unmapped ≡ false → false ≡ (unmapped && not none && named)
some_mappings false none named is = refl
some_mappings true none named is = absurd (cc)

pub returns-then-is_empty : goal.returns-then-is_empty
returns-then-is_empty c =
    let m : RefMap = c.args.map.now in
    no_refs (is_nil m.mappings) (is_nil m.remote_refs) (list_any names_one (specs_of m)) (sym (nil_by m.remote_refs c.is_empty.result c.is_empty.ensures) ∙ c.if-is_empty.true)
