use Rattle.std.proofs.Common.{sym, ap, ◌∙◌}
use Rattle.std.specs.List.{list_all}
use Rattle.fetch_refs.specs.Contents.{shown_in}
use Rattle.fetch_refs.specs.Packed.{packed_text}
use Rattle.fetch_refs.specs.Packing.{keeps_packed}
use Rattle.fetch_refs.proofs.Packs.{list_kept}
use Rattle.fetch_refs.proofs.pending.edit_all.Goals as goal

pub returns-then-keeps_list-clause-texts : goal.returns-then-keeps_list-clause-texts
returns-then-keeps_list-clause-texts c =
    let now = shown_in c.apply_all.new.journal.contents in
    λ text is. record {
      first = is;
      second =
          is
          ∙ ap packed_text
          (list_kept c.apply_all.new.journal.undo.items now (ap (list_all (keeps_packed now.packed)) (sym c.as_slice.ensures.value) ∙ sym c.keeps_list.ensures ∙ c.if-keeps_list.true));
    }
