use Rattle.std.proofs.Common.{Bool, List, ◌++◌, ap, ◌∙◌}
use Rattle.fetch_base.specs.declared.id.ObjectId.{ObjectId}
use Rattle.fetch_store.specs.Borders.{ids_of}
use Rattle.fetch_lines.specs.Requests.{when}
use Rattle.fetch_lines.specs.RequestLines.{id_lines}
use Rattle.fetch_negotiate.specs.Requests as spec
use Rattle.fetch_lines.specs.RequestWords.{include_tag, shallow_word, want_word}
use Rattle.fetch_negotiate.proofs.Lines.{four}
use Rattle.fetch_negotiate.proofs.request.push_details.Goals as goal

pub returns : goal.returns
unfolding include_tag shallow_word want_word
returns c =
    four c.args.lines.now.items (when (spec.is_included c.args.tags) include_tag) (id_lines shallow_word (ids_of c.args.border.now)) (spec.depth_lines c.args.shallow.now)
    (id_lines want_word c.args.wants.now)
    c.append_when.new.texts.items c.push_ids.new.lines.items c.push_depth.new.lines.items c.push_ids-2.new.lines.items
    (c.in_ok-append_when.ensures ∙ ap (λ (b : Bool). c.args.lines.now.items ++ when b include_tag) c.is_included.ensures)
    (c.in_ok-push_ids.ensures ∙ ap (λ (ids : List ObjectId). c.append_when.new.texts.items ++ id_lines shallow_word ids) c.commits.ensures.members)
    c.in_ok-push_depth.ensures
    c.in_ok-push_ids-2.ensures
