use Rattle.std.proofs.Common.{ap, ◌∙◌, ◌++◌, ◌∷◌, []}
use Rattle.std.proofs.lemmas.Result.{on_ok_weaker}
use Rattle.fetch_config.specs.Contents.{with_sections}
use Rattle.fetch_config.specs.declared.meta.Meta.{Meta}
use Rattle.fetch_create.specs.Versioned.{empty_section}
use Rattle.fetch_create.proofs.Settings.{pushed}
use Rattle.fetch_create.proofs.versioning.push_new.Goals as goal
use Rattle.fetch_create.proofs.versioning.push_new.Goals.{in-Ok, in-Err}

pub returns : goal.returns
returns c =
    let file = c.args.file.now in
    let name = c.args.name.now in
    elim c.match-push_section.branch [
      | in-Ok w ↦ rw (w.result-is, w.file-is) (on_ok_weaker w.push_at.result (pushed name c.args.key.now c.args.value.now file _ w.push_at.new.file _ (w.in-Ok.ensures.ok ∙ ap (λ (m : Meta). with_sections file (file.sections ++ empty_section m name ∷ [])) (c.in_ok-meta.ensures ∙ c.meta.ensures)) w.in-Ok.ensures.index) w.push_at.ensures)
      | in-Err w ↦ rw w.result-is tt
    ]
