use Rattle.std.proofs.Common.{[], Some, codes, refl, ◌∙◌}
use Rattle.std.proofs.lemmas.Result.{on_ok_weaker}
use Rattle.fetch_config.specs.Contents.{with_entry}
use Rattle.fetch_config.specs.declared.section.Section.{Section}
use Rattle.fetch_create.proofs.Branched.{entered, room}
use Rattle.fetch_create.proofs.upstream.push_branch.Goals as goal

pub push_value-requires-2 : goal.push_value-requires-2
push_value-requires-2 c =
    let s : Section = record { name = codes "branch"; sub = Some c.shorten.result.now; meta = c.in_ok-meta.meta; entries = [] } in
    room c.args.file.now c.push_section.new.self c.push_value.new.self c.in_ok-index.index s (codes "remote", Some c.args.remote.now) c.in_ok-index.ensures.ok c.in_ok-index.ensures.index c.in_ok-push_value.ensures.ok

pub returns-clause-ok : goal.returns-clause-ok
returns-clause-ok c =
    let s : Section = record { name = codes "branch"; sub = Some c.shorten.result.now; meta = c.in_ok-meta.meta; entries = [] } in
    let first = entered c.args.file.now c.push_section.new.self c.push_value.new.self c.in_ok-index.index s (codes "remote", Some c.args.remote.now) c.in_ok-index.ensures.ok c.in_ok-index.ensures.index c.in_ok-push_value.ensures.ok in
    on_ok_weaker c.push_value-2.result
    (λ ok. entered c.args.file.now c.push_value.new.self c.push_value-2.new.self c.in_ok-index.index (with_entry (codes "remote", Some c.args.remote.now) s) (codes "merge", Some c.as_bytes.result.now) first c.in_ok-index.ensures.index ok
    ∙ rw (c.in_ok-meta.ensures, c.meta.ensures, c.shorten.ensures, c.as_bytes.ensures.bytes) refl)
    c.push_value-2.ensures.ok
