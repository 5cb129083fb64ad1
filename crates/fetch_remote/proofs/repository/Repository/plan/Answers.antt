use Rattle.std.proofs.Common.{ap, ◌∙◌}
use Rattle.fetch_lookup.specs.Removed.{without_branches}
use Rattle.fetch_remote.specs.Deleting.{lock_path}
use Rattle.fetch_remote.specs.Repositories.{setup_of}
use Rattle.fetch_remote.proofs.Deletions.{planned, sections_planned, text_planned}
use Rattle.fetch_remote.proofs.repository.Repository.plan.Goals as goal

pub returns-clause-plan : goal.returns-clause-plan
returns-clause-plan c = record {
  sections = sections_planned c.args.names.now c.args.file c.in_ok-branches.branches.keys _ c.in_ok-branches.ensures c.has_branch_sections.ensures c.if-not-has_branch_sections.false;
  lock = c.in_ok-in_directory.ensures ∙ ap lock_path c.git_dir.ensures;
  text = text_planned c.args.names.now c.args.file c.in_ok-branches.branches.keys _ c.in_ok-branches.ensures c.in_ok-text_without.ensures;
  local = planned c.args.names.now (setup_of c.args.self.now) c.in_ok-branches.branches.keys c.without_branch_sections.new.file _ _ c.in_ok-branches.ensures (c.without_branch_sections.ensures ∙ ap (without_branches c.in_ok-branches.branches.keys) (c.in_ok-local.ensures ∙ c.local.ensures)) c.in_ok-resolve_local.ensures.file c.in_ok-resolve_local.ensures.config;
}
