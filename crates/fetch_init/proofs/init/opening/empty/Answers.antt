use Rattle.std.proofs.Common.{◌≡◌, Some, IfErr, IfOk, subst}
use Rattle.fetch_remote.specs.Repositories.{IsOpenRefusal, setup_in, setup_of, state_in, state_of}
use Rattle.fetch_remote.specs.declared.repository.Parts.{Parts}
use Rattle.fetch_init.proofs.init.opening.empty.Goals as goal

pub returns-clause-state : goal.returns-clause-state
returns-clause-state c = subst (λ (p : Parts). IfOk c.from_parts.result (λ repo. state_of repo ≡ state_in p)) c.parts_with.ensures.parts c.from_parts.ensures.state

pub returns-clause-setup : goal.returns-clause-setup
returns-clause-setup c = subst (λ (p : Parts). IfOk c.from_parts.result (λ repo. setup_in p ≡ Some (setup_of repo))) c.parts_with.ensures.parts c.from_parts.ensures.setup

pub returns-clause-refused : goal.returns-clause-refused
returns-clause-refused c = subst (λ (p : Parts). IfErr c.from_parts.result (IsOpenRefusal p.options.api_config_overrides)) c.parts_with.ensures.parts c.from_parts.ensures.refused
