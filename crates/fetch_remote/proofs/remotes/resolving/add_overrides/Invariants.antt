use Rattle.std.proofs.Common.{◌≡◌, drop}
use Rattle.std.specs.Prelude.{find, not}
use Rattle.fetch_remote.specs.RepositoryValues.{is_override, are_overrides, with_overrides}
use Rattle.fetch_remote.proofs.remotes.resolving.add_overrides.Given as goal

-- What is left of the overrides, added to what stands now, is all of them, added to what stood.
abbrev pub invariant-loop-text : goal.invariant-loop-text
invariant-loop-text l = record {
  config : with_overrides l.config (drop l.text-index l.overrides) ≡ with_overrides l.initial.config l.overrides;
  read : are_overrides (drop l.text-index l.overrides) ≡ are_overrides l.overrides;
  refused : find (λ text. not (is_override text)) (drop l.text-index l.overrides) ≡ find (λ text. not (is_override text)) l.overrides;
}
