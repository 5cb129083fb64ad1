-- Remotes that lead to a tracking branch.
use Rattle.std.proofs.Common.{◌≡◌, ℕ, Bool, List, [], ◌∷◌, ◌++◌, Result, Err, ap, ◌∙◌}
use Rattle.std.specs.Bool.{OnFalse}
use Rattle.std.specs.Prelude.{if◌then◌else◌}
use Rattle.std.specs.Result.{result_map_both}
use Rattle.fetch_lookup.specs.declared.find.Error.{Error as FindError}
use Rattle.fetch_lookup.specs.declared.find.Error.TheVariants as finding
use Rattle.fetch_lookup.specs.declared.leading.Leading.{Leading}
use Rattle.fetch_lookup.specs.declared.remote.RemoteParts.{RemoteParts}
use Rattle.fetch_lookup.specs.Remotes as remotes
use Rattle.fetch_lookup.specs.Upstreams as spec

pub told-if : (l : Leading) (old new : List (List ℕ)) (b t : Bool) → new ≡ old ++ (if b then l.name ∷ [] else []) → b ≡ t → new ≡ old ++ (if t then l.name ∷ [] else [])
told-if l old new b t is same = is ∙ ap (λ x. old ++ (if x then l.name ∷ [] else [])) same

-- a refusal of finding, as it is told
pub find-refused : (tracking name : List ℕ) (x : Result RemoteParts FindError) (e : FindError) → OnFalse (remotes.is_memory e) (x ≡ Err e) → OnFalse (spec.is_memory (spec.find_refusal e)) (result_map_both (spec.leading_by tracking name) spec.find_refusal x ≡ Err (spec.find_refusal e))
find-refused tracking name x (finding.TagOpt value) h = ap (result_map_both (spec.leading_by tracking name) spec.find_refusal) h
find-refused tracking name x (finding.Url kind remote) h = ap (result_map_both (spec.leading_by tracking name) spec.find_refusal) h
find-refused tracking name x (finding.RefSpec kind remote source) h = ap (result_map_both (spec.leading_by tracking name) spec.find_refusal) h
find-refused tracking name x finding.NoMemory h = tt
