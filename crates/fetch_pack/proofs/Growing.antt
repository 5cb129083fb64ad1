-- Texts that grow at their ends.
use Rattle.std.proofs.Common.{◌≡◌, ℕ, ◌<◌, List, [], ◌∷◌, ◌++◌, length, take, drop, refl, sym, ap, ◌∙◌, append_assoc}
use Rattle.std.specs.List.{AllByRecursion}
use Rattle.std.proofs.lemmas.List.{take_at, take-append-drop}
use Rattle.fetch_objects.specs.Objects.{Stored}
use Rattle.fetch_pack.specs.declared.version.PackVersion.{PackVersion}
use Rattle.fetch_pack.specs.Records.{limit_of, payloads_of}
use Rattle.fetch_pack.specs.Texts.{Keeps}

pub keeps_front : (before more after : List ℕ) → Keeps (before ++ more) after → Keeps before after
keeps_front before more after keeps =
    let n = length (before ++ more) in
    let parts : after ≡ before ++ (more ++ drop n after) = sym (take-append-drop n after) ∙ ap (λ (t : List ℕ). t ++ drop n after) keeps ∙ append_assoc before more (drop n after) in
    ap (take (length before)) parts ∙ take_at before (more ++ drop n after) (length before) refl

pub objects_fit : (v : PackVersion) (os : List Stored) → AllByRecursion (λ p. length p.bytes < limit_of v) (payloads_of os) → AllByRecursion (λ o. length o.bytes < limit_of v) os
objects_fit v [] all = tt
objects_fit v (o ∷ os) all = (all.0, objects_fit v os all.1)
