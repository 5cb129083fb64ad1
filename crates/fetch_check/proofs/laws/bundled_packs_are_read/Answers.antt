use Rattle.std.proofs.Common.{List, ap, ◌∙◌}
use Rattle.fetch_objects.specs.Objects.{Stored}
use Rattle.fetch_pack.specs.Reading.{read}
use Rattle.fetch_pack.specs.Records.{pack_text, payloads_of}
use Rattle.fetch_pack.specs.declared.version.PackVersion.TheVariants.{V2}
use Rattle.fetch_reach.proofs.Written.{is_read}
use Rattle.fetch_check.proofs.Bundling.{objects_only, reached_own}
use Rattle.fetch_check.proofs.laws.bundled_packs_are_read.Goals as goal

pub returns : goal.returns
returns c = λ hash names h ids of_hash valid own reached fits.
    ap (λ (os : List Stored). read hash (pack_text V2 hash (payloads_of os))) (objects_only h.objects ids)
    ∙ is_read h.objects hash of_hash V2 ids valid reached.ascending (reached_own names h ids own reached) fits
