use Rattle.std.proofs.Common.{refl, ◌+◌, ◌-◌, ◌/◌, subst, sym, arith, List}
use Rattle.fetch_objects.specs.Objects.{Stored}
use Rattle.fetch_pack.specs.Records.{Fits, payloads_of}
use Rattle.fetch_pack.specs.declared.version.PackVersion.TheVariants.{V1}
use Rattle.fetch_bench.proofs.Halves.{in_two_steps, commits_fit, stream_if}
use Rattle.fetch_bench.proofs.generated.server_stream.Goals as goal

pub pack_of-requires : goal.pack_of-requires
pack_of-requires c =
    let n = c.args.count in
    let more = (n + 1) / 2 - n / 2 in
    let count = n - n / 2 - more in
    let given = in_two_steps (n / 2) more count _ _ _ c.new-rest.ensures.items c.in_ok-old.ensures.commits c.in_ok-main.ensures.commits in
    subst (λ (os : List Stored). Fits V1 (payloads_of os)) (sym given) (commits_fit (n / 2) (more + count) (omega arith))

pub returns : goal.returns
returns c =
    let n = c.args.count in
    let more = (n + 1) / 2 - n / 2 in
    let count = n - n / 2 - more in
    let given = in_two_steps (n / 2) more count _ _ _ c.new-rest.ensures.items c.in_ok-old.ensures.commits c.in_ok-main.ensures.commits in
    stream_if c.stream_of.result (λ stream. stream.items) n (n / 2) more count c.in_ok-main.main c.in_ok-old.old _ _ refl (omega arith) (omega arith) (omega arith) c.in_ok-old.ensures.tip c.in_ok-main.ensures.tip given c.in_ok-pack.ensures c.stream_of.ensures
