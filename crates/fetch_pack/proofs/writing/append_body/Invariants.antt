use Rattle.std.proofs.Common.{◌≡◌, ◌++◌, length, take}
use Rattle.std.specs.List.{flat_map}
use Rattle.fetch_pack.specs.Records.{head_of, record_text, under_their_ids, payloads_of}
use Rattle.fetch_pack.proofs.writing.append_body.Given as goal

abbrev pub invariant-loop-object : goal.invariant-loop-object
invariant-loop-object l =
    l.out.items ≡ l.fn.out.items ++ (head_of l.version (length l.objects) ++ flat_map (record_text l.version) (under_their_ids l.version l.kind (payloads_of (take l.object-index l.objects))))
