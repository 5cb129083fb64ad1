use Rattle.std.proofs.Common.{◌≡◌, ◌<◌, ◌++◌, length, take}
use Rattle.std.specs.List.{flat_map, AllByRecursion}
use Rattle.fetch_pack.specs.Records.{head_of, limit_of, record_text, under_their_ids, payloads_of}
use Rattle.fetch_reach.specs.Stored.{objects_at}
use Rattle.fetch_reach.proofs.writing.append_body.Given as goal

abbrev pub invariant-loop-id : goal.invariant-loop-id
invariant-loop-id l = record {
  text : l.out.items
      ≡ l.fn.out.items ++ (head_of l.version (length l.ids) ++ flat_map (record_text l.version) (under_their_ids l.version l.store.hash (payloads_of (objects_at l.store.objects (take l.id-index l.ids)))));
  fits : AllByRecursion (λ o. length o.bytes < limit_of l.version) (objects_at l.store.objects (take l.id-index l.ids));
}
