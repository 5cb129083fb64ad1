use Rattle.std.proofs.Common.{◌≡◌, ◌+◌, ◌≤◌, None, All, take, drop, vec_len}
use Rattle.std.specs.Prelude.{vec_capacity}
use Rattle.std.specs.FinMap.{find}
use Rattle.fetch_base.specs.declared.id.Kind.{Kind}
use Rattle.fetch_store.specs.Stores.{AreOf, payload_len}
use Rattle.fetch_base.specs.Id.{id_cmp}
use Rattle.fetch_store.specs.Buffers.{IsIndexed, IsAppended}
use Rattle.fetch_store.proofs.buffer.append_new.Given as goal

abbrev pub invariant-loop-id : goal.invariant-loop-id
invariant-loop-id l = record {
  appended : (hash : Kind) → IsIndexed hash l.fn.buffer.items l.index → AreOf hash l.objects → IsAppended hash l.index l.fn.buffer.items l.buffer.items l.fresh.items (take l.id-index l.objects);
  new_ids : All (λ e. find id_cmp e.0 l.index ≡ None) l.fresh.items;
  len : vec_len l.fresh ≤ l.id-index;
  room : vec_len l.buffer + payload_len (drop l.id-index l.objects) ≤ vec_len l.fn.buffer + payload_len l.objects;
  grown : vec_len l.fn.buffer ≤ vec_len l.buffer;
  capacity : vec_capacity l.fn.buffer ≤ vec_capacity l.buffer;
  fresh_capacity : vec_capacity l.fresh ≡ vec_capacity l.fn.fresh;
}
