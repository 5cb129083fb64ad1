use Rattle.std.proofs.Common.{◌≡◌, [], length, drop, sym, ◌∙◌, arith}
use Rattle.std.proofs.lemmas.List.{same_lists, get_or-map, length-map, take_at}
use Rattle.fetch_base.specs.declared.object_kind.ObjectKind.TheVariants.{Blob}
use Rattle.fetch_objects.specs.Objects.{Stored}
use Rattle.fetch_pack.specs.Reading.{hashed, ids_of}
use Rattle.fetch_pack.proofs.hashing.hash_pieces.Goals as goal

pub returns : goal.returns
returns g c =
    let new = c.hash_into.new.ids in
    let os = c.args.objects.now in
    let o : Stored = record { hash = c.args.kind; kind = Blob; bytes = [] } in
    let before : length c.as_mut_slice.result.now ≡ c.in_ok-ids.ids.len = c.as_mut_slice.ensures.len in
    let vec : c.in_ok-ids.ids.len ≡ length os = c.in_ok-ids.ensures.len in
    let long : length new ≡ length os = omega (arith, c.hash_into.ensures.len, before, vec) in
    let whole : length new ≡ c.in_ok-ids.ids.len = omega (arith, long, vec) in
    take_at new (drop (length new) c.in_ok-ids.ids.items) c.in_ok-ids.ids.len whole
    ∙ same_lists new (ids_of c.args.kind os) (omega (arith, long, length-map os (hashed c.args.kind)))
    (λ k d lt. c.hash_into.ensures.each k d o (omega (arith, lt, c.hash_into.ensures.len)) ∙ sym (get_or-map (hashed c.args.kind) os k o d (omega (arith, lt, long))))
