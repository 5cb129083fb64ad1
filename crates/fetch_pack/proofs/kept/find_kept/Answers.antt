use Rattle.std.proofs.Common.{[], Some, sym, ap, subst, ◌∙◌}
use Rattle.fetch_base.specs.declared.id.Kind.TheVariants.{Sha1}
use Rattle.fetch_base.specs.declared.id.ObjectId.{ObjectId}
use Rattle.fetch_base.specs.declared.id.ObjectId.TheVariants as ids
use Rattle.fetch_base.specs.declared.object_kind.ObjectKind.TheVariants.{Blob}
use Rattle.fetch_objects.specs.Objects.{Stored}
use Rattle.fetch_pack.specs.Places.{IsPlace}
use Rattle.fetch_pack.proofs.kept.find_kept.Goals as goal

pub returns-in-Some : goal.returns-in-Some
returns-in-Some c =
    let d : ObjectId × Stored = (ids.Sha1 [], record { hash = Sha1; kind = Blob; bytes = [] }) in
    let p : IsPlace c.args.kept.now c.args.id.now (Some c.in-Some.place) = subst (IsPlace c.args.kept.now c.args.id.now) (sym c.in-Some.ensures) (c.requires c.args.id.now) in
    ap Some (c.object_at.ensures d) ∙ sym (p.1 d)
