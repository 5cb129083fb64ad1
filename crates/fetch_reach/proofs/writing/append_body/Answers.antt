use Rattle.std.proofs.Common.{◌≡◌, ◌<◌, ◌^◌, ◌+◌, ℕ, List, [], ◌++◌, Option, Some, None, length, take, get_or, append_assoc, sym, ap, subst, ◌∙◌, arith}
use Rattle.std.specs.Prelude.{option_map}
use Rattle.std.specs.List.{flat_map, AllByRecursion}
use Rattle.std.specs.FinMap.{get}
use Rattle.std.proofs.lemmas.List.{append-nil, length-map, take_all}
use Rattle.std.proofs.lemmas.List.Elements.{All-contains}
use Rattle.fetch_base.specs.declared.id.ObjectId.{ObjectId}
use Rattle.fetch_base.specs.declared.id.ObjectId.TheVariants.{Sha1}
use Rattle.fetch_objects.specs.Objects.{Stored}
use Rattle.fetch_objects.specs.References.{seen}
use Rattle.fetch_pack.specs.Records.{head_of, record_text, limit_of, payload_of, payloads_of, under_its_id, under_their_ids}
use Rattle.fetch_pack.specs.Texts.{Keeps}
use Rattle.fetch_pack.proofs.Growing.{keeps_front}
use Rattle.fetch_reach.specs.Named.{own_id}
use Rattle.fetch_reach.specs.Stored.{objects_at}
use Rattle.fetch_reach.proofs.Written.{as_many, next_object, object_among, next_record, they_fit, one_more_fits}
use Rattle.fetch_reach.proofs.writing.append_body.Goals as goal
use Rattle.fetch_reach.proofs.writing.append_body.Goals.{in-Some+in_ok-append_record, in_default}

pub overflow_cast-ids : goal.overflow_cast-ids
overflow_cast-ids c = omega (arith, c.requires.fits.count, as_many c.args.store.now.objects c.args.ids.now c.requires.own)

pub loop-id-init : goal.loop-id-init
loop-id-init c = record {
  text =
      c.in_ok-append_head.ensures.head ∙ ap (λ (t : List ℕ). c.args.out.now.items ++ t) (sym (append-nil (head_of c.args.version (length c.args.ids.now))));
  fits = tt;
}

pub append_record-requires : goal.append_record-requires
append_record-requires c = λ first.
    All-contains (λ o. length o.bytes < 2 ^ 32) (objects_at c.args.store.now.objects c.args.ids.now) (seen c.in-Some.object) (c.requires.fits.short first)
    (object_among c.args.store.now.objects c.args.ids.now c.loop-id.id-index (Sha1 []) (seen c.in-Some.object) (omega (arith, c.loop-id-test.true)) (sym c.in-Some.ensures.object))

pub loop-id-preserved : goal.loop-id-preserved
loop-id-preserved c =
    let v = c.args.version in
    let objects = c.args.store.now.objects in
    let hash = c.args.store.now.hash in
    let ids = c.args.ids.now in
    let i = c.loop-id.id-index in
    let lt : i < length ids = omega (arith, c.loop-id-test.true) in
    let own = c.requires.own i (Sha1 []) lt in
    let os = objects_at objects (take i ids) in
    let head = head_of v (length ids) in
    let old = c.args.out.now.items in
    let records : List Stored → List ℕ = λ xs. flat_map (record_text v) (under_their_ids v hash (payloads_of xs)) in
    elim c.match-get.branch [
      | in-Some+in_ok-append_record w ↦
          (let o = seen w.in-Some.object in
          let is : get objects (get_or ids i (Sha1 [])) ≡ Some o = sym w.in-Some.ensures.object in
          let same : own.object ≡ o = let e : Some own.object ≡ Some o = sym own.stored ∙ is in cc in
          let next = next_object objects ids i (Sha1 []) o lt is in
          let before : c.loop-id.out.items ≡ (old ++ head) ++ records os = c.loop-id.invariant.text ∙ sym (append_assoc old head (records os)) in
          record {
            text =
                ap (λ v. v.items) w.out-is ∙ w.in_ok-append_record.ensures.record
                ∙ next_record v hash c.loop-id.out.items (old ++ head) os o (get_or ids i (Sha1 [])) (c.requires.of_hash.each _ o is) (own.own ∙ ap own_id same) before
                ∙ ap (λ xs. (old ++ head) ++ records xs) (sym next) ∙ append_assoc old head (records (objects_at objects (take (i + 1) ids)));
            fits = subst (λ xs. AllByRecursion (λ x. length x.bytes < limit_of v) xs) (sym next) (one_more_fits v os o c.loop-id.invariant.fits w.in_ok-append_record.ensures.fits);
          })
      | in_default w ↦ (let none : ◌≡◌ {A = Option Stored} None (Some own.object) = ap (option_map seen) (sym w.in_default.is) ∙ c.get.ensures.object ∙ own.stored in absurd cc)
    ]

pub returns-in_err-append_record-clause-keeps : goal.returns-in_err-append_record-clause-keeps
returns-in_err-append_record-clause-keeps c =
    let so_far = head_of c.args.version (length c.args.ids.now)
    ++ flat_map (record_text c.args.version) (under_their_ids c.args.version c.args.store.now.hash (payloads_of (objects_at c.args.store.now.objects (take c.loop-id.id-index c.args.ids.now)))) in
    keeps_front c.args.out.now.items so_far c.append_record.new.out.items
    (subst (λ (t : List ℕ). Keeps t c.append_record.new.out.items) c.loop-id.invariant.text c.in_err-append_record.ensures.keeps)

pub returns-clause-body : goal.returns-clause-body
returns-clause-body c =
    let v = c.args.version in
    let hash = c.args.store.now.hash in
    let objects = c.args.store.now.objects in
    let ids = c.args.ids.now in
    let old = c.args.out.now.items in
    let os = objects_at objects ids in
    let all : take c.loop-id.id-index ids ≡ ids = take_all c.loop-id.id-index ids (omega (arith, c.loop-id-test.false)) in
    let count : length ids ≡ length (under_their_ids v hash (payloads_of os)) =
    sym (length-map (payloads_of os) (under_its_id v hash) ∙ length-map os payload_of ∙ as_many objects ids c.requires.own) in
    c.loop-id.invariant.text
    ∙ ap (λ (xs : List ObjectId). old ++ (head_of v (length ids) ++ flat_map (record_text v) (under_their_ids v hash (payloads_of (objects_at objects xs))))) all
    ∙ ap (λ (n : ℕ). old ++ (head_of v n ++ flat_map (record_text v) (under_their_ids v hash (payloads_of os)))) count

pub returns-clause-fits : goal.returns-clause-fits
returns-clause-fits c =
    let v = c.args.version in
    let objects = c.args.store.now.objects in
    let ids = c.args.ids.now in
    let all : take c.loop-id.id-index ids ≡ ids = take_all c.loop-id.id-index ids (omega (arith, c.loop-id-test.false)) in
    they_fit v (objects_at objects ids) c.requires.fits.count (subst (λ xs. AllByRecursion (λ o. length o.bytes < limit_of v) (objects_at objects xs)) all c.loop-id.invariant.fits)
