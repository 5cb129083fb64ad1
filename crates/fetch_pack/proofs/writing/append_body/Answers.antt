use Rattle.std.proofs.Common.{◌≡◌, ◌<◌, ℕ, List, ◌++◌, length, take, sym, ap, subst, ◌∙◌, arith}
use Rattle.std.specs.List.{flat_map}
use Rattle.std.proofs.lemmas.List.{append-nil, length-map, take_all}
use Rattle.std.proofs.lemmas.List.Elements.{All-from_recursion}
use Rattle.fetch_objects.specs.Objects.{Stored}
use Rattle.fetch_pack.specs.Records.{limit_of, head_of, record_text, payload_of, payloads_of, under_its_id, under_their_ids}
use Rattle.fetch_pack.specs.Texts.{Keeps}
use Rattle.fetch_pack.proofs.Growing.{keeps_front, objects_fit}
use Rattle.fetch_pack.proofs.writing.append_body.Goals as goal

pub loop-object-init : goal.loop-object-init
loop-object-init c =
    c.in_ok-append_head.ensures.head ∙ ap (λ (t : List ℕ). c.args.out.now.items ++ t) (sym (append-nil (head_of c.args.version (length c.args.objects.now))))

pub append_record-requires : goal.append_record-requires
append_record-requires c =
    rw c.object-item.is (All-from_recursion (λ o. length o.bytes < limit_of c.args.version) c.args.objects.now (objects_fit c.args.version c.args.objects.now c.requires.each) c.loop-object.object-index _ c.loop-object-test.true)

pub returns-in_err-append_record-clause-keeps : goal.returns-in_err-append_record-clause-keeps
returns-in_err-append_record-clause-keeps c =
    let so_far = head_of c.args.version (length c.args.objects.now)
    ++ flat_map (record_text c.args.version) (under_their_ids c.args.version c.args.kind (payloads_of (take c.loop-object.object-index c.args.objects.now))) in
    keeps_front c.args.out.now.items so_far c.append_record.new.out.items
    (subst (λ (t : List ℕ). Keeps t c.append_record.new.out.items) c.loop-object.invariant c.in_err-append_record.ensures.keeps)

pub returns-clause-body : goal.returns-clause-body
returns-clause-body c =
    let v = c.args.version in
    let old = c.args.out.now.items in
    let os = c.args.objects.now in
    let all : take c.loop-object.object-index os ≡ os = take_all c.loop-object.object-index os (omega (arith, c.loop-object-test.false)) in
    let count : length os ≡ length (under_their_ids v c.args.kind (payloads_of os)) = sym (length-map (payloads_of os) (under_its_id v c.args.kind) ∙ length-map os payload_of) in
    c.loop-object.invariant
    ∙ ap (λ (xs : List Stored). old ++ (head_of v (length os) ++ flat_map (record_text v) (under_their_ids v c.args.kind (payloads_of xs)))) all
    ∙ ap (λ (n : ℕ). old ++ (head_of v n ++ flat_map (record_text v) (under_their_ids v c.args.kind (payloads_of os)))) count
