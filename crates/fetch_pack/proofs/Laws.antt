-- What is read is a pack, and a pack is read.
use Rattle.std.proofs.Common.{◌≡◌, ℕ, ◌+◌, ◌-◌, ◌^◌, ◌<◌, Bool, true, false, cond, not, ◌&&◌, eqb, List, [], ◌∷◌, ◌++◌, length, map, take, drop, Option, Some, None, Result, Ok, Err, refl, sym, ap, subst, ◌∙◌, arith, eq-eqb}
use Rattle.std.specs.Prelude.{nat_eq, IfOk}
use Rattle.std.specs.List.{flat_map, AllByRecursion, starts_with}
use Rattle.std.specs.Int.{w32, to_be_bytes}
use Rattle.std.specs.FinMap as finmap
use Rattle.std.proofs.lemmas.Bool.{eqb-true}
use Rattle.std.proofs.lemmas.Bool.Decides.{Decides-eqb}
use Rattle.std.proofs.lemmas.Slice.Eq.{starts_is}
use Rattle.std.proofs.lemmas.List.{take_at, length-append, length-map, drop-drop}
use Rattle.fetch_base.specs.declared.id.Kind.{Kind}
use Rattle.fetch_base.specs.declared.id.Kind.TheVariants as kinds
use Rattle.fetch_base.specs.declared.id.ObjectId.{ObjectId}
use Rattle.fetch_base.specs.Id.{byte_len, id_of_bytes, bytes_of, kind_of, id_cmp}
use Rattle.fetch_base.specs.Hashing.{digest, id_of}
use Rattle.fetch_objects.specs.Objects.{Stored, IsObject, is_object}
use Rattle.fetch_store.specs.Stores.{Entries, collision}
use Rattle.fetch_base.proofs.Ids.{id_cmp_exact}
use Rattle.fetch_store.proofs.Finds.{ties}
use Rattle.fetch_base.proofs.Digests.{length-digest, id-digest, bytes-id}
use Rattle.std.specs.Cmp.{Equal-is}
use Rattle.fetch_pack.specs.declared.error.PackError.{PackError}
use Rattle.fetch_pack.specs.declared.error.PackError.TheVariants.{Malformed, PackDigest, IdMismatch}
use Rattle.fetch_pack.specs.declared.reading.Pack.{Pack}
use Rattle.fetch_pack.specs.declared.version.PackVersion.{PackVersion}
use Rattle.fetch_pack.specs.declared.version.PackVersion.TheVariants.{V1, V2}
use Rattle.fetch_pack.specs.Records.{Payload, Written, Records, Fits, IsRecord, AreRecords, record_text, mark, version_text, id_text, id_len, limit_of, head_of, body_of, text_of, under_its_id, under_their_ids, body, number_at, records}
use Rattle.fetch_base.specs.Answers.{AnswersBy}
use Rattle.fetch_pack.specs.Reading.{◌>>=◌, is_memory, Frame, ended, counted, version_at, versioned, structure, is_id, with_digest, record_len, stored, parsed, all_parsed, ids_of, compared, with_ids, paired, once_from, Contents, unless, distinct, read}
use Rattle.fetch_pack.specs.Views.{contents}
use Rattle.fetch_pack.specs.Packs.{entry, entries, IsPack, contents_of}
use Rattle.fetch_pack.proofs.Fields.{IsBytes, IsBytes-drop, Takes, Takes-then, number_takes, number_again, records_take, records_again}

pub bind_ok : {A B : Type 0} (r : Result A PackError) (f : A → Result B PackError) (y : B) → (r >>= f) ≡ Ok y → (x : A) × (r ≡ Ok x) × (f x ≡ Ok y)
bind_ok (Ok x) f y e = (x, refl, e)
bind_ok (Err d) f y e = absurd cc

past : {A : Type 0} (b : Bool) (d : PackError) (r : Result A PackError) (y : A) → cond (not b) (Err d) r ≡ Ok y → (b ≡ true) × (r ≡ Ok y)
past true d r y e = (refl, e)
past false d r y e = absurd cc

pub chosen : {A : Type 0} (b : Bool) (d : PackError) (x y : A) → cond b (Ok x) (Err d) ≡ Ok y → (b ≡ true) × (x ≡ y)
chosen true d x y e = (refl, cc)
chosen false d x y e = absurd cc

both : (a b : Bool) → (a && b) ≡ true → (a ≡ true) × (b ≡ true)
both true b e = (refl, e)
both false b e = absurd cc

pub same_id : (a b : ObjectId) → is_id a b ≡ true → a ≡ b
same_id a b told = id_cmp_exact a b ((Equal-is (id_cmp a b)).0 told)

-- ---- structure

pub record IsFramed (hash : Kind) (bytes : List ℕ) (f : Frame) : Type 0 where
  pub text : bytes ≡ body_of f.version f.written ++ bytes_of f.digest
  pub before : f.body ≡ body_of f.version f.written
  pub fits : AreRecords f.version hash f.written
  pub count : f.count ≡ length f.written
  pub kind : kind_of f.digest ≡ hash
  pub whole : length (bytes_of f.digest) ≡ byte_len hash

-- all before the rest
front : (bytes text rest : List ℕ) → bytes ≡ text ++ rest → take (length bytes - length rest) bytes ≡ text
front bytes text rest is =
    let n : length text ≡ length bytes - length rest = omega (arith, ap length is, length-append text rest) in
    ap (take (length bytes - length rest)) is ∙ take_at text rest (length bytes - length rest) n

pub kind-id : (hash : Kind) (bytes : List ℕ) → kind_of (id_of_bytes hash bytes) ≡ hash
kind-id kinds.Sha1 bytes = refl
kind-id kinds.Sha256 bytes = refl

ended_takes : (v : PackVersion) (hash : Kind) (bytes : List ℕ) (n : ℕ × List ℕ) (f : Frame) → Takes bytes (head_of v n.0) n.1 → n.0 < 2 ^ 32 → ended v hash bytes n.0 (records v hash n.0 n.1) ≡ Ok f → IsFramed hash bytes f
ended_takes v hash bytes n f before small e =
    let r = records v hash n.0 n.1 in
    let made : Frame = record { version = v; count = n.0; written = r.written; body = take (length bytes - length r.rest) bytes; digest = id_of_bytes hash r.rest } in
    let g = chosen (eqb (length r.written) n.0 && eqb (length r.rest) (byte_len hash)) (Malformed (length bytes - length r.rest)) made f e in
    let tests = both (eqb (length r.written) n.0) (eqb (length r.rest) (byte_len hash)) g.0 in
    let all : length r.written ≡ n.0 = eqb-true _ _ tests.0 in
    let long : length r.rest ≡ byte_len hash = eqb-true _ _ tests.1 in
    let runs = records_take v hash n.0 n.1 before.rest_fits in
    let parts = (Takes-then bytes (head_of v n.0) n.1 (flat_map (record_text v) r.written) r.rest before runs.takes).parts in
    let text : bytes ≡ body_of v r.written ++ r.rest = parts ∙ ap (λ (k : ℕ). (head_of v k ++ flat_map (record_text v) r.written) ++ r.rest) (sym all) in
    let is : IsFramed hash bytes made = record {
      text = text ∙ ap (λ (t : List ℕ). body_of v r.written ++ t) (sym (bytes-id hash r.rest));
      before = front bytes (body_of v r.written) r.rest text;
      fits = record { count = omega (arith, small, all); each = runs.each };
      count = sym all;
      kind = kind-id hash r.rest;
      whole = ap length (bytes-id hash r.rest) ∙ long;
    } in
    subst (IsFramed hash bytes) g.1 is

counted_takes : (v : PackVersion) (hash : Kind) (bytes : List ℕ) (o : Option (ℕ × List ℕ)) (f : Frame) → Takes bytes (mark ++ version_text v) (drop 8 bytes) → number_at (drop 8 bytes) ≡ o → counted v hash bytes o ≡ Ok f → IsFramed hash bytes f
counted_takes v hash bytes None f before is e = absurd cc
counted_takes v hash bytes (Some n) f before is e =
    let t = number_takes (drop 8 bytes) n before.rest_fits is in
    ended_takes v hash bytes n f (Takes-then bytes (mark ++ version_text v) (drop 8 bytes) (to_be_bytes w32 n.0) n.1 before t.0) t.1 e

-- the version at the front
pub version_is : (bytes : List ℕ) (v : PackVersion) → version_at bytes ≡ Some v → bytes ≡ version_text v ++ drop 4 bytes
version_is bytes v is = by_test (starts_with nat_eq bytes (version_text V1)) (starts_with nat_eq bytes (version_text V2)) refl refl is
  where
    by_test : (a b : Bool) → starts_with nat_eq bytes (version_text V1) ≡ a → starts_with nat_eq bytes (version_text V2) ≡ b → cond a (Some V1) (cond b (Some V2) None) ≡ Some v → bytes ≡ version_text v ++ drop 4 bytes
    by_test true b first second e = let one : V1 ≡ v = cc in subst (λ (w : PackVersion). bytes ≡ version_text w ++ drop 4 bytes) one ((starts_is Decides-eqb bytes (version_text V1) (starts_with nat_eq bytes (version_text V1)) refl).0 first)
    by_test false true first second e = let two : V2 ≡ v = cc in subst (λ (w : PackVersion). bytes ≡ version_text w ++ drop 4 bytes) two ((starts_is Decides-eqb bytes (version_text V2) (starts_with nat_eq bytes (version_text V2)) refl).0 second)
    by_test false false first second e = absurd cc

-- what a version and a mark at the front leave
pub marked_takes : (bytes : List ℕ) (v : PackVersion) → IsBytes bytes → bytes ≡ mark ++ drop 4 bytes → version_at (drop 4 bytes) ≡ Some v → Takes bytes (mark ++ version_text v) (drop 8 bytes)
marked_takes bytes v fits first is =
    let second : drop 4 bytes ≡ version_text v ++ drop 4 (drop 4 bytes) = version_is (drop 4 bytes) v is in
    let eight : drop 4 (drop 4 bytes) ≡ drop 8 bytes = drop-drop 4 4 bytes in
    record { parts = first ∙ ap (λ (t : List ℕ). mark ++ t) (second ∙ ap (λ (t : List ℕ). version_text v ++ t) eight); rest_fits = IsBytes-drop 8 bytes fits }

versioned_takes : (hash : Kind) (bytes : List ℕ) (o : Option PackVersion) (f : Frame) → IsBytes bytes → bytes ≡ mark ++ drop 4 bytes → version_at (drop 4 bytes) ≡ o → versioned hash bytes o ≡ Ok f → IsFramed hash bytes f
versioned_takes hash bytes None f fits first is e = absurd cc
versioned_takes hash bytes (Some v) f fits first is e = counted_takes v hash bytes (number_at (drop 8 bytes)) f (marked_takes bytes v fits first is) refl e

pub starts_marked : (bytes : List ℕ) → starts_with nat_eq bytes mark ≡ true → bytes ≡ mark ++ drop 4 bytes
starts_marked bytes told = (starts_is Decides-eqb bytes mark (starts_with nat_eq bytes mark) refl).0 told

pub structure_takes : (hash : Kind) (bytes : List ℕ) (f : Frame) → IsBytes bytes → structure hash bytes ≡ Ok f → IsFramed hash bytes f
structure_takes hash bytes f fits e =
    let a = past (starts_with nat_eq bytes mark) (Malformed 0) (versioned hash bytes (version_at (drop 4 bytes))) f e in
    versioned_takes hash bytes (version_at (drop 4 bytes)) f fits (starts_marked bytes a.0) refl a.1

abbrev framed : PackVersion → Kind → List Written → Frame
framed v hash ws = record { version = v; count = length ws; written = ws; body = body_of v ws; digest = digest hash (body_of v ws) }

ended_again : (v : PackVersion) (hash : Kind) (ws : List Written) (r : Records) → r ≡ record { written = ws; rest = bytes_of (digest hash (body_of v ws)) }
    → ended v hash (text_of v hash ws) (length ws) r ≡ Ok (framed v hash ws)
ended_again v hash ws r is =
    let whole = body_of v ws in
    let text = text_of v hash ws in
    let rest : List ℕ = bytes_of (digest hash whole) in
    let place = length text - length rest in
    ap (ended v hash text (length ws)) is
    ∙ ap (λ (b : Bool). cond (b && eqb (length rest) (byte_len hash)) (Ok (record { version = v; count = length ws; written = ws; body = take place text; digest = id_of_bytes hash rest })) (Err (Malformed place))) (eq-eqb (length ws) (length ws) refl)
    ∙ ap (λ (b : Bool). cond b (Ok (record { version = v; count = length ws; written = ws; body = take place text; digest = id_of_bytes hash rest })) (Err (Malformed place))) (eq-eqb (length rest) (byte_len hash) (length-digest hash whole))
    ∙ ap (λ (t : List ℕ). Ok (record { version = v; count = length ws; written = ws; body = t; digest = id_of_bytes hash rest })) (front text whole rest refl)
    ∙ ap (λ (d : ObjectId). Ok (record { version = v; count = length ws; written = ws; body = whole; digest = d })) (id-digest hash whole)

structure_again : (v : PackVersion) (hash : Kind) (ws : List Written) → AreRecords v hash ws → structure hash (text_of v hash ws) ≡ Ok (framed v hash ws)
structure_again V1 hash ws fits =
    let rest : List ℕ = bytes_of (digest hash (body_of V1 ws)) in
    ap (counted V1 hash (text_of V1 hash ws)) (number_again (length ws) (flat_map (record_text V1) ws ++ rest) fits.count)
    ∙ ended_again V1 hash ws (records V1 hash (length ws) (flat_map (record_text V1) ws ++ rest)) (records_again V1 hash ws rest fits.each)
structure_again V2 hash ws fits =
    let rest : List ℕ = bytes_of (digest hash (body_of V2 ws)) in
    ap (counted V2 hash (text_of V2 hash ws)) (number_again (length ws) (flat_map (record_text V2) ws ++ rest) fits.count)
    ∙ ended_again V2 hash ws (records V2 hash (length ws) (flat_map (record_text V2) ws ++ rest)) (records_again V2 hash ws rest fits.each)

-- ---- objects

abbrev pub payloads_in : List Written → List Payload
payloads_in ws = map (λ (w : Written). w.payload) ws

abbrev pub objects_of : Kind → List Payload → List Stored
objects_of hash ps = map (stored hash) ps

parsed_again : (v : PackVersion) (hash : Kind) (place : ℕ) (ps : List Payload) → AllByRecursion (λ p. IsObject hash p.kind p.bytes) ps
    → all_parsed v hash place (under_their_ids v hash ps) ≡ Ok (objects_of hash ps)
parsed_again v hash place [] all = refl
parsed_again v hash place (p ∷ ps) all =
    let next = place + record_len v (under_its_id v hash p) in
    ap (λ (b : Bool). cond b (Ok (stored hash p)) (Err (Malformed place)) >>= λ o. all_parsed v hash next (under_their_ids v hash ps) >>= λ os. Ok (o ∷ os)) all.0
    ∙ ap (λ r. r >>= λ os. Ok (stored hash p ∷ os)) (parsed_again v hash next ps all.1)

ok_is : (xs ys : List Stored) → ◌≡◌ {A = Result (List Stored) PackError} (Ok xs) (Ok ys) → xs ≡ ys
ok_is xs ys e = cc

pub parsed_found : (v : PackVersion) (hash : Kind) (place : ℕ) (ws : List Written) (os : List Stored) → all_parsed v hash place ws ≡ Ok os
    → AllByRecursion (λ w. IsObject hash w.payload.kind w.payload.bytes) ws × (objects_of hash (payloads_in ws) ≡ os)
parsed_found v hash place [] os e = (tt, ok_is [] os e)
parsed_found v hash place (w ∷ ws) os e =
    let next = place + record_len v w in
    let a = bind_ok (parsed hash place w.payload) (λ o. all_parsed v hash next ws >>= λ rest. Ok (o ∷ rest)) os e in
    let g = chosen (is_object hash w.payload.kind w.payload.bytes) (Malformed place) (stored hash w.payload) a.0 a.1 in
    let b = bind_ok (all_parsed v hash next ws) (λ rest. Ok (a.0 ∷ rest)) os a.2 in
    let others = parsed_found v hash next ws b.0 b.1 in
    ((g.0, others.0), ap (λ (o : Stored). o ∷ objects_of hash (payloads_in ws)) g.1 ∙ ap (λ (rest : List Stored). a.0 ∷ rest) others.1 ∙ ok_is (a.0 ∷ b.0) os b.2)

pub payloads_are : (hash : Kind) (ws : List Written) → AllByRecursion (λ w. IsObject hash w.payload.kind w.payload.bytes) ws → AllByRecursion (λ p. IsObject hash p.kind p.bytes) (payloads_in ws)
payloads_are hash [] all = tt
payloads_are hash (w ∷ ws) all = (all.0, payloads_are hash ws all.1)

pub paired_entries : (hash : Kind) (ps : List Payload) → paired (ids_of hash (objects_of hash ps)) (objects_of hash ps) ≡ entries hash ps
paired_entries hash [] = refl
paired_entries hash (p ∷ ps) = ap (λ (os : Entries). entry hash p ∷ os) (paired_entries hash ps)

-- ---- ids

none_written : (xs : List ℕ) → length xs ≡ 0 → xs ≡ []
none_written [] is = refl
none_written (x ∷ xs) is = absurd cc

-- what is written is the id
pub id_is : (hash : Kind) (w : Written) → id_of_bytes hash w.id ≡ id_of hash w.payload.kind w.payload.bytes → w ≡ under_its_id V2 hash w.payload
id_is hash w is = ap (λ (t : List ℕ). record { id = t; payload = w.payload }) (sym (bytes-id hash w.id) ∙ ap bytes_of is)

compared_found : (hash : Kind) (ws : List Written) → compared hash ws (ids_of hash (objects_of hash (payloads_in ws))) ≡ Ok tt → ws ≡ under_their_ids V2 hash (payloads_in ws)
compared_found hash [] e = refl
compared_found hash (w ∷ ws) e = by_test (is_id (id_of_bytes hash w.id) (id_of hash w.payload.kind w.payload.bytes)) (compared_found hash ws) refl e
  where
    by_test : (b : Bool) → (compared hash ws (ids_of hash (objects_of hash (payloads_in ws))) ≡ Ok tt → ws ≡ under_their_ids V2 hash (payloads_in ws)) → is_id (id_of_bytes hash w.id) (id_of hash w.payload.kind w.payload.bytes) ≡ b
        → cond b (compared hash ws (ids_of hash (objects_of hash (payloads_in ws)))) (Err (IdMismatch (id_of_bytes hash w.id) (id_of hash w.payload.kind w.payload.bytes))) ≡ Ok tt
        → (w ∷ ws) ≡ under_their_ids V2 hash (payloads_in (w ∷ ws))
    by_test true others told rest =
        let one = id_is hash w (same_id (id_of_bytes hash w.id) (id_of hash w.payload.kind w.payload.bytes) told) in
        ap (λ (x : Written). x ∷ ws) one ∙ ap (λ (xs : List Written). under_its_id V2 hash w.payload ∷ xs) (others rest)
    by_test false others told rest = absurd cc

nothing_found : (hash : Kind) (ws : List Written) → AllByRecursion (IsRecord V1 hash) ws → ws ≡ under_their_ids V1 hash (payloads_in ws)
nothing_found hash [] each = refl
nothing_found hash (w ∷ ws) each =
    let one : w ≡ under_its_id V1 hash w.payload = ap (λ (t : List ℕ). record { id = t; payload = w.payload }) (none_written w.id each.0.1) in
    ap (λ (x : Written). x ∷ ws) one ∙ ap (λ (xs : List Written). under_its_id V1 hash w.payload ∷ xs) (nothing_found hash ws each.1)

pub ids_found : (v : PackVersion) (hash : Kind) (ws : List Written) → AllByRecursion (IsRecord v hash) ws → with_ids v hash ws (ids_of hash (objects_of hash (payloads_in ws))) ≡ Ok tt → ws ≡ under_their_ids v hash (payloads_in ws)
ids_found V1 hash ws each e = nothing_found hash ws each
ids_found V2 hash ws each e = compared_found hash ws e

compared_again : (hash : Kind) (ps : List Payload) → compared hash (under_their_ids V2 hash ps) (ids_of hash (objects_of hash ps)) ≡ Ok tt
compared_again hash [] = refl
compared_again hash (p ∷ ps) =
    let id = id_of hash p.kind p.bytes in
    let back : id_of_bytes hash (bytes_of id) ≡ id = id-digest hash _ in
    let rest = compared hash (under_their_ids V2 hash ps) (ids_of hash (objects_of hash ps)) in
    ap (λ (b : Bool). cond b rest (Err (IdMismatch (id_of_bytes hash (bytes_of id)) id))) (ties (id_of_bytes hash (bytes_of id)) id back) ∙ compared_again hash ps

ids_again : (v : PackVersion) (hash : Kind) (ps : List Payload) → with_ids v hash (under_their_ids v hash ps) (ids_of hash (objects_of hash ps)) ≡ Ok tt
ids_again V1 hash ps = refl
ids_again V2 hash ps = compared_again hash ps

-- ---- what fits

id_text_len : (v : PackVersion) (hash : Kind) (p : Payload) → length (id_text v (id_of hash p.kind p.bytes)) ≡ id_len v hash
id_text_len V1 hash p = refl
id_text_len V2 hash p = length-digest hash _

each_fit : (v : PackVersion) (hash : Kind) (ps : List Payload) → AllByRecursion (λ p. length p.bytes < limit_of v) ps → AllByRecursion (IsRecord v hash) (under_their_ids v hash ps)
each_fit v hash [] all = tt
each_fit v hash (p ∷ ps) all = ((all.0, id_text_len v hash p), each_fit v hash ps all.1)

pub records_fit : (v : PackVersion) (hash : Kind) (ps : List Payload) → Fits v ps → AreRecords v hash (under_their_ids v hash ps)
records_fit v hash ps fits = record { count = omega (arith, fits.count, length-map ps (under_its_id v hash)); each = each_fit v hash ps fits.each }

each_payload : (v : PackVersion) (hash : Kind) (ws : List Written) → AllByRecursion (IsRecord v hash) ws → AllByRecursion (λ p. length p.bytes < limit_of v) (payloads_in ws)
each_payload v hash [] all = tt
each_payload v hash (w ∷ ws) all = (all.0.0, each_payload v hash ws all.1)

pub payloads_fit : (v : PackVersion) (hash : Kind) (ws : List Written) → AreRecords v hash ws → Fits v (payloads_in ws)
payloads_fit v hash ws fits = record { count = omega (arith, fits.count, length-map ws (λ (w : Written). w.payload)); each = each_payload v hash ws fits.each }

-- ---- the whole

unless_found : (kept : Entries) (o : Option ObjectId) (c : Entries) → unless kept o ≡ Ok c → (o ≡ None) × (kept ≡ c)
unless_found kept (Some id) c e = absurd cc
unless_found kept None c e = (refl, cc)

abbrev pub made : Frame → Entries → Contents
made f kept = record { objects = kept; count = f.count; digest = f.digest }

-- what comes after the structure, the digest and the objects
abbrev pub named : Kind → Frame → List Stored → Result Contents PackError
named hash f os = with_ids f.version hash f.written (ids_of hash os) >>= λ _. distinct (paired (ids_of hash os) os) >>= λ kept. Ok (made f kept)

abbrev pub checked : Kind → Frame → Result Contents PackError
checked hash f = all_parsed f.version hash 12 f.written >>= λ os. named hash f os

made_is : (a b : Contents) → ◌≡◌ {A = Result Contents PackError} (Ok a) (Ok b) → a ≡ b
made_is a b e = cc

-- a frame whose digest is right, and what was read after it
checked_found : (hash : Kind) (bytes : List ℕ) (f : Frame) (c : Contents) → IsFramed hash bytes f → f.digest ≡ digest hash (body_of f.version f.written) → checked hash f ≡ Ok c
    → IsPack f.version hash bytes (payloads_in f.written) × (c ≡ contents_of f.version hash (payloads_in f.written))
checked_found hash bytes f c is_framed right e =
    let v = f.version in
    let ws = f.written in
    let ps = payloads_in ws in
    let a = bind_ok (all_parsed v hash 12 ws) (named hash f) c e in
    let all = parsed_found v hash 12 ws a.0 a.1 in
    let named_is : named hash f (objects_of hash ps) ≡ Ok c = ap (named hash f) all.1 ∙ a.2 in
    let i = bind_ok (with_ids v hash ws (ids_of hash (objects_of hash ps))) (λ _. distinct (paired (ids_of hash (objects_of hash ps)) (objects_of hash ps)) >>= λ kept. Ok (made f kept)) c named_is in
    let own : ws ≡ under_their_ids v hash ps = ids_found v hash ws is_framed.fits.each i.1 in
    let d = bind_ok (distinct (paired (ids_of hash (objects_of hash ps)) (objects_of hash ps))) (λ kept. Ok (made f kept)) c i.2 in
    let told : distinct (entries hash ps) ≡ Ok d.0 = ap distinct (sym (paired_entries hash ps)) ∙ d.1 in
    let u = unless_found (once_from [] (entries hash ps)) (collision finmap.empty (entries hash ps)) d.0 told in
    let is : IsPack v hash bytes ps = record {
      text = is_framed.text ∙ ap (λ (x : ObjectId). body_of v ws ++ bytes_of x) right ∙ ap (text_of v hash) own;
      fits = payloads_fit v hash ws is_framed.fits;
      objects = payloads_are hash ws all.0;
      distinct = u.0;
    } in
    let digests : f.digest ≡ digest hash (body v hash ps) = right ∙ ap (λ (xs : List Written). digest hash (body_of v xs)) own in
    let counts : f.count ≡ length ps = is_framed.count ∙ sym (length-map ws (λ (w : Written). w.payload)) in
    let same : c ≡ contents_of v hash ps =
    sym (made_is (made f d.0) c d.2) ∙ ap (λ (os : Entries). record { objects = os; count = f.count; digest = f.digest }) (sym u.1)
    ∙ ap (λ (k : ℕ). record { objects = once_from [] (entries hash ps); count = k; digest = f.digest }) counts
    ∙ ap (λ (x : ObjectId). record { objects = once_from [] (entries hash ps); count = length ps; digest = x }) digests in
    (is, same)

pub read_found : (hash : Kind) (bytes : List ℕ) (c : Contents) → IsBytes bytes → read hash bytes ≡ Ok c → (v : PackVersion) × (ps : List Payload) × IsPack v hash bytes ps × (c ≡ contents_of v hash ps)
read_found hash bytes c fits e =
    let a = bind_ok (structure hash bytes) (λ fr. with_digest hash fr >>= λ f. checked hash f) c e in
    let b = bind_ok (with_digest hash a.0) (checked hash) c a.2 in
    let g = chosen (is_id a.0.digest (digest hash a.0.body)) (PackDigest a.0.digest (digest hash a.0.body)) a.0 b.0 b.1 in
    let is_framed = structure_takes hash bytes a.0 fits a.1 in
    let right : a.0.digest ≡ digest hash (body_of a.0.version a.0.written) = same_id a.0.digest (digest hash a.0.body) g.0 ∙ ap (digest hash) is_framed.before in
    let r = checked_found hash bytes a.0 c is_framed right (ap (checked hash) g.1 ∙ b.2) in
    (a.0.version, payloads_in a.0.written, r.0, r.1)

checked_again : (v : PackVersion) (hash : Kind) (bytes : List ℕ) (ps : List Payload) → IsPack v hash bytes ps → checked hash (framed v hash (under_their_ids v hash ps)) ≡ Ok (contents_of v hash ps)
checked_again v hash bytes ps is =
    let ws = under_their_ids v hash ps in
    let f = framed v hash ws in
    let os = objects_of hash ps in
    ap (λ r. r >>= λ xs. named hash f xs) (parsed_again v hash 12 ps is.objects)
    ∙ ap (λ r. r >>= λ _. distinct (paired (ids_of hash os) os) >>= λ kept. Ok (made f kept)) (ids_again v hash ps)
    ∙ ap (λ (es : Entries). distinct es >>= λ kept. Ok (made f kept)) (paired_entries hash ps)
    ∙ ap (λ (o : Option ObjectId). unless (once_from [] (entries hash ps)) o >>= λ kept. Ok (made f kept)) is.distinct
    ∙ ap (λ (k : ℕ). Ok (record { objects = once_from [] (entries hash ps); count = k; digest = digest hash (body v hash ps) })) (length-map ps (under_its_id v hash))

pub read_again : (v : PackVersion) (hash : Kind) (bytes : List ℕ) (ps : List Payload) → IsPack v hash bytes ps → read hash bytes ≡ Ok (contents_of v hash ps)
read_again v hash bytes ps is =
    let ws = under_their_ids v hash ps in
    let f = framed v hash ws in
    let d = f.digest in
    ap (read hash) is.text
    ∙ ap (λ r. r >>= λ fr. with_digest hash fr >>= λ x. checked hash x) (structure_again v hash ws (records_fit v hash ps is.fits))
    ∙ ap (λ (b : Bool). cond b (Ok f) (Err (PackDigest d d)) >>= λ x. checked hash x) (ties d d refl)
    ∙ checked_again v hash bytes ps is

pub is_found : (hash : Kind) (bytes : List ℕ) (r : Result Pack PackError) → IsBytes bytes → AnswersBy contents is_memory (read hash bytes) r → IfOk r (λ p. (v : PackVersion) × (ps : List Payload) × IsPack v hash bytes ps × (contents p ≡ contents_of v hash ps))
is_found hash bytes (Ok p) fits given = read_found hash bytes (contents p) fits given
is_found hash bytes (Err e) fits given = tt
