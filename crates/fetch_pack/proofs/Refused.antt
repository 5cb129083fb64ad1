-- A text that isn't read has what the refusal says.
use Rattle.std.proofs.Common.{◌≡◌, ◌≢◌, ◌⊎◌, ℕ, zero, suc, ◌+◌, ◌-◌, ◌^◌, ◌<◌, Bool, true, false, cond, not, ◌&&◌, eqb, List, [], ◌∷◌, ◌++◌, length, take, drop, Option, Some, None, Result, Ok, Err, refl, sym, ap, subst, ◌∙◌, arith, eq-eqb, inl, inr}
use Rattle.std.specs.Prelude.{nat_eq, IfErr, sum_by}
use Rattle.std.specs.List.{flat_map, AllByRecursion, starts_with}
use Rattle.std.specs.Option.{option_map_or}
use Rattle.std.specs.Int.{w32, to_be_bytes}
use Rattle.std.specs.FinMap as finmap
use Rattle.std.proofs.lemmas.Bool.{eqb-true}
use Rattle.std.proofs.lemmas.List.{length-append}
use Rattle.std.proofs.lemmas.List.Sums.{sum_by-cons}
use Rattle.fetch_base.specs.declared.id.Kind.{Kind}
use Rattle.fetch_base.specs.declared.id.ObjectId.{ObjectId}
use Rattle.fetch_base.specs.Id.{byte_len, id_of_bytes, bytes_of, kind_of}
use Rattle.fetch_base.specs.Hashing.{digest, id_of}
use Rattle.fetch_objects.specs.Objects.{IsObject, is_object}
use Rattle.fetch_store.specs.Stores.{Entries, collision}
use Rattle.fetch_store.proofs.Finds.{ties}
use Rattle.fetch_base.proofs.Digests.{bytes-id}
use Rattle.fetch_pack.specs.declared.error.PackError.{PackError}
use Rattle.fetch_pack.specs.declared.error.PackError.TheVariants.{Malformed, PackDigest, IdMismatch, Collision, NoMemory}
use Rattle.fetch_pack.specs.declared.reading.Pack.{Pack}
use Rattle.fetch_pack.specs.declared.version.PackVersion.{PackVersion}
use Rattle.fetch_pack.specs.declared.version.PackVersion.TheVariants.{V1, V2}
use Rattle.fetch_pack.specs.Records.{Payload, Written, AreRecords, onto, record_text, mark, version_text, head_of, body_of, text_of, under_its_id, under_their_ids, number_at, record_at, records}
use Rattle.fetch_base.specs.Answers.{AnswersBy, AnswersUnless}
use Rattle.fetch_pack.specs.Reading.{◌>>=◌, is_memory, Frame, ended, counted, version_at, versioned, structure, is_id, with_digest, record_len, stored, parsed, all_parsed, ids_of, compared, with_ids, paired, once_from, unless, distinct, read}
use Rattle.fetch_pack.specs.Views.{contents}
use Rattle.fetch_pack.specs.Packs.{entries}
use Rattle.fetch_pack.specs.Refusals.{StartsNoRecord, StopsAfter, HasNoObject, IsMalformed, no_mark, no_version, no_count, no_record, no_digest, no_object, HasOtherDigest, HasOtherId, HasCollision, IsRefused}
use Rattle.fetch_pack.proofs.Fields.{IsBytes, Takes, Takes-then, number_takes, record_again, records_take}
use Rattle.fetch_pack.proofs.Steps.{short_count}
use Rattle.fetch_pack.proofs.Laws.{kind-id, structure_takes, starts_marked, marked_takes, chosen, same_id, parsed_found, payloads_in, payloads_are, payloads_fit, objects_of, paired_entries, id_is, ids_found, made, named, checked}

bind_err : {A B : Type 0} (r : Result A PackError) (f : A → Result B PackError) (e : PackError) → (r >>= f) ≡ Err e → (r ≡ Err e) ⊎ ((x : A) × (r ≡ Ok x) × (f x ≡ Err e))
bind_err (Ok x) f e is = inr (x, refl, is)
bind_err {A} {B} (Err d) f e is = inl (ap Err (one is))
  where
    one : ◌≡◌ {A = Result B PackError} (Err d) (Err e) → d ≡ e
    one same = cc

stopped : {A : Type 0} (b : Bool) (d e : PackError) (r : Result A PackError) → cond (not b) (Err d) r ≡ Err e → ((b ≡ false) × (d ≡ e)) ⊎ ((b ≡ true) × (r ≡ Err e))
stopped true d e r is = inr (refl, is)
stopped false d e r is = inl (refl, cc)

refused : {A : Type 0} (b : Bool) (d e : PackError) (x : A) → cond b (Ok x) (Err d) ≡ Err e → (b ≡ false) × (d ≡ e)
refused true d e x is = absurd cc
refused false d e x is = (refl, cc)

same_error : {A : Type 0} (a b : PackError) → ◌≡◌ {A = Result A PackError} (Err a) (Err b) → a ≡ b
same_error a b same = cc

untested : {A : Type 0} (b : Bool) (x : A) → cond b None (Some x) ≡ None → b ≡ true
untested true x is = refl
untested false x is = absurd cc

not_both : (a b : Bool) → (a && b) ≡ false → (a ≡ false) ⊎ ((a ≡ true) × (b ≡ false))
not_both true b is = inr (refl, is)
not_both false b is = inl refl

different : (m n : ℕ) → eqb m n ≡ false → m ≢ n
different m n is same = absurd (let yes : eqb m n ≡ true = eq-eqb m n same in cc)

-- ---- structure

stop_of : (v : PackVersion) (hash : Kind) (n : ℕ) (bytes : List ℕ) (o : Option (Written × List ℕ)) → record_at v hash bytes ≡ o
    → ((x : Written × List ℕ) → (length (records v hash n x.1).written ≡ n) ⊎ ((length (records v hash n x.1).written < n) × (record_at v hash (records v hash n x.1).rest ≡ None)))
    → let r = option_map_or (λ (x : Written × List ℕ). onto x.0 (records v hash n x.1)) o (record { written = []; rest = bytes }) in (length r.written ≡ suc n) ⊎ ((length r.written < suc n) × (record_at v hash r.rest ≡ None))
stop_of v hash n bytes None is more = inr (omega arith, is)
stop_of v hash n bytes (Some x) is more = elim (more x) [ inl all ↦ inl (ap suc all) | inr part ↦ inr (omega (arith, part.0), part.1) ]

-- The records are all whole, or none stands at the front of the rest.
stops : (v : PackVersion) (hash : Kind) (n : ℕ) (bytes : List ℕ) → (length (records v hash n bytes).written ≡ n) ⊎ ((length (records v hash n bytes).written < n) × (record_at v hash (records v hash n bytes).rest ≡ None))
stops v hash zero bytes = inl refl
stops v hash (suc n) bytes = stop_of v hash n bytes (record_at v hash bytes) refl (λ x. stops v hash n x.1)

no_start : (v : PackVersion) (hash : Kind) (bytes : List ℕ) → record_at v hash bytes ≡ None → StartsNoRecord v hash bytes
no_start v hash bytes none w rest is starts = absurd (let some : None ≡ Some (w, rest) = sym none ∙ ap (record_at v hash) starts ∙ record_again v hash w rest is in cc)

ended_refused : (v : PackVersion) (hash : Kind) (bytes : List ℕ) (n : ℕ × List ℕ) (e : PackError) → Takes bytes (head_of v n.0) n.1 → n.0 < 2 ^ 32 → ended v hash bytes n.0 (records v hash n.0 n.1) ≡ Err e → IsRefused hash bytes e
ended_refused v hash bytes n e before small is =
    let r = records v hash n.0 n.1 in
    let place = length bytes - length r.rest in
    let whole : Frame = record { version = v; count = n.0; written = r.written; body = take place bytes; digest = id_of_bytes hash r.rest } in
    let g = refused (eqb (length r.written) n.0 && eqb (length r.rest) (byte_len hash)) (Malformed place) e whole is in
    let runs = records_take v hash n.0 n.1 before.rest_fits in
    let parts = (Takes-then bytes (head_of v n.0) n.1 (flat_map (record_text v) r.written) r.rest before runs.takes).parts in
    let front : List ℕ = head_of v n.0 ++ flat_map (record_text v) r.written in
    let all : length bytes ≡ length front + length r.rest = ap length parts ∙ length-append front r.rest in
    let stop : StopsAfter v hash bytes place n.0 r.written r.rest = record { text = parts; counted = small; each = runs.each; there = omega (arith, all) } in
    let why : IsMalformed hash bytes place =
    elim (not_both (eqb (length r.written) n.0) (eqb (length r.rest) (byte_len hash)) g.0) [
      | inl short ↦ elim (stops v hash n.0 n.1) [
        | inl all_there ↦ absurd (different (length r.written) n.0 short all_there)
        | inr part ↦ no_record v n.0 r.written r.rest stop part.0 (no_start v hash r.rest part.1)
      ]
      | inr long ↦ no_digest v n.0 r.written r.rest stop (eqb-true _ _ long.0) (different (length r.rest) (byte_len hash) long.1)
    ] in
    subst (IsRefused hash bytes) g.1 why

counted_refused : (v : PackVersion) (hash : Kind) (bytes : List ℕ) (o : Option (ℕ × List ℕ)) (e : PackError) → Takes bytes (mark ++ version_text v) (drop 8 bytes) → number_at (drop 8 bytes) ≡ o → counted v hash bytes o ≡ Err e → IsRefused hash bytes e
counted_refused v hash bytes None e before none is =
    subst (IsRefused hash bytes) (same_error {A = Frame} (Malformed 8) e is) (no_count refl v (drop 8 bytes) before.parts (short_count (drop 8 bytes) none))
counted_refused v hash bytes (Some n) e before some is =
    let t = number_takes (drop 8 bytes) n before.rest_fits some in
    ended_refused v hash bytes n e (Takes-then bytes (mark ++ version_text v) (drop 8 bytes) (to_be_bytes w32 n.0) n.1 before t.0) t.1 is

-- no version stands at the front
no_version_there : (bytes : List ℕ) → version_at bytes ≡ None → (v : PackVersion) (more : List ℕ) → bytes ≢ version_text v ++ more
no_version_there bytes none V1 more starts = absurd (let some : None ≡ Some V1 = sym none ∙ ap version_at starts in cc)
no_version_there bytes none V2 more starts = absurd (let some : None ≡ Some V2 = sym none ∙ ap version_at starts in cc)

versioned_refused : (hash : Kind) (bytes : List ℕ) (o : Option PackVersion) (e : PackError) → IsBytes bytes → bytes ≡ mark ++ drop 4 bytes → version_at (drop 4 bytes) ≡ o → versioned hash bytes o ≡ Err e → IsRefused hash bytes e
versioned_refused hash bytes None e fits first none is =
    subst (IsRefused hash bytes) (same_error {A = Frame} (Malformed 4) e is) (no_version refl (drop 4 bytes) first (no_version_there (drop 4 bytes) none))
versioned_refused hash bytes (Some v) e fits first some is = counted_refused v hash bytes (number_at (drop 8 bytes)) e (marked_takes bytes v fits first some) refl is

structure_refused : (hash : Kind) (bytes : List ℕ) (e : PackError) → IsBytes bytes → structure hash bytes ≡ Err e → IsRefused hash bytes e
structure_refused hash bytes e fits is =
    elim (stopped (starts_with nat_eq bytes mark) (Malformed 0) e (versioned hash bytes (version_at (drop 4 bytes))) is) [
      | inl none ↦ subst (IsRefused hash bytes) none.1 (no_mark refl (λ rest starts. absurd (let yes : starts_with nat_eq bytes mark ≡ true = ap (λ (t : List ℕ). starts_with nat_eq t mark) starts in let no = none.0 in cc)))
      | inr marked ↦ versioned_refused hash bytes (version_at (drop 4 bytes)) e fits (starts_marked bytes marked.0) refl marked.1
    ]

-- ---- objects

record StopsAt (v : PackVersion) (hash : Kind) (place : ℕ) (ws : List Written) (e : PackError) (before : List Written) (w : Written) (after : List Written) : Type 0 where
  parts : ws ≡ before ++ w ∷ after
  objects : AllByRecursion (λ x. IsObject hash x.payload.kind x.payload.bytes) before
  none : ¬ (IsObject hash w.payload.kind w.payload.bytes)
  error : e ≡ Malformed (place + sum_by (record_len v) before)

parsed_refused : (v : PackVersion) (hash : Kind) (place : ℕ) (ws : List Written) (e : PackError) → all_parsed v hash place ws ≡ Err e → (before : List Written) × (w : Written) × (after : List Written) × StopsAt v hash place ws e before w after
parsed_refused v hash place [] e is = absurd cc
parsed_refused v hash place (w ∷ ws) e is =
    let next = place + record_len v w in
    elim (bind_err (parsed hash place w.payload) (λ o. all_parsed v hash next ws >>= λ rest. Ok (o ∷ rest)) e is) [
      | inl here ↦
          let g = refused (is_object hash w.payload.kind w.payload.bytes) (Malformed place) e (stored hash w.payload) here in
          ([], w, ws, record { parts = refl; objects = tt; none = λ yes. absurd (let no = g.0 in cc); error = sym g.1 ∙ ap Malformed (omega arith) })
      | inr later ↦
          let ok = chosen (is_object hash w.payload.kind w.payload.bytes) (Malformed place) (stored hash w.payload) later.0 later.1 in
          elim (bind_err (all_parsed v hash next ws) (λ rest. Ok (later.0 ∷ rest)) e later.2) [
            | inl there ↦
                let r = parsed_refused v hash next ws e there in
                let moved : next + sum_by (record_len v) r.0 ≡ place + sum_by (record_len v) (w ∷ r.0) = omega (arith, sum_by-cons (record_len v) w r.0) in
                (w ∷ r.0, r.1, r.2, record { parts = ap (λ (xs : List Written). w ∷ xs) r.3.parts; objects = (ok.0, r.3.objects); none = r.3.none; error = r.3.error ∙ ap Malformed moved })
            | inr done ↦ absurd (let wrong = done.2 in cc)
          ]
    ]

-- ---- ids

record IsOther (hash : Kind) (ws : List Written) (e : PackError) (written : ObjectId) (before : List Payload) (p : Payload) (after : List Written) : Type 0 where
  parts : ws ≡ under_their_ids V2 hash before ++ record { id = bytes_of written; payload = p } ∷ after
  kind : kind_of written ≡ hash
  other : written ≢ id_of hash p.kind p.bytes
  error : e ≡ IdMismatch written (id_of hash p.kind p.bytes)

abbrev FindsOther : Kind → List Written → PackError → Type 0
FindsOther hash ws e = (written : ObjectId) × (before : List Payload) × (p : Payload) × (after : List Written) × IsOther hash ws e written before p after

compared_refused : (hash : Kind) (ws : List Written) (e : PackError) → compared hash ws (ids_of hash (objects_of hash (payloads_in ws))) ≡ Err e → FindsOther hash ws e
compared_refused hash [] e is = absurd cc
compared_refused hash (w ∷ ws) e is = by_test (is_id (id_of_bytes hash w.id) (id_of hash w.payload.kind w.payload.bytes)) (compared_refused hash ws e) refl is
  where
    id : ObjectId
    id = id_of hash w.payload.kind w.payload.bytes

    by_test : (b : Bool) → (compared hash ws (ids_of hash (objects_of hash (payloads_in ws))) ≡ Err e → FindsOther hash ws e) → is_id (id_of_bytes hash w.id) id ≡ b → cond b (compared hash ws (ids_of hash (objects_of hash (payloads_in ws)))) (Err (IdMismatch (id_of_bytes hash w.id) id)) ≡ Err e → FindsOther hash (w ∷ ws) e
    by_test true others told rest =
        let r = others rest in
        let one = id_is hash w (same_id (id_of_bytes hash w.id) id told) in
        let parts : (w ∷ ws) ≡ under_their_ids V2 hash (w.payload ∷ r.1) ++ record { id = bytes_of r.0; payload = r.2 } ∷ r.3 =
        ap (λ (x : Written). x ∷ ws) one ∙ ap (λ (xs : List Written). under_its_id V2 hash w.payload ∷ xs) r.4.parts in
        (r.0, w.payload ∷ r.1, r.2, r.3, record { parts = parts; kind = r.4.kind; other = r.4.other; error = r.4.error })
    by_test false others told rest =
        let parts : (w ∷ ws) ≡ record { id = bytes_of (id_of_bytes hash w.id); payload = w.payload } ∷ ws = ap (λ (t : List ℕ). record { id = t; payload = w.payload } ∷ ws) (sym (bytes-id hash w.id)) in
        let differs : id_of_bytes hash w.id ≢ id = λ same. absurd (let yes = ties (id_of_bytes hash w.id) id same in let no = told in cc) in
        (id_of_bytes hash w.id, [], w.payload, ws, record { parts = parts; kind = kind-id hash w.id; other = differs; error = sym (same_error {A = Unit {0}} (IdMismatch (id_of_bytes hash w.id) id) e rest) })

-- ---- the whole

collided : (kept : Entries) (o : Option ObjectId) (e : PackError) → unless kept o ≡ Err e → (id : ObjectId) × (o ≡ Some id) × (Collision id ≡ e)
collided kept (Some id) e is = (id, refl, cc)
collided kept None e is = absurd cc

-- what comes after structure and digest
record IsWhole (v : PackVersion) (hash : Kind) (bytes : List ℕ) (ws : List Written) : Type 0 where
  text : bytes ≡ text_of v hash ws
  fits : AreRecords v hash ws

ids_refused : (v : PackVersion) (hash : Kind) (bytes : List ℕ) (ws : List Written) (e : PackError) → IsWhole v hash bytes ws → AllByRecursion (λ w. IsObject hash w.payload.kind w.payload.bytes) ws
    → with_ids v hash ws (ids_of hash (objects_of hash (payloads_in ws))) ≡ Err e → IsRefused hash bytes e
ids_refused V1 hash bytes ws e whole all is = absurd cc
ids_refused V2 hash bytes ws e whole all is =
    let r = compared_refused hash ws e is in
    let why : HasOtherId hash bytes r.0 (id_of hash r.2.kind r.2.bytes) r.1 r.2 r.3 = record {
      text = whole.text ∙ ap (text_of V2 hash) r.4.parts;
      fits = subst (AreRecords V2 hash) r.4.parts whole.fits;
      objects = subst (AllByRecursion (λ w. IsObject hash w.payload.kind w.payload.bytes)) r.4.parts all;
      kind = r.4.kind;
      computes = refl;
      other = r.4.other;
    } in
    subst (IsRefused hash bytes) (sym r.4.error) (r.1, r.2, r.3, why)

named_refused : (hash : Kind) (bytes : List ℕ) (f : Frame) (e : PackError) → IsWhole f.version hash bytes f.written → AllByRecursion (λ w. IsObject hash w.payload.kind w.payload.bytes) f.written
    → named hash f (objects_of hash (payloads_in f.written)) ≡ Err e → IsRefused hash bytes e
named_refused hash bytes f e whole all is =
    let v = f.version in
    let ws = f.written in
    let ps = payloads_in ws in
    let os = objects_of hash ps in
    elim (bind_err (with_ids v hash ws (ids_of hash os)) (λ _. distinct (paired (ids_of hash os) os) >>= λ kept. Ok (made f kept)) e is) [
      | inl bad ↦ ids_refused v hash bytes ws e whole all bad
      | inr good ↦
          let own : ws ≡ under_their_ids v hash ps = ids_found v hash ws whole.fits.each good.1 in
          elim (bind_err (distinct (paired (ids_of hash os) os)) (λ kept. Ok (made f kept)) e good.2) [
            | inl twice ↦
                let c = collided (once_from [] (entries hash ps)) (collision finmap.empty (entries hash ps)) e (ap distinct (sym (paired_entries hash ps)) ∙ twice) in
                let why : HasCollision v hash bytes c.0 ps = record { text = whole.text ∙ ap (text_of v hash) own; fits = payloads_fit v hash ws whole.fits; objects = payloads_are hash ws all; first = c.1 } in
                subst (IsRefused hash bytes) c.2 (v, ps, why)
            | inr done ↦ absurd (let wrong = done.2 in cc)
          ]
    ]

checked_refused : (hash : Kind) (bytes : List ℕ) (f : Frame) (e : PackError) → IsWhole f.version hash bytes f.written → checked hash f ≡ Err e → IsRefused hash bytes e
checked_refused hash bytes f e whole is =
    let v = f.version in
    let ws = f.written in
    elim (bind_err (all_parsed v hash 12 ws) (named hash f) e is) [
      | inl bad ↦
          let r = parsed_refused v hash 12 ws e bad in
          let why : HasNoObject v hash bytes (12 + sum_by (record_len v) r.0) r.0 r.1 r.2 = record { text = whole.text ∙ ap (text_of v hash) r.3.parts; fits = subst (AreRecords v hash) r.3.parts whole.fits; objects = r.3.objects; none = r.3.none; there = refl } in
          subst (IsRefused hash bytes) (sym r.3.error) (no_object v r.0 r.1 r.2 why)
      | inr good ↦
          let all = parsed_found v hash 12 ws good.0 good.1 in
          named_refused hash bytes f e whole all.0 (ap (named hash f) all.1 ∙ good.2)
    ]

read_refused : (hash : Kind) (bytes : List ℕ) (e : PackError) → IsBytes bytes → read hash bytes ≡ Err e → IsRefused hash bytes e
read_refused hash bytes e fits is =
    elim (bind_err (structure hash bytes) (λ fr. with_digest hash fr >>= λ f. checked hash f) e is) [
      | inl bad ↦ structure_refused hash bytes e fits bad
      | inr shaped ↦
          let fr = shaped.0 in
          let is_framed = structure_takes hash bytes fr fits shaped.1 in
          let computed = digest hash fr.body in
          elim (bind_err (with_digest hash fr) (checked hash) e shaped.2) [
            | inl bad ↦
                let g = refused (is_id fr.digest computed) (PackDigest fr.digest computed) e fr bad in
                let why : HasOtherDigest fr.version hash bytes fr.digest computed fr.written = record {
                  text = is_framed.text;
                  fits = is_framed.fits;
                  kind = is_framed.kind;
                  whole = is_framed.whole;
                  computes = ap (digest hash) is_framed.before;
                  other = λ same. absurd (let yes = ties fr.digest computed same in let no = g.0 in cc);
                } in
                subst (IsRefused hash bytes) g.1 (fr.version, fr.written, why)
            | inr good ↦
                let g = chosen (is_id fr.digest computed) (PackDigest fr.digest computed) fr good.0 good.1 in
                let right : fr.digest ≡ digest hash (body_of fr.version fr.written) = same_id fr.digest computed g.0 ∙ ap (digest hash) is_framed.before in
                let whole : IsWhole fr.version hash bytes fr.written = record { text = is_framed.text ∙ ap (λ (x : ObjectId). body_of fr.version fr.written ++ bytes_of x) right; fits = is_framed.fits } in
                checked_refused hash bytes fr e whole (ap (checked hash) g.1 ∙ good.2)
          ]
    ]

refused_as : (hash : Kind) (bytes : List ℕ) (e : PackError) → IsBytes bytes → AnswersUnless is_memory (read hash bytes) (Err e) → IsRefused hash bytes e
refused_as hash bytes (Malformed place) fits is = read_refused hash bytes (Malformed place) fits is
refused_as hash bytes (PackDigest found computed) fits is = read_refused hash bytes (PackDigest found computed) fits is
refused_as hash bytes (IdMismatch written computed) fits is = read_refused hash bytes (IdMismatch written computed) fits is
refused_as hash bytes (Collision id) fits is = read_refused hash bytes (Collision id) fits is
refused_as hash bytes NoMemory fits is = tt

pub is_refused : (hash : Kind) (bytes : List ℕ) (r : Result Pack PackError) → IsBytes bytes → AnswersBy contents is_memory (read hash bytes) r → IfErr r (λ e. IsRefused hash bytes e)
is_refused hash bytes (Ok p) fits given = tt
is_refused hash bytes (Err e) fits given = refused_as hash bytes e fits given
