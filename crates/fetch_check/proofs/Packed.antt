-- A pack that holds a whole repository is the pack of its objects.
use Rattle.std.proofs.Common.{◌≡◌, ℕ, suc, ◌+◌, ◌≤◌, Bool, true, false, cond, List, [], ◌∷◌, ◌++◌, length, map, append_assoc, append-nil, Result, Ok, Err, refl, sym, ap, ap₂, subst, ◌∙◌, arith}
use Rattle.std.specs.Prelude.{nat_eq, if◌then◌else◌}
use Rattle.std.specs.Bool.{OnFalse}
use Rattle.std.specs.List.{list_any, starts_with}
use Rattle.std.proofs.lemmas.List.{length-append, length-map}
use Rattle.fetch_base.specs.declared.id.Kind.{Kind}
use Rattle.fetch_base.specs.declared.id.ObjectId.{ObjectId}
use Rattle.fetch_base.specs.Hashing.{digest}
use Rattle.fetch_objects.specs.Objects.{Stored}
use Rattle.fetch_store.specs.Stores.{Entries}
use Rattle.fetch_pack.specs.declared.error.PackError.{PackError}
use Rattle.fetch_pack.specs.declared.error.PackError.TheVariants as packs
use Rattle.fetch_pack.specs.declared.version.PackVersion.{PackVersion}
use Rattle.fetch_pack.specs.declared.version.PackVersion.TheVariants.{V1, V2}
use Rattle.fetch_pack.specs.Packs.{IsPack, contents_of, entry, entries}
use Rattle.fetch_pack.specs.Reading.{Contents, is_id, is_memory, once_from, read}
use Rattle.fetch_pack.specs.Records.{Payload, body, mark, pack_text, payloads_of, version_text}
use Rattle.fetch_lines.specs.Written.{lines_text}
use Rattle.fetch_check.specs.Bundles.{Bundled, Said, bundle_text, said_in, said_lines}
use Rattle.fetch_check.specs.Reading.{CanStand, HoldsWhole, IsBundle, Says, contents_in, pack_read}

-- ---- version 1

pub first_version : (hash : Kind) (pack : List ℕ) → true ≡ starts_with nat_eq pack (mark ++ version_text V1) → pack_read hash pack ≡ Err (packs.Malformed 4)
first_version hash pack is = ap (λ (b : Bool). if b then Err (packs.Malformed 4) else read hash pack) (sym is)

pub later_version : (hash : Kind) (pack : List ℕ) → false ≡ starts_with nat_eq pack (mark ++ version_text V1) → pack_read hash pack ≡ read hash pack
later_version hash pack is = ap (λ (b : Bool). if b then Err (packs.Malformed 4) else read hash pack) (sym is)

version_of : (v : PackVersion) (hash : Kind) (ps : List Payload) (pack : List ℕ) (c : Contents) → pack ≡ pack_text v hash ps → pack_read hash pack ≡ Ok c → v ≡ V2
version_of V2 hash ps pack c text is = refl
version_of V1 hash ps pack c text is =
    let first : pack_read hash (pack_text V1 hash ps) ≡ Err (packs.Malformed 4) = first_version hash (pack_text V1 hash ps) refl in
    let both : ◌≡◌ {A = Result Contents PackError} (Ok c) (Err (packs.Malformed 4)) = sym is ∙ ap (pack_read hash) text ∙ first in absurd cc

-- ---- each object once

once_few : (kept es : Entries) → length (once_from kept es) ≤ length kept + length es
once_few kept [] = omega arith
once_few kept (e ∷ es) = by_test (list_any (λ x. is_id e.0 x.0) kept) (once_few kept es) (once_few (kept ++ e ∷ []) es)
  where
    by_test : (b : Bool) → length (once_from kept es) ≤ length kept + length es → length (once_from (kept ++ e ∷ []) es) ≤ length (kept ++ e ∷ []) + length es → length (once_from (cond b kept (kept ++ e ∷ [])) es) ≤ length kept + suc (length es)
    by_test true old new = omega arith
    by_test false old new = let n = length-append kept (e ∷ []) in omega arith

once_all : (kept es : Entries) → length (once_from kept es) ≡ length kept + length es → once_from kept es ≡ kept ++ es
once_all kept [] same = sym (append-nil kept)
once_all kept (e ∷ es) same = by_test (list_any (λ x. is_id e.0 x.0) kept) (once_few kept es) (once_all (kept ++ e ∷ []) es) same
  where
    by_test : (b : Bool) → length (once_from kept es) ≤ length kept + length es → (length (once_from (kept ++ e ∷ []) es) ≡ length (kept ++ e ∷ []) + length es → once_from (kept ++ e ∷ []) es ≡ (kept ++ e ∷ []) ++ es)
        → length (once_from (cond b kept (kept ++ e ∷ [])) es) ≡ length kept + suc (length es) → once_from (cond b kept (kept ++ e ∷ [])) es ≡ kept ++ e ∷ es
    by_test true few rest same = absurd (omega arith)
    by_test false few rest same =
        let n = length-append kept (e ∷ []) in
        let len : length (once_from (kept ++ e ∷ []) es) ≡ length (kept ++ e ∷ []) + length es = omega arith in rest len ∙ append_assoc kept (e ∷ []) es

payloads_again : (hash : Kind) (ps : List Payload) → payloads_of (map (λ (e : ObjectId × Stored). e.1) (entries hash ps)) ≡ ps
payloads_again hash [] = refl
payloads_again hash (p ∷ ps) = ap (λ (qs : List Payload). p ∷ qs) (payloads_again hash ps)

-- ---- the pack of what it holds

pub record HasPack (hash : Kind) (pack : List ℕ) (c : Contents) : Type 0 where
  pub text : pack ≡ pack_text V2 hash (payloads_of (map (λ (e : ObjectId × Stored). e.1) c.objects))
  pub digest_is : c.digest ≡ digest hash (body V2 hash (payloads_of (map (λ (e : ObjectId × Stored). e.1) c.objects)))

pub has_pack : (hash : Kind) (pack : List ℕ) (c : Contents) (v : PackVersion) (ps : List Payload) → pack_read hash pack ≡ Ok c → IsPack v hash pack ps → c ≡ contents_of v hash ps → c.count ≡ length c.objects → HasPack hash pack c
has_pack hash pack c v ps is found holds once =
    let two = version_of v hash ps pack c found.text is in
    let count : c.count ≡ length ps = ap (λ (x : Contents). x.count) holds in
    let objects : c.objects ≡ once_from [] (entries hash ps) = ap (λ (x : Contents). x.objects) holds in
    let many = length-map ps (entry hash) in
    let len : length (once_from [] (entries hash ps)) ≡ 0 + length (entries hash ps) = (let a = ap (length {A = ObjectId × Stored}) objects in omega arith) in
    let all : c.objects ≡ entries hash ps = objects ∙ once_all [] (entries hash ps) len in
    let again : payloads_of (map (λ (e : ObjectId × Stored). e.1) c.objects) ≡ ps = ap (λ (es : Entries). payloads_of (map (λ (e : ObjectId × Stored). e.1) es)) all ∙ payloads_again hash ps in
    record {
      text = found.text ∙ ap (λ (w : PackVersion). pack_text w hash ps) two ∙ ap (pack_text V2 hash) (sym again);
      digest_is = ap (λ (x : Contents). x.digest) holds ∙ ap (λ (w : PackVersion). digest hash (body w hash ps)) two ∙ ap (λ (qs : List Payload). digest hash (body V2 hash qs)) (sym again);
    }

-- ---- the bundle

abbrev pub bundled_of : Said → Contents → Bundled
bundled_of s c = record { hash = s.hash; names = s.names; border = s.border; objects = c.objects }

pub is_bundle : (bytes : List ℕ) (s : Said) (c : Contents) (v : PackVersion) (ps : List Payload) → Says bytes s → pack_read s.hash s.pack ≡ Ok c → IsPack v s.hash s.pack ps → c ≡ contents_of v s.hash ps → HoldsWhole s.names s.border c
    → IsBundle (bundled_of s c) × (bytes ≡ bundle_text (bundled_of s c))
is_bundle bytes s c v ps says is found holds whole =
    let b = bundled_of s c in
    let p = has_pack s.hash s.pack c v ps is found holds whole.once in
    let same : s ≡ said_in b = ap (λ (x : List ℕ). record { hash = s.hash; names = s.names; border = s.border; pack = x }) p.text in
    let contents : c ≡ contents_in b = ap₂ (λ (n : ℕ) (d : ObjectId). record { objects = c.objects; count = n; digest = d }) whole.once p.digest_is in (
      record {
        can = subst CanStand same says.can;
        pack = sym (ap (pack_read s.hash) p.text) ∙ is ∙ ap (λ (x : Contents). Ok x) contents;
        whole = whole.whole;
      },
      says.text ∙ ap (λ (x : Said). lines_text (said_lines x)) same,
    )

-- ---- refusals of the pack

pub no_pack : (hash : Kind) (pack : List ℕ) (e : PackError) → is_memory e ≡ false → false ≡ starts_with nat_eq pack (mark ++ version_text V1) → OnFalse (is_memory e) (read hash pack ≡ Err e) → pack_read hash pack ≡ Err e
no_pack hash pack e m later is = later_version hash pack later ∙ by_test (is_memory e) m is
  where
    by_test : (b : Bool) → b ≡ false → OnFalse b (read hash pack ≡ Err e) → read hash pack ≡ Err e
    by_test true n h = absurd cc
    by_test false n h = h
