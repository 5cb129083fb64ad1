-- A store of the objects that are read.
use Rattle.std.proofs.Common.{◌≡◌, ℕ, List, Option, Some, None, Result, Ok, [], map, sym, ap, subst, ◌∙◌}
use Rattle.std.specs.FinMap as finmap
use Rattle.std.specs.List.Sorted.{IsStrictlySortedBy}
use Rattle.fetch_base.specs.declared.id.Kind.{Kind}
use Rattle.fetch_base.specs.declared.id.ObjectId.{ObjectId}
use Rattle.fetch_objects.specs.Objects.{Stored}
use Rattle.fetch_store.specs.Stores.{AreOf, Entries, add_all, collision, first_some, map_of}
use Rattle.fetch_base.specs.Id.{id_cmp}
use Rattle.fetch_store.proofs.Additions.{get-add_all}
use Rattle.fetch_store.proofs.Finds.{get-map_of}
use Rattle.fetch_base.proofs.Ids.{id_cmp_total, id_cmp_exact}
use Rattle.fetch_pack.specs.declared.error.PackError.{PackError}
use Rattle.fetch_pack.specs.Reading.{◌>>=◌, Contents, Frame, all_parsed, distinct, ids_of, once_from, paired, read, structure, unless, with_digest, with_ids}
use Rattle.fetch_pack.specs.Records.{Payload, Written}
use Rattle.fetch_pack.proofs.Laws.{bind_ok, paired_entries, parsed_found}
use Rattle.fetch_pack.proofs.Members.{once_of_kind}
use Rattle.fetch_refs.proofs.Maps.{entries-sorted}

pub all_added : (es : Entries) → add_all finmap.empty es ≡ map_of es
all_added es =
    finmap.same_map id_cmp_total id_cmp_exact (add_all finmap.empty es) (map_of es) (λ q.
    get-add_all finmap.empty es q ∙ ap (λ (o : Option Stored). first_some o (finmap.find id_cmp q es)) (finmap.get-empty id_cmp q) ∙ sym (get-map_of es q))

-- a map of entries in order has these entries
pub entries_are : (es : Entries) → IsStrictlySortedBy id_cmp (map (λ (e : ObjectId × Stored). e.0) es) → finmap.entries (map_of es) ≡ es
entries_are es s = entries-sorted id_cmp_total id_cmp_exact es s

-- ---- what a pack is read as is of its hash

unless_kept : (kept : Entries) (o : Option ObjectId) (c : Entries) → unless kept o ≡ Ok c → kept ≡ c
unless_kept kept (Some id) c e = absurd cc
unless_kept kept None c e = cc

same_contents : (a b : Contents) → ◌≡◌ {A = Result Contents PackError} (Ok a) (Ok b) → a ≡ b
same_contents a b e = cc

abbrev made : Frame → Entries → Contents
made f kept = record { objects = kept; count = f.count; digest = f.digest }

abbrev named : Kind → Frame → List Stored → Result Contents PackError
named hash f os = with_ids f.version hash f.written (ids_of hash os) >>= λ _. distinct (paired (ids_of hash os) os) >>= λ kept. Ok (made f kept)

abbrev checked : Kind → Frame → Result Contents PackError
checked hash f = all_parsed f.version hash 12 f.written >>= λ os. named hash f os

of_kept : (hash : Kind) (f : Frame) (kept : Entries) (c : Contents) → AreOf hash kept → ◌≡◌ {A = Result Contents PackError} (Ok (made f kept)) (Ok c) → AreOf hash c.objects
of_kept hash f kept c of_hash is = subst (λ (x : Contents). AreOf hash x.objects) (same_contents (made f kept) c is) of_hash

of_distinct : (hash : Kind) (f : Frame) (es : Entries) (c : Contents) → AreOf hash (once_from [] es) → (distinct es >>= λ kept. Ok (made f kept)) ≡ Ok c → AreOf hash c.objects
of_distinct hash f es c of_hash e =
    let d = bind_ok (distinct es) (λ kept. Ok (made f kept)) c e in
    let kept = unless_kept (once_from [] es) (collision finmap.empty es) d.0 d.1 in
    of_kept hash f d.0 c (subst (AreOf hash) kept of_hash) d.2

of_named : (hash : Kind) (f : Frame) (os : List Stored) (c : Contents) → AreOf hash (once_from [] (paired (ids_of hash os) os)) → named hash f os ≡ Ok c → AreOf hash c.objects
of_named hash f os c of_hash e =
    let i = bind_ok (with_ids f.version hash f.written (ids_of hash os)) (λ _. distinct (paired (ids_of hash os) os) >>= λ kept. Ok (made f kept)) c e in
    of_distinct hash f (paired (ids_of hash os) os) c of_hash i.2

of_checked : (hash : Kind) (f : Frame) (c : Contents) → checked hash f ≡ Ok c → AreOf hash c.objects
of_checked hash f c e =
    let p = bind_ok (all_parsed f.version hash 12 f.written) (named hash f) c e in
    let all = parsed_found f.version hash 12 f.written p.0 p.1 in
    let ps : List Payload = map (λ (w : Written). w.payload) f.written in
    of_named hash f p.0 c
    (subst (λ (os : List Stored). AreOf hash (once_from [] (paired (ids_of hash os) os))) all.1 (subst (λ (es : Entries). AreOf hash (once_from [] es)) (sym (paired_entries hash ps)) (once_of_kind hash ps))) p.2

pub of_read : (hash : Kind) (bytes : List ℕ) (c : Contents) → read hash bytes ≡ Ok c → AreOf hash c.objects
of_read hash bytes c e =
    let a = bind_ok (structure hash bytes) (λ fr. with_digest hash fr >>= λ f. checked hash f) c e in
    let b = bind_ok (with_digest hash a.0) (checked hash) c a.2 in
    of_checked hash b.0 c b.2
