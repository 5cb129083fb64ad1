-- What reading a bundle answers, from what its steps answer.
use Rattle.std.proofs.Common.{◌≡◌, ℕ, inr, List, Result, Ok, Err, sym, ap, ap₂, subst, ◌∙◌}
use Rattle.std.specs.Prelude.{IfOk, IfErr}
use Rattle.fetch_base.specs.declared.id.Kind.{Kind}
use Rattle.fetch_store.specs.Borders.{IdSet}
use Rattle.fetch_store.specs.Stores.{Entries}
use Rattle.fetch_pack.specs.Packs.{IsPack, contents_of}
use Rattle.fetch_pack.specs.Reading.{Contents}
use Rattle.fetch_pack.specs.Records.{Payload}
use Rattle.fetch_pack.specs.declared.version.PackVersion.{PackVersion}
use Rattle.fetch_refs.specs.Names.{Names, RefsValue}
use Rattle.fetch_check.specs.declared.error.BundleError.{BundleError}
use Rattle.fetch_check.specs.declared.error.BundleError.TheVariants.{Missing, Broken, NameTooLong, Malformed, Pack, NoMemory}
use Rattle.fetch_check.specs.declared.reading.Bundle.{Bundle}
use Rattle.fetch_check.specs.Bundles.{Bundled, Said, bundle_text}
use Rattle.fetch_check.specs.ReadSteps.{IsPackRefused, IsPartRefused}
use Rattle.fetch_check.specs.Reading.{HoldsWhole, IsBundle, IsRefused, Says, bundle_of, pack_place, pack_read, refs_alone}
use Rattle.fetch_check.proofs.Packed.{bundled_of, is_bundle}

-- ---- refusals

pub pack_refused : (bytes : List ℕ) (s : Said) (e : BundleError) → Says bytes s → IsPackRefused s.hash s.pack e → IsRefused bytes e
pack_refused bytes s (Pack e) says is = record { said = s; says = says; pack = is }
pack_refused bytes s NoMemory says is = tt
pack_refused bytes s (Malformed place) says is = absurd is
pack_refused bytes s (Missing link) says is = is
pack_refused bytes s (Broken broken) says is = is
pack_refused bytes s (NameTooLong name) says is = is

pub part_refused : (bytes : List ℕ) (s : Said) (c : Contents) (place : ℕ) (e : BundleError) → Says bytes s → place ≡ pack_place s → pack_read s.hash s.pack ≡ Ok c → IsPartRefused s.names s.border c place e → IsRefused bytes e
part_refused bytes s c place (Malformed p) says there is part = inr (record { said = s; says = says; contents = c; pack = is; part = part.1; there = part.0 ∙ there })
part_refused bytes s c place NoMemory says there is part = tt
part_refused bytes s c place (Pack e) says there is part = absurd part
part_refused bytes s c place (Missing link) says there is part = part
part_refused bytes s c place (Broken broken) says there is part = part
part_refused bytes s c place (NameTooLong name) says there is part = part

pub if_part_refused : (bytes : List ℕ) (s : Said) (c : Contents) (place : ℕ) (r : Result Bundle BundleError) → Says bytes s → place ≡ pack_place s → pack_read s.hash s.pack ≡ Ok c → IfErr r (λ e. IsPartRefused s.names s.border c place e)
    → IfErr r (λ e. IsRefused bytes e)
if_part_refused bytes s c place (Ok x) says there is part = tt
if_part_refused bytes s c place (Err e) says there is part = part_refused bytes s c place e says there is part

-- ---- what is read

same_bundle : (x : Bundle) (s : Said) (c : Contents) → x.hash ≡ s.hash → x.refs.names ≡ s.names → x.border ≡ s.border → x.objects ≡ c.objects → bundle_of x ≡ bundled_of s c
same_bundle x s c h n b o =
    ap (λ (k : Kind). record { hash = k; names = x.refs.names; border = x.border; objects = x.objects }) h ∙ ap (λ (k : Names). record { hash = s.hash; names = k; border = x.border; objects = x.objects }) n
    ∙ ap (λ (k : IdSet). record { hash = s.hash; names = s.names; border = k; objects = x.objects }) b ∙ ap (λ (k : Entries). record { hash = s.hash; names = s.names; border = s.border; objects = k }) o

pub if_found : (bytes : List ℕ) (s : Said) (c : Contents) (v : PackVersion) (ps : List Payload) (refs : RefsValue) (r : Result Bundle BundleError) → Says bytes s → refs.names ≡ s.names → pack_read s.hash s.pack ≡ Ok c
    → IsPack v s.hash s.pack ps → c ≡ contents_of v s.hash ps → IfOk r (λ x. HoldsWhole s.names s.border c) → IfOk r (λ x. (x.hash ≡ s.hash) × (x.refs ≡ refs) × (x.border ≡ s.border)) → IfOk r (λ x. x.objects ≡ c.objects)
    → IfOk r (λ x. IsBundle (bundle_of x) × (bytes ≡ bundle_text (bundle_of x)))
if_found bytes s c v ps refs (Err e) says names is found holds whole header objects = tt
if_found bytes s c v ps refs (Ok x) says names is found holds whole header objects =
    let same = same_bundle x s c header.0 (ap (λ (q : RefsValue). q.names) header.1 ∙ names) header.2 objects in
    subst (λ (b : Bundled). IsBundle b × (bytes ≡ bundle_text b)) (sym same) (is_bundle bytes s c v ps says is found holds whole)

pub if_alone : (hash : Kind) (refs : RefsValue) (border : IdSet) (r : Result Bundle BundleError) → refs ≡ refs_alone hash refs.names → IfOk r (λ x. (x.hash ≡ hash) × (x.refs ≡ refs) × (x.border ≡ border))
    → IfOk r (λ x. x.refs ≡ refs_alone x.hash x.refs.names)
if_alone hash refs border (Err e) alone header = tt
if_alone hash refs border (Ok x) alone header = header.1 ∙ alone ∙ ap₂ (λ (k : Kind) (q : RefsValue). refs_alone k q.names) (sym header.0) (sym header.1)

-- ---- what the lines say

pub same_said : (hash : Kind) (names names' : Names) (border border' : IdSet) (pack pack' : List ℕ) → names ≡ names' → border ≡ border' → pack ≡ pack'
    → ◌≡◌ {A = Said} (record { hash = hash; names = names; border = border; pack = pack }) (record { hash = hash; names = names'; border = border'; pack = pack' })
same_said hash names names' border border' pack pack' n b p =
    ap (λ (k : Names). record { hash = hash; names = k; border = border; pack = pack }) n ∙ ap (λ (k : IdSet). record { hash = hash; names = names'; border = k; pack = pack }) b
    ∙ ap (λ (k : List ℕ). record { hash = hash; names = names'; border = border'; pack = k }) p

-- ---- refusals for one place

pub malformed : (bytes : List ℕ) (place : ℕ) (e : BundleError) → e ≡ Malformed place → IsRefused bytes (Malformed place) → IsRefused bytes e
malformed bytes place e is cause = subst (IsRefused bytes) (sym is) cause
