-- References that are made by edits which aren't logged.
use Rattle.std.proofs.Common.{◌≡◌, ℕ, Bool, true, false, ◌&&◌, List, [], ◌∷◌, ◌++◌, Option, Some, None, map, cond, append_assoc, append-nil, refl, sym, ap, subst, ◌∙◌}
use Rattle.std.specs.List.{AllByRecursion}
use Rattle.std.specs.List.Sorted.{IsStrictlySortedBy}
use Rattle.std.specs.Ordering.{is_eq, ordering_reverse}
use Rattle.std.specs.declared.cmp.Ordering.TheVariants.{Less}
use Rattle.std.specs.Map.{keys_of}
use Rattle.std.specs.FinMap as finmap
use Rattle.fetch_base.specs.declared.id.Kind.{Kind}
use Rattle.fetch_refs.specs.Edits.{refs_after, changed}
use Rattle.fetch_refs.specs.Logs.{Logging, logs_after, updated, gets_line, after}
use Rattle.fetch_refs.specs.Names.{Names, Logs, PackedList, name_cmp}
use Rattle.fetch_refs.specs.Packed.{packed_after}
use Rattle.fetch_refs.specs.declared.edit.PackedRefs.TheVariants.{Never}
use Rattle.fetch_refs.specs.declared.edit.LogChange.{LogChange}
use Rattle.fetch_refs.specs.declared.log.Signature.{Signature}
use Rattle.fetch_refs.specs.declared.target.Target.{Target}
use Rattle.fetch_refs.specs.declared.target.Target.TheVariants.{Object, Symbolic}
use Rattle.fetch_refs.proofs.Names.{name_cmp_total, name_cmp_exact}
use Rattle.fetch_check.specs.Made.{edit_of}
use Rattle.fetch_check.specs.Reading.{refs_alone}

abbrev Reference : Type 0
Reference = List ℕ × Target

-- each reference at its name
abbrev put_all : Names → List Reference → Names
put_all names [] = names
put_all names (e ∷ es) = put_all (finmap.insert names e.0 e.1) es

names_are : (es : List Reference) (names : Names) → refs_after names (map edit_of es) ≡ put_all names es
names_are [] names = refl
names_are (e ∷ es) names = names_are es (finmap.insert names e.0 e.1)

and_false : (b : Bool) → (b && false) ≡ false
and_false true = refl
and_false false = refl

no_line : (name : List ℕ) (log : LogChange) (found : Option Target) (new : Target) → log.force_create_reflog ≡ false → gets_line false name log found new ≡ false
unfolding gets_line
no_line name log found new off = rw off (and_false _)

same_logs : (how : Logging) (logs : Logs) (name : List ℕ) (log : LogChange) (found : Option Target) (new : Target) → how.enabled ≡ false → log.force_create_reflog ≡ false → updated how logs name log found new ≡ logs
same_logs how logs name log found (Symbolic target) off quiet = refl
same_logs how logs name log found (Object id) off quiet = rw (off, no_line name log found (Object id) quiet) refl

logs_are : (how : Logging) (es : List Reference) (names : Names) (logs : Logs) → how.enabled ≡ false → logs_after how names logs (map edit_of es) ≡ logs
logs_are how [] names logs off = refl
logs_are how (e ∷ es) names logs off =
    ap (λ (l : Logs). logs_after how (changed names (edit_of e)) l (map edit_of es)) (same_logs how logs e.0 _ _ e.1 off refl) ∙ logs_are how es (changed names (edit_of e)) logs off

-- loose edits leave the packed list
list_is : (es : List Reference) (list : PackedList) → packed_after Never list (map edit_of es) ≡ list
list_is [] list = refl
list_is (e ∷ es) list = list_is es list

-- ---- ascending references are the entries of their map

below_it : (done : List Reference) (e : Reference) (es : List Reference) → IsStrictlySortedBy name_cmp (keys_of (done ++ e ∷ es)) → AllByRecursion (λ (d : Reference). name_cmp d.0 e.0 ≡ Less) done
unfolding IsStrictlySortedBy
below_it [] e es s = tt
below_it (d ∷ done) e es s = (first d.0 done s.0, below_it done e es s.1)
  where
    first : (k : List ℕ) (done : List Reference) → AllByRecursion (λ y. name_cmp k y ≡ Less) (keys_of (done ++ e ∷ es)) → name_cmp k e.0 ≡ Less
    first k [] all = all.0
    first k (x ∷ done) all = first k done all.1

absent : (e : Reference) (done : List Reference) → AllByRecursion (λ (d : Reference). name_cmp d.0 e.0 ≡ Less) done → finmap.find name_cmp e.0 done ≡ None
absent e [] all = refl
absent e (d ∷ done) all = ap (λ o. cond (is_eq o) (Some d.1) (finmap.find name_cmp e.0 done)) (name_cmp_total.antisymm e.0 d.0 ∙ ap ordering_reverse all.0) ∙ absent e done all.1

pub put_in_order : (done es : List Reference) → IsStrictlySortedBy name_cmp (keys_of (done ++ es)) → put_all (finmap.from_entries done) es ≡ finmap.from_entries (done ++ es)
put_in_order done [] s = ap (λ (xs : List Reference). finmap.from_entries xs) (sym (append-nil done))
put_in_order done (e ∷ es) s =
    let one : finmap.insert (finmap.from_entries {R = name_cmp} done) e.0 e.1 ≡ finmap.from_entries (done ++ e ∷ []) = sym (finmap.from_entries_push name_cmp_total name_cmp_exact done e.0 e.1 (absent e done (below_it done e es s))) in
    let whole : (done ++ e ∷ []) ++ es ≡ done ++ e ∷ es = append_assoc done (e ∷ []) es in
    ap (λ (m : Names). put_all m es) one ∙ put_in_order (done ++ e ∷ []) es (subst (λ (xs : List Reference). IsStrictlySortedBy name_cmp (keys_of xs)) (sym whole) s)
    ∙ ap (λ (xs : List Reference). finmap.from_entries xs) whole

pub made : (committer : Signature) (hash : Kind) (es : List Reference) → IsStrictlySortedBy name_cmp (keys_of es)
    → after committer false Never (record { hash = hash; names = finmap.empty; logs = finmap.empty; packed = finmap.empty }) (map edit_of es) ≡ refs_alone hash (finmap.from_entries es)
made committer hash es s =
    rw (names_are es finmap.empty, logs_are (record { hash = hash; committer = committer; enabled = false }) es finmap.empty finmap.empty refl, list_is es finmap.empty)
    (ap (λ (m : Names). refs_alone hash m) (put_in_order [] es s))
