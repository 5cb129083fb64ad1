-- References that are put in place by edits which aren't logged.
use Rattle.std.proofs.Common.{◌≡◌, ℕ, Bool, true, false, ◌&&◌, List, [], ◌∷◌, Option, map, refl, ap, ◌∙◌}
use Rattle.std.specs.FinMap as finmap
use Rattle.fetch_base.specs.declared.id.Kind.{Kind}
use Rattle.fetch_refs.specs.Edits.{refs_after, changed}
use Rattle.fetch_refs.specs.Logs.{Logging, logs_after, updated, gets_line, after}
use Rattle.fetch_refs.specs.Names.{Names, Logs, PackedList}
use Rattle.fetch_refs.specs.Packed.{packed_after}
use Rattle.fetch_refs.specs.declared.edit.PackedRefs.TheVariants.{Never}
use Rattle.fetch_refs.specs.declared.edit.LogChange.{LogChange}
use Rattle.fetch_refs.specs.declared.log.Signature.{Signature}
use Rattle.fetch_refs.specs.declared.target.Target.{Target}
use Rattle.fetch_refs.specs.declared.target.Target.TheVariants.{Object, Symbolic}
use Rattle.fetch_cli.specs.Opened.{edit_of}
use Rattle.fetch_cli.specs.Report.{with_references}
use Rattle.fetch_scene.specs.declared.references.Reference.{Reference}

names_are : (rs : List Reference) (names : Names) → refs_after names (map edit_of rs) ≡ with_references names rs
names_are [] names = refl
names_are (r ∷ rs) names = names_are rs (finmap.insert names r.name r.target)

and_false : (b : Bool) → (b && false) ≡ false
and_false true = refl
and_false false = refl

no_line : (name : List ℕ) (log : LogChange) (found : Option Target) (new : Target) → log.force_create_reflog ≡ false → gets_line false name log found new ≡ false
unfolding gets_line
no_line name log found new off = rw off (and_false _)

same_logs : (how : Logging) (logs : Logs) (name : List ℕ) (log : LogChange) (found : Option Target) (new : Target) → how.enabled ≡ false → log.force_create_reflog ≡ false → updated how logs name log found new ≡ logs
same_logs how logs name log found (Symbolic target) off quiet = refl
same_logs how logs name log found (Object id) off quiet = rw (off, no_line name log found (Object id) quiet) refl

logs_are : (how : Logging) (rs : List Reference) (names : Names) (logs : Logs) → how.enabled ≡ false → logs_after how names logs (map edit_of rs) ≡ logs
logs_are how [] names logs off = refl
logs_are how (r ∷ rs) names logs off =
    ap (λ (l : Logs). logs_after how (changed names (edit_of r)) l (map edit_of rs)) (same_logs how logs r.name _ _ r.target off refl) ∙ logs_are how rs (changed names (edit_of r)) logs off

-- loose edits leave the packed list
list_is : (rs : List Reference) (list : PackedList) → packed_after Never list (map edit_of rs) ≡ list
list_is [] list = refl
list_is (r ∷ rs) list = list_is rs list

pub opened : (committer : Signature) (hash : Kind) (rs : List Reference)
    → after committer false Never (record { hash = hash; names = finmap.empty; logs = finmap.empty; packed = finmap.empty }) (map edit_of rs) ≡ record { hash = hash; names = with_references finmap.empty rs; logs = finmap.empty; packed = finmap.empty }
opened committer hash rs =
    rw (names_are rs finmap.empty, logs_are (record { hash = hash; committer = committer; enabled = false }) rs finmap.empty finmap.empty refl, list_is rs finmap.empty) refl
