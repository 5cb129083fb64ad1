-- All that is found in a repository is one value.
use Rattle.std.proofs.Common.{◌≡◌, ℕ, List, sym, ap, ◌∙◌}
use Rattle.fetch_base.specs.declared.id.ObjectId.{ObjectId}
use Rattle.fetch_store.specs.Borders.{ids_of}
use Rattle.fetch_store.specs.Closed.{Holding, holding}
use Rattle.fetch_store.proofs.Borders.{ids_of-set, same_sets}
use Rattle.fetch_refs.specs.Names.{Names}
use Rattle.fetch_remote.specs.Repositories.{State}
use Rattle.fetch_check.specs.Finding.{AreFindings, AreUnreached}
use Rattle.fetch_check.specs.Telling.{findings_status, findings_text}
use Rattle.fetch_check.specs.declared.findings.Findings.{Findings}
use Rattle.fetch_cli.specs.Checks.{AreFoundIn, IsChecked, repository_of}
use Rattle.fetch_cli.specs.declared.program.server_scene.ServerScene.{ServerScene}

-- an ascending list is known by its members
one_unreached : (names : Names) (h : Holding) (xs ys : List ObjectId) → AreUnreached names h xs → AreUnreached names h ys → xs ≡ ys
one_unreached names h xs ys a b =
    sym (ids_of-set xs a.ascending)
    ∙ ap ids_of (same_sets xs ys (λ q is. (b.each q).1 ((a.each q).0 is)) (λ q is. (a.each q).1 ((b.each q).0 is)))
    ∙ ids_of-set ys b.ascending

one_found : (names : Names) (h : Holding) (f g : Findings) → AreFindings names h f → AreFindings names h g → f ≡ g
one_found names h f g a b =
    let missing : f.missing ≡ g.missing = a.missing ∙ sym b.missing in
    let broken : f.broken ≡ g.broken = a.broken ∙ sym b.broken in
    let unreached : f.unreached ≡ g.unreached = one_unreached names h f.unreached g.unreached a.unreached b.unreached in
    λ i. record { missing = missing i; broken = broken i; unreached = unreached i }

one_in : (s : State) (f g : Findings) → AreFoundIn s f → AreFoundIn s g → f ≡ g
one_in s f g a b = one_found s.refs.names (holding s.objects s.border) f g a b

-- what is told of a scene is the status of its findings
pub status_checked : (scene : ServerScene) (findings : Findings) (status : ℕ) (text : List ℕ) → AreFoundIn (repository_of scene) findings → IsChecked scene status text → status ≡ findings_status findings
status_checked scene findings status text h r = r.status_is ∙ ap findings_status (one_in (repository_of scene) r.findings findings r.found h)

-- and their text
pub text_checked : (scene : ServerScene) (findings : Findings) (status : ℕ) (text : List ℕ) → AreFoundIn (repository_of scene) findings → IsChecked scene status text → text ≡ findings_text findings
text_checked scene findings status text h r = r.text_is ∙ ap findings_text (one_in (repository_of scene) r.findings findings r.found h)

-- so a scene has one status
pub one_checked : (scene : ServerScene) (status other : ℕ) (text another : List ℕ) → IsChecked scene status text → IsChecked scene other another → status ≡ other
one_checked scene status other text another r t = status_checked scene t.findings status text t.found r ∙ sym t.status_is
