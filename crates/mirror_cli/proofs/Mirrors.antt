-- What is told of the mirror of a scene.
use Rattle.std.proofs.Common.{◌≡◌, ◌⊎◌, ℕ, List, Result, Ok, Err, sym, ap, ◌∙◌, subst, inl, inr}
use Rattle.std.specs.Prelude.{IfErr, IfOk}
use Rattle.fetch_store.specs.Borders.{IdSet}
use Rattle.fetch_store.specs.Stores.{StoreValue}
use Rattle.fetch_refs.specs.Names.{RefsValue}
use Rattle.fetch_refs.specs.declared.log.Signature.{Signature}
use Rattle.fetch_remote.specs.Repositories.{Setup, State}
use Rattle.fetch_remote.specs.RepositoryValues.{RepositoryValue}
use Rattle.fetch_serve.specs.Served.{Data, data_of}
use Rattle.fetch_mirror.specs.Copying.{IsCopied, IsUncopied}
use Rattle.fetch_mirror.specs.Mirroring.{IsFew}
use Rattle.fetch_mirror.specs.Mirrors.{IsMirrored}
use Rattle.fetch_mirror.specs.declared.error.MirrorError.{MirrorError}
use Rattle.fetch_mirror.specs.declared.error.MirrorError.TheVariants as errors
use Rattle.fetch_mirror.specs.declared.options.MirrorOptions.{MirrorOptions}
use Rattle.fetch_mirror.specs.declared.options.Mirrored.{Mirrored}
use Rattle.fetch_cli.specs.Checks.{repository_of}
use Rattle.fetch_cli.specs.Report.{committer, setup_in}
use Rattle.fetch_cli.specs.ReportLines.{refused_line}
use Rattle.fetch_cli.specs.Run.{Are}
use Rattle.fetch_cli.specs.declared.program.server_scene.ServerScene.{ServerScene}
use Rattle.mirror_cli.specs.MirrorReports.{IsReportOf}
use Rattle.mirror_cli.specs.MirrorRun.{IsMirrorOf, IsTold, TellsMirror, TellsRefusal, data_in, mirror_options, reply_bound, served_in}
use Rattle.mirror_cli.specs.MirrorTokens.{mirror_token}
use Rattle.mirror_cli.proofs.Reports.{told_whole}

-- ---- the same mirror, by what is served

-- what a store and references hold is what is served of their repository
pub served_so : (state : State) (store : StoreValue) (refs : RefsValue) → store.hash ≡ state.hash → store.objects ≡ state.objects → refs ≡ state.refs → data_of store refs ≡ served_in state
served_so state store refs hash objects refs_are = λ i. record { hash = hash i; objects = objects i; names = (refs_are i).names }

pub copied_so : (d e : Data) (who : Signature) (workers bound : ℕ) (result : Result Mirrored MirrorError) → d ≡ e
    → IfOk result (λ m. IsCopied d who workers bound m.repo m.journal) → IfOk result (λ m. IsCopied e who workers bound m.repo m.journal)
copied_so d e who workers bound result is h = subst (λ (x : Data). IfOk result (λ m. IsCopied x who workers bound m.repo m.journal)) is h

pub mirrored_so : (d e : Data) (who : Signature) (workers : ℕ) (result : Result Mirrored MirrorError) → d ≡ e
    → IfOk result (λ m. IsMirrored d workers who m.journal m.repo) → IfOk result (λ m. IsMirrored e workers who m.journal m.repo)
mirrored_so d e who workers result is h = subst (λ (x : Data). IfOk result (λ m. IsMirrored x workers who m.journal m.repo)) is h

pub uncopied_so : (d e : Data) (border other : IdSet) (who : Signature) (workers bound : ℕ) (result : Result Mirrored MirrorError) → d ≡ e → border ≡ other
    → IfErr result (λ c. IsUncopied d border who workers bound c) → IfErr result (λ c. IsUncopied e other who workers bound c)
uncopied_so d e border other who workers bound result is same h =
    subst (λ (x : Data × IdSet). IfErr result (λ c. IsUncopied x.0 x.1 who workers bound c)) (λ i. (is i, same i)) h

-- ---- what is told

-- by how it was made
abbrev IsCopiedBy : Data → MirrorOptions → Result Mirrored MirrorError → Type 0
IsCopiedBy d options result = IfOk result (λ m. IsCopied d options.committer options.workers options.max_reply_bytes m.repo m.journal)

abbrev IsMirroredBy : Data → MirrorOptions → Result Mirrored MirrorError → Type 0
IsMirroredBy d options result = IfOk result (λ m. IsMirrored d options.workers options.committer m.journal m.repo)

abbrev IsUncopiedBy : Data → IdSet → MirrorOptions → Result Mirrored MirrorError → Type 0
IsUncopiedBy d border options result = IfErr result (λ e. IsUncopied d border options.committer options.workers options.max_reply_bytes e)

module _ (workers : ℕ) (s : ServerScene) where
  here : MirrorOptions
  here = mirror_options workers committer

  told_so : (result : Result Mirrored MirrorError) → IsMirroredBy (data_in s) here result → IsCopiedBy (data_in s) here result
      → IsUncopiedBy (data_in s) (repository_of s).border here result → (status : ℕ) (text : List ℕ) → IsTold result status text → IsMirrorOf workers s status text
  unfolding committer here
  told_so (Ok m) mirrored copied uncopied status text told =
      let one : IsReportOf (data_in s) text = subst (λ (x : List ℕ). IsReportOf (data_in s) x) (sym told.1)
      (told_whole (data_in s) m.repo.state (record { names = mirrored.names; ids = mirrored.ids })) in
      let mirror : TellsMirror workers s status text =
      record { repo = m.repo; journal = m.journal; copied = copied; mirrored = mirrored; report = told; exact = one } in
      record { is = inl mirror }
  told_so (Err e) mirrored copied uncopied status text told =
      let refusal : TellsRefusal workers s status text = record { cause = e; uncopied = uncopied; known = told.0; report = told.1 } in
      record { is = inr refusal }

  -- a repository that was set up by the scene, mirrored by its own committer
  pub mirror_told : (repo : RepositoryValue) (options : MirrorOptions) (result : Result Mirrored MirrorError)
      → repo.state ≡ repository_of s → repo.setup ≡ setup_in s.local.head s.local.config → options ≡ mirror_options workers repo.setup.settings.committer
      → IsMirroredBy (served_in repo.state) options result → IsCopiedBy (served_in repo.state) options result
      → IsUncopiedBy (served_in repo.state) repo.state.border options result
      → (status : ℕ) (text : List ℕ) → IsTold result status text → IsMirrorOf workers s status text
  unfolding committer here
  mirror_told repo options result state_is setup_is options_are mirrored copied uncopied status text told =
      let who_is : repo.setup.settings.committer ≡ committer = ap (λ (x : Setup). x.settings.committer) setup_is in
      let options_so : options ≡ here = options_are ∙ ap (λ (who : Signature). mirror_options workers who) who_is in
      told_so result
      (subst (λ (x : State × MirrorOptions). IsMirroredBy (served_in x.0) x.1 result) (λ i. (state_is i, options_so i)) mirrored)
      (subst (λ (x : State × MirrorOptions). IsCopiedBy (served_in x.0) x.1 result) (λ i. (state_is i, options_so i)) copied)
      (subst (λ (x : State × MirrorOptions). IsUncopiedBy (served_in x.0) x.0.border x.1 result) (λ i. (state_is i, options_so i)) uncopied)
      status text told

  -- ---- the count of workers

  pub workers_told : (status : ℕ) (text : List ℕ) → (IsFew workers → ⊥) → IsMirrorOf workers s status text → Are 1 (refused_line (mirror_token (errors.Workers workers))) status text
  workers_told status text many told = by_either told.is
    where
      by_cause : (e : MirrorError) → IsUncopied (data_in s) (repository_of s).border committer workers reply_bound e → Are 1 (refused_line (mirror_token e)) status text → Are 1 (refused_line (mirror_token (errors.Workers workers))) status text
      by_cause (errors.Workers count) is report = subst (λ (n : ℕ). Are 1 (refused_line (mirror_token (errors.Workers n))) status text) is.1 report
      by_cause (errors.Server e) is report = absurd (many is.0)
      by_cause (errors.List e) is report = absurd (many is.refused.0)
      by_cause (errors.Worker index e) is report = absurd (many is.refused.0)
      by_cause errors.NoMemory is report = absurd (many is)

      by_either : TellsMirror workers s status text ⊎ TellsRefusal workers s status text → Are 1 (refused_line (mirror_token (errors.Workers workers))) status text
      by_either (inl mirror) = absurd (many mirror.copied.few)
      by_either (inr refusal) = by_cause refusal.cause refusal.uncopied refusal.report
