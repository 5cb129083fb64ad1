-- What the program answers.
use Rattle.std.proofs.Common.{◌≡◌, ◌⊎◌, ℕ, suc, ◌<◌, ◌≤◌, Bool, true, false, List, length, replicate, Option, Some, None, Result, Ok, Err, nat_lt, refl, sym, ap, inl, inr, arith}
use Rattle.std.specs.Prelude.{◌==◌, if◌then◌else◌}
use Rattle.std.proofs.lemmas.List.{length-replicate}
use Rattle.std.proofs.lemmas.Bool.Decides.{nat_tests}
use Rattle.fetch_remote.specs.Fetching.{requests_in}
use Rattle.fetch_remote.specs.Repositories.{State}
use Rattle.fetch_remote.specs.declared.fetching.fetch_error.FetchError.{FetchError}
use Rattle.fetch_remote.specs.declared.fetching.fetch_error.FetchError.TheVariants as errors
use Rattle.fetch_remote.specs.declared.fetching.outcome.Outcome.{Outcome}
use Rattle.fetch_lines.specs.declared.lines.line.Line.{Line}
use Rattle.fetch_bench_scene.specs.Bench.{generated_scene}
use Rattle.fetch_cli.specs.Bench.{summary_with, summary_of, IsSummary}
use Rattle.fetch_cli.specs.Io.{IsLongerThan}
use Rattle.fetch_cli.specs.Report.{report_with, report_of, given_of, found_of, stream_of, fetched_by, left_by, keep_left_by, IsReport}
use Rattle.fetch_cli.specs.ReportLines.{malformed_line}
use Rattle.fetch_cli.specs.Run.{Are, IsSceneAnswer, IsServerAnswer, IsBytesAnswer, IsInputAnswer, IsAnswerTo, IsAnswer, HasFindings, HasValidScene, AsksBench, bench_status}
use Rattle.fetch_cli.specs.ServerScenes.{server_scene_of}
use Rattle.fetch_cli.specs.Checks.{IsChecked}
use Rattle.fetch_cli.specs.declared.program.running.Task.{Task}
use Rattle.fetch_cli.specs.declared.program.running.Task.TheVariants as tasks
use Rattle.fetch_cli.specs.declared.program.server_scene.ServerScene.{ServerScene}
use Rattle.fetch_cli.proofs.Checked.{one_checked, status_checked, text_checked}
use Rattle.fetch_cli.proofs.Reported.{valid_fetched}
use Rattle.fetch_check.specs.Telling.{count_of, findings_status, findings_text, status_of}
use Rattle.fetch_check.specs.declared.findings.Findings.{Findings}
use Rattle.fetch_remote.specs.Valid.{IsValidInput}
use Rattle.fetch_scene.specs.Scene.{limit, scene_of}
use Rattle.fetch_cli.specs.Words.{command_of}
use Rattle.fetch_cli.specs.Written.{IsAnswered}
use Rattle.fetch_scene.specs.declared.scene.Scene.{Scene}
use Rattle.fetch_cli.specs.declared.program.words.Command.{Command}
use Rattle.fetch_cli.specs.declared.program.words.Command.TheVariants.{Fetch, Check, Bench, Help, Version}

-- ---- a text that is longer than a scene may be

long : (bytes : List ℕ) → limit < length bytes → scene_of bytes ≡ Err limit
unfolding scene_of
long bytes h =
    let t : nat_lt limit (length bytes) ≡ true = grind (arith, nat_tests) in
    rw t refl

long_server : (bytes : List ℕ) → limit < length bytes → server_scene_of bytes ≡ Err limit
unfolding server_scene_of
long_server bytes h =
    let t : nat_lt limit (length bytes) ≡ true = grind (arith, nat_tests) in
    rw t refl

long_bytes : (task : Task) (bytes : List ℕ) (status : ℕ) (text : List ℕ) → limit < length bytes → Are 4 (malformed_line limit) status text → IsBytesAnswer task bytes status text
long_bytes tasks.Fetch bytes status text h is = rw (long bytes h) is
long_bytes tasks.Check bytes status text h is = rw (long_server bytes h) is

next : (n : ℕ) → n < suc n
next n = omega arith

-- a source that tells nothing may have had any bytes
told_none : (task : Task) (n status : ℕ) (text : List ℕ) → limit < n → Are 4 (malformed_line limit) status text → IsInputAnswer task None status text
told_none task n status text h is =
    let far : limit < length (replicate {A = ℕ} n 0) = rw (length-replicate {A = ℕ} n 0) h in
    record { bytes = replicate {A = ℕ} n 0; read = tt; answer = long_bytes task (replicate {A = ℕ} n 0) status text far is }

pub answers_too_long : (task : Task) (input : Option (List ℕ)) (status : ℕ) (text : List ℕ) → IsLongerThan limit input → Are 4 (malformed_line limit) status text → IsInputAnswer task input status text
answers_too_long task None status text h is = told_none task (suc limit) status text (next limit) is
answers_too_long task (Some bytes) status text h is = record { bytes = bytes; read = refl; answer = long_bytes task bytes status text h is }

-- ---- the statuses of answers

answered_by : (wanted status : ℕ) → status ≡ wanted → IsAnswered wanted → IsAnswered status
answered_by wanted status is h = rw is h

zero_answers : IsAnswered 0
zero_answers = inl (omega arith)

one_answers : IsAnswered 1
one_answers = inl (omega arith)

four_answers : IsAnswered 4
four_answers = inr refl

answered_with : (sent : List Line) (result : Result (Outcome × State) FetchError) (left : State) (keep : Option (List ℕ)) → IsAnswered (report_with sent result left keep).0
answered_with sent (Ok x) left keep = zero_answers
answered_with sent (Err (errors.Prepare e)) left keep = one_answers
answered_with sent (Err (errors.Receive e)) left keep = one_answers
answered_with sent (Err errors.NoMemory) left keep = one_answers

answered_report : (scene : Scene) → IsAnswered (report_of scene).0
unfolding report_of
answered_report scene = answered_with (requests_in (given_of scene) (found_of scene) (stream_of scene)) (fetched_by scene) (left_by scene) (keep_left_by scene)

known_report : (scene : Scene) (status : ℕ) (text : List ℕ) → IsReport scene status text → IsAnswered status
known_report scene status text r = answered_by (report_of scene).0 status (sym (ap (λ (x : ℕ × List ℕ). x.0) r.whole)) (answered_report scene)

summed_with : (n : ℕ) (result : Result (Outcome × State) FetchError) → IsAnswered (summary_with n result).0
summed_with n (Ok x) = zero_answers
summed_with n (Err e) = one_answers

summed_scene : (n : ℕ) (scene : Scene) → IsAnswered (summary_of n scene).0
unfolding summary_of
summed_scene n scene = summed_with n (fetched_by scene)

known_summary : (n : ℕ) (scene : Scene) (status : ℕ) (text : List ℕ) → IsSummary n scene status text → IsAnswered status
known_summary n scene status text r = answered_by (summary_of n scene).0 status (sym (ap (λ (x : ℕ × List ℕ). x.0) r.whole)) (summed_scene n scene)

known_if : (none : Bool) → IsAnswered (if none then 0 else 1)
known_if true = zero_answers
known_if false = one_answers

known_findings : (count : ℕ) → IsAnswered (status_of count)
known_findings count = known_if (count == 0)

known_scene : (found : Result Scene ℕ) (status : ℕ) (text : List ℕ) → IsSceneAnswer found status text → IsAnswered status
known_scene (Ok scene) status text r = known_report scene status text r
known_scene (Err place) status text r = answered_by 4 status r.0 four_answers

known_server : (found : Result ServerScene ℕ) (status : ℕ) (text : List ℕ) → IsServerAnswer found status text → IsAnswered status
known_server (Ok scene) status text r = answered_by (findings_status r.findings) status r.status_is (known_findings (count_of r.findings))
known_server (Err place) status text r = answered_by 4 status r.0 four_answers

known_bytes : (task : Task) (bytes : List ℕ) (status : ℕ) (text : List ℕ) → IsBytesAnswer task bytes status text → IsAnswered status
known_bytes tasks.Fetch bytes status text r = known_scene (scene_of bytes) status text r
known_bytes tasks.Check bytes status text r = known_server (server_scene_of bytes) status text r

known_to : (command : Result Command ℕ) (input : Option (List ℕ)) (status : ℕ) (text : List ℕ) → IsAnswerTo command input status text → IsAnswered status
known_to (Err number) input status text r = answered_by 4 status r.0 four_answers
known_to (Ok Help) input status text r = answered_by 0 status r.0 zero_answers
known_to (Ok Version) input status text r = answered_by 0 status r.0 zero_answers
known_to (Ok (Bench count)) input status text r = known_summary count (generated_scene count) status text r
known_to (Ok Fetch) input status text r = known_bytes tasks.Fetch r.bytes status text r.answer
known_to (Ok Check) input status text r = known_bytes tasks.Check r.bytes status text r.answer

pub known : (words : List (List ℕ)) (input : Option (List ℕ)) (status : ℕ) (text : List ℕ) → IsAnswer words input status text → IsAnswered status
known words input status text r = known_to (command_of words) input status text r.is

-- ---- one answer

one_report : (s : Scene) (status other : ℕ) (text another : List ℕ) → IsReport s status text → IsReport s other another → status ≡ other
one_report s status other text another r t =
    let a : (report_of s).0 ≡ status = ap (λ (x : ℕ × List ℕ). x.0) r.whole in
    let b : (report_of s).0 ≡ other = ap (λ (x : ℕ × List ℕ). x.0) t.whole in
    cc

one_summary : (n : ℕ) (s : Scene) (status other : ℕ) (text another : List ℕ) → IsSummary n s status text → IsSummary n s other another → status ≡ other
one_summary n s status other text another r t =
    let a : (summary_of n s).0 ≡ status = ap (λ (x : ℕ × List ℕ). x.0) r.whole in
    let b : (summary_of n s).0 ≡ other = ap (λ (x : ℕ × List ℕ). x.0) t.whole in
    cc

one_scene : (found : Result Scene ℕ) (status other : ℕ) (text another : List ℕ) → IsSceneAnswer found status text → IsSceneAnswer found other another → status ≡ other
one_scene (Ok scene) status other text another r t = one_report scene status other text another r t
one_scene (Err place) status other text another r t = let a = r.0 in let b = t.0 in cc

one_server : (found : Result ServerScene ℕ) (status other : ℕ) (text another : List ℕ) → IsServerAnswer found status text → IsServerAnswer found other another → status ≡ other
one_server (Ok scene) status other text another r t = one_checked scene status other text another r t
one_server (Err place) status other text another r t = let a = r.0 in let b = t.0 in cc

one_bytes : (task : Task) (bytes : List ℕ) (status other : ℕ) (text another : List ℕ) → IsBytesAnswer task bytes status text → IsBytesAnswer task bytes other another → status ≡ other
one_bytes tasks.Fetch bytes status other text another r t = one_scene (scene_of bytes) status other text another r t
one_bytes tasks.Check bytes status other text another r t = one_server (server_scene_of bytes) status other text another r t

one_input : (task : Task) (bytes : List ℕ) (status other : ℕ) (text another : List ℕ) → IsInputAnswer task (Some bytes) status text → IsInputAnswer task (Some bytes) other another → status ≡ other
one_input task bytes status other text another r t =
    let a : IsBytesAnswer task bytes status text = rw (sym r.read) r.answer in
    let b : IsBytesAnswer task bytes other another = rw (sym t.read) t.answer in
    one_bytes task bytes status other text another a b

one_to : (command : Result Command ℕ) (bytes : List ℕ) (status other : ℕ) (text another : List ℕ) → IsAnswerTo command (Some bytes) status text → IsAnswerTo command (Some bytes) other another → status ≡ other
one_to (Err number) bytes status other text another r t = let a = r.0 in let b = t.0 in cc
one_to (Ok Help) bytes status other text another r t = let a = r.0 in let b = t.0 in cc
one_to (Ok Version) bytes status other text another r t = let a = r.0 in let b = t.0 in cc
one_to (Ok (Bench count)) bytes status other text another r t = one_summary count (generated_scene count) status other text another r t
one_to (Ok Fetch) bytes status other text another r t = one_input tasks.Fetch bytes status other text another r t
one_to (Ok Check) bytes status other text another r t = one_input tasks.Check bytes status other text another r t

-- words and input have one status
pub one : (words : List (List ℕ)) (input : Option (List ℕ)) (bytes : List ℕ) (status other : ℕ) (text another : List ℕ) → input ≡ Some bytes → IsAnswer words input status text → IsAnswer words (Some bytes) other another → status ≡ other
one words input bytes status other text another told r t =
    let a : IsAnswer words (Some bytes) status text = rw (sym told) r in
    one_to (command_of words) bytes status other text another a.is t.is

-- ---- the bench

-- a bench is answered with its summary
pub benched : (words : List (List ℕ)) (input : Option (List ℕ)) (count status : ℕ) (text : List ℕ) → AsksBench words count → IsAnswer words input status text → IsSummary count (generated_scene count) status text
benched words input count status text asks r = rw asks at r.is

-- and that has one status
pub bench_answered : (words : List (List ℕ)) (input : Option (List ℕ)) (count status : ℕ) (text : List ℕ) → AsksBench words count → IsAnswer words input status text → status ≡ bench_status count
bench_answered words input count status text asks r = sym (ap (λ (x : ℕ × List ℕ). x.0) (benched words input count status text asks r).whole)

-- ---- valid input

valid_scene : (found : Result Scene ℕ) (scene : Scene) (status : ℕ) (text : List ℕ) → found ≡ Ok scene → IsValidInput (given_of scene) scene.worktrees (found_of scene) (stream_of scene) → IsSceneAnswer found status text → status ≡ 0
valid_scene found scene status text is v r =
    let t : IsReport scene status text = rw is at r in
    valid_fetched scene status text v t

valid_input : (bytes : List ℕ) (scene : Scene) (status : ℕ) (text : List ℕ) → scene_of bytes ≡ Ok scene → IsValidInput (given_of scene) scene.worktrees (found_of scene) (stream_of scene) → IsInputAnswer tasks.Fetch (Some bytes) status text → status ≡ 0
valid_input bytes scene status text is v r =
    let a : IsSceneAnswer (scene_of bytes) status text = rw (sym r.read) r.answer in
    valid_scene (scene_of bytes) scene status text is v a

-- a scene with valid input is answered with 0
pub valid_answered : (words : List (List ℕ)) (input : Option (List ℕ)) (status : ℕ) (text : List ℕ) → HasValidScene words input → IsAnswer words input status text → status ≡ 0
valid_answered words input status text v r =
    let a : IsAnswerTo (Ok Fetch) (Some v.bytes) status text = rw v.asks at (rw v.told at r.is) in
    valid_input v.bytes v.scene status text v.is v.valid a

-- ---- findings

checked_scene : (found : Result ServerScene ℕ) (scene : ServerScene) (status : ℕ) (text : List ℕ) → found ≡ Ok scene → IsServerAnswer found status text → IsChecked scene status text
checked_scene found scene status text is r = rw is at r

checked_input : (bytes : List ℕ) (scene : ServerScene) (status : ℕ) (text : List ℕ) → server_scene_of bytes ≡ Ok scene → IsInputAnswer tasks.Check (Some bytes) status text → IsChecked scene status text
checked_input bytes scene status text is r =
    let a : IsServerAnswer (server_scene_of bytes) status text = rw (sym r.read) r.answer in
    checked_scene (server_scene_of bytes) scene status text is a

checked_answer : (words : List (List ℕ)) (input : Option (List ℕ)) (findings : Findings) (status : ℕ) (text : List ℕ) (h : HasFindings words input findings) → IsAnswer words input status text → IsChecked h.scene status text
checked_answer words input findings status text h r =
    let a : IsAnswerTo (Ok Check) (Some h.bytes) status text = rw h.asks at (rw h.told at r.is) in
    checked_input h.bytes h.scene status text h.is a

-- a check is answered with the text of the findings
pub findings_told : (words : List (List ℕ)) (input : Option (List ℕ)) (findings : Findings) (status : ℕ) (text : List ℕ) → HasFindings words input findings → IsAnswer words input status text → text ≡ findings_text findings
findings_told words input findings status text h r = text_checked h.scene findings status text h.found (checked_answer words input findings status text h r)

-- and with their status
pub findings_answered : (words : List (List ℕ)) (input : Option (List ℕ)) (findings : Findings) (status : ℕ) (text : List ℕ) → HasFindings words input findings → IsAnswer words input status text → status ≡ findings_status findings
findings_answered words input findings status text h r = status_checked h.scene findings status text h.found (checked_answer words input findings status text h r)
