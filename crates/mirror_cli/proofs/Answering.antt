-- What is answered to a text that is too long, and the statuses of answers.
use Rattle.std.proofs.Common.{◌≡◌, ◌⊎◌, ℕ, suc, ◌<◌, ◌≤◌, true, List, length, replicate, Option, Some, None, Result, Ok, Err, nat_lt, refl, inl, inr, arith}
use Rattle.std.proofs.lemmas.List.{length-replicate}
use Rattle.std.proofs.lemmas.Bool.Decides.{nat_tests}
use Rattle.fetch_scene.specs.Scene.{limit}
use Rattle.fetch_cli.specs.Io.{IsLongerThan}
use Rattle.fetch_cli.specs.ReportLines.{malformed_line}
use Rattle.fetch_cli.specs.Run.{Are}
use Rattle.fetch_cli.specs.Written.{IsAnswered}
use Rattle.fetch_cli.specs.ServerScenes.{server_scene_of}
use Rattle.fetch_cli.specs.declared.program.server_scene.ServerScene.{ServerScene}
use Rattle.mirror_cli.specs.MirrorRun.{TellsMirror, TellsRefusal, IsSceneAnswer, IsInputAnswer, IsAnswerTo, IsMirrorAnswer}
use Rattle.mirror_cli.specs.MirrorWords.{mirror_asked}

-- ---- a text that is longer than a scene may be

long : (bytes : List ℕ) → limit < length bytes → server_scene_of bytes ≡ Err limit
unfolding server_scene_of
long bytes h =
    let t : nat_lt limit (length bytes) ≡ true = grind (arith, nat_tests) in
    rw t refl

long_bytes : (workers : ℕ) (bytes : List ℕ) (status : ℕ) (text : List ℕ) → limit < length bytes → Are 4 (malformed_line limit) status text → IsSceneAnswer workers (server_scene_of bytes) status text
long_bytes workers bytes status text h is = rw (long bytes h) is

next : (n : ℕ) → n < suc n
next n = omega arith

-- a source that tells nothing may have had any bytes
told_none : (workers n status : ℕ) (text : List ℕ) → limit < n → Are 4 (malformed_line limit) status text → IsInputAnswer workers None status text
told_none workers n status text h is =
    let far : limit < length (replicate {A = ℕ} n 0) = rw (length-replicate {A = ℕ} n 0) h in
    record { bytes = replicate {A = ℕ} n 0; read = tt; answer = long_bytes workers (replicate {A = ℕ} n 0) status text far is }

pub answers_too_long : (workers : ℕ) (input : Option (List ℕ)) (status : ℕ) (text : List ℕ) → IsLongerThan limit input → Are 4 (malformed_line limit) status text → IsInputAnswer workers input status text
answers_too_long workers None status text h is = told_none workers (suc limit) status text (next limit) is
answers_too_long workers (Some bytes) status text h is = record { bytes = bytes; read = refl; answer = long_bytes workers bytes status text h is }

-- ---- the statuses of answers

of_mirror : (workers : ℕ) (scene : ServerScene) (status : ℕ) (text : List ℕ) → TellsMirror workers scene status text ⊎ TellsRefusal workers scene status text → status ≤ 1
of_mirror workers scene status text (inl told) = let zero : status ≡ 0 = told.report.0 in omega (arith, zero)
of_mirror workers scene status text (inr told) = let one : status ≡ 1 = told.report.0 in omega (arith, one)

of_scene : (workers : ℕ) (found : Result ServerScene ℕ) (status : ℕ) (text : List ℕ) → IsSceneAnswer workers found status text → (status ≤ 1) ⊎ (status ≡ 4)
of_scene workers (Ok scene) status text told = inl (of_mirror workers scene status text told.is)
of_scene workers (Err place) status text told = inr told.0

of_words : (asked : Result ℕ ℕ) (input : Option (List ℕ)) (status : ℕ) (text : List ℕ) → IsAnswerTo asked input status text → (status ≤ 1) ⊎ (status ≡ 4)
of_words (Ok workers) input status text told = of_scene workers (server_scene_of told.bytes) status text told.answer
of_words (Err number) input status text told = inr told.0

-- none of those that tell a fault
pub known : (words : List (List ℕ)) (input : Option (List ℕ)) (status : ℕ) (text : List ℕ) → IsMirrorAnswer words input status text → IsAnswered status
known words input status text told = of_words (mirror_asked words) input status text told.is
