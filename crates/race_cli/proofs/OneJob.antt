-- A scene is the scene of a race of one job.
use Rattle.std.proofs.Common.{◌≡◌, ℕ, suc, Bool, true, false, List, [], ◌∷◌, length, Option, Some, None, Result, Ok, Err, refl, sym, ap, ◌∙◌}
use Rattle.std.specs.Prelude.{nat_lt, is_some, if◌then◌else◌}
use Rattle.fetch_lines.specs.declared.lines.line.Line.{Line}
use Rattle.fetch_lines.specs.declared.lines.line.Line.TheVariants.{Payload, Flush, Delim, End}
use Rattle.fetch_scene.specs.Gives.{◌>>=◌}
use Rattle.fetch_scene.specs.Scene.{local_of, objects_of, remote_of, payloads_of, end_of, pieces_of, talk_of, scene_with, remote_in, scene_in, scene_of, limit}
use Rattle.fetch_scene.specs.SceneLines.{Placed, Lines, flushes, delimits, next, taken_or_left, lines_of}
use Rattle.fetch_scene.specs.declared.scene.Scene.{Scene}
use Rattle.fetch_scene.specs.declared.remote_part.RemotePart.{RemotePart}
use Rattle.race_cli.specs.Jobs.{job_of, job_if, further_job, and_others, jobs_within, jobs_of}
use Rattle.race_cli.specs.RaceScenes.{race_in, race_scene_of, alone}
use Rattle.race_cli.specs.declared.scene.RaceScene.{RaceScene}
use Rattle.race_cli.specs.declared.scene.jobs.RaceJob.{RaceJob}
use Rattle.race_cli.proofs.Jobs.{none}

-- what was found, and that what follows gives the rest
bind_ok : {A B : Type 0} (found : Result A ℕ) (f : A → Result B ℕ) (y : B) → (found >>= f) ≡ Ok y → (x : A) × (found ≡ Ok x) × (f x ≡ Ok y)
bind_ok (Ok x) f y is = (x, refl, is)
bind_ok (Err place) f y is = absurd (cc)

abbrev ok : {A : Type 0} → A → Result A ℕ
ok x = Ok x

same_ok : {A : Type 0} (x y : A) → ok x ≡ ok y → x ≡ y
same_ok x y is = cc

same_first : {A B : Type 0} (x y : A × B) → ok x ≡ ok y → x.0 ≡ y.0
same_first {A} {B} x y is = ap (λ (p : A × B). p.0) (same_ok x y is)

same_second : {A B : Type 0} (x y : A × B) → ok x ≡ ok y → x.1 ≡ y.1
same_second {A} {B} x y is = ap (λ (p : A × B). p.1) (same_ok x y is)

pair : {A B : Type 0} (x : A × B) (a : A) (b : B) → x.0 ≡ a → x.1 ≡ b → x ≡ (a, b)
pair {A} {B} x a b e f = ap (λ (z : A). (z, x.1)) e ∙ ap (λ (z : B). (a, z)) f

-- where the flush at the end is next, no job is
no_more_at : (len last place : ℕ) (line : Line) (ps : List Placed) → end_of len (record { lines = record { place = place; line = line } ∷ ps; last = last }) ≡ Ok tt
    → further_job (record { lines = record { place = place; line = line } ∷ ps; last = last }) ≡ Ok (None, record { lines = record { place = place; line = line } ∷ ps; last = last })
unfolding end_of further_job flushes delimits
no_more_at len last place (Payload bytes) ps is = absurd (cc)
no_more_at len last place Flush ps is = refl
no_more_at len last place Delim ps is = absurd (cc)
no_more_at len last place End ps is = absurd (cc)

no_more_in : (len last : ℕ) (ps : List Placed) → end_of len (record { lines = ps; last = last }) ≡ Ok tt → further_job (record { lines = ps; last = last }) ≡ Ok (None, record { lines = ps; last = last })
unfolding end_of
no_more_in len last [] is = absurd (cc)
no_more_in len last (p ∷ ps) is = no_more_at len last p.place p.line ps is

no_more : (len : ℕ) (ls : Lines) → end_of len ls ≡ Ok tt → further_job ls ≡ Ok (None, ls)
no_more len ls is = no_more_in len ls.last ls.lines is

-- one job, and the end behind it
record IsOneJob (len : ℕ) (ls : Lines) (job : RaceJob) : Type 0 where
  rest : Lines
  jobs : jobs_of ls ≡ Ok (job ∷ [], rest)
  ended : end_of len rest ≡ Ok tt

job_is : (ls a b : Lines) (remote : RemotePart) (pieces : List (List ℕ)) → remote_of ls ≡ Ok (remote, a) → payloads_of a ≡ Ok (pieces, b) → job_of ls ≡ Ok (record { remote = remote; pieces = pieces }, b)
unfolding job_of
job_is ls a b remote pieces first second = rw (first, second) refl

jobs_are : (ls rest : Lines) (job : RaceJob) → job_of ls ≡ Ok (job, rest) → further_job rest ≡ Ok (None, rest) → jobs_of ls ≡ Ok (job ∷ [], rest)
unfolding jobs_of
jobs_are ls rest job first others = rw (first, none 6 rest rest others) refl

pieces_are : (len : ℕ) (ls : Lines) (pieces : List (List ℕ)) → pieces_of len ls ≡ Ok pieces → (rest : Lines) × (payloads_of ls ≡ Ok (pieces, rest)) × (end_of len rest ≡ Ok tt)
unfolding pieces_of
pieces_are len ls pieces is =
    let a = bind_ok (payloads_of ls) (λ p. end_of len p.1 >>= λ ended. Ok p.0) pieces is in
    let b = bind_ok (end_of len a.0.1) (λ ended. Ok a.0.0) pieces a.2 in
    let same : a.0.0 ≡ pieces = cc in
    (a.0.1, a.1 ∙ ap (λ (p : List (List ℕ)). Ok (p, a.0.1)) same, b.1)

talk_is : (len : ℕ) (ls : Lines) (remote : RemotePart) (pieces : List (List ℕ)) → talk_of len ls ≡ Ok (remote, pieces) → IsOneJob len ls (record { remote = remote; pieces = pieces })
unfolding talk_of
talk_is len ls remote pieces is =
    let a = bind_ok (remote_of ls) (λ r. pieces_of len r.1 >>= λ p. Ok (r.0, p)) (remote, pieces) is in
    let b = bind_ok (pieces_of len a.0.1) (λ p. Ok (a.0.0, p)) (remote, pieces) a.2 in
    let same : a.0.0 ≡ remote = same_first (a.0.0, b.0) (remote, pieces) b.2 in
    let same_pieces : b.0 ≡ pieces = same_second (a.0.0, b.0) (remote, pieces) b.2 in
    let c = pieces_are len a.0.1 b.0 b.1 in
    let job : job_of ls ≡ Ok (record { remote = remote; pieces = pieces }, c.0) =
    job_is ls a.0.1 c.0 remote pieces (a.1 ∙ ap (λ (r : RemotePart). Ok (r, a.0.1)) same) (c.1 ∙ ap (λ (p : List (List ℕ)). Ok (p, c.0)) same_pieces) in
    record { rest = c.0; jobs = jobs_are ls c.0 (record { remote = remote; pieces = pieces }) job (no_more len c.0 c.2); ended = c.2 }

one_job_in : (len : ℕ) (ls : Lines) (s : Scene) → scene_in len ls ≡ Ok s → race_in len ls ≡ Ok (alone s)
unfolding race_in
one_job_in len ls s is =
    let a = bind_ok (local_of ls) (λ local. objects_of local.0.head.hash local.1 >>= λ objects. talk_of len objects.1 >>= λ talk. Ok (scene_with local.0 objects.0 talk.0 talk.1)) s is in
    let b = bind_ok (objects_of a.0.0.head.hash a.0.1) (λ objects. talk_of len objects.1 >>= λ talk. Ok (scene_with a.0.0 objects.0 talk.0 talk.1)) s a.2 in
    let c = bind_ok (talk_of len b.0.1) (λ talk. Ok (scene_with a.0.0 b.0.0 talk.0 talk.1)) s b.2 in
    let t = talk_is len b.0.1 c.0.0 c.0.1 c.1 in
    let same : scene_with a.0.0 b.0.0 c.0.0 c.0.1 ≡ s = cc in
    rw (a.1, b.1, t.jobs, t.ended) (ap (λ (x : Scene). Ok (alone x)) same)

by_length : (b : Bool) (bytes : List ℕ) (s : Scene) → (if b then Err limit else scene_in (length bytes) (lines_of bytes)) ≡ Ok s → (if b then Err limit else race_in (length bytes) (lines_of bytes)) ≡ Ok (alone s)
by_length true bytes s is = absurd (cc)
by_length false bytes s is = one_job_in (length bytes) (lines_of bytes) s is

pub one_job : (bytes : List ℕ) (s : Scene) → scene_of bytes ≡ Ok s → race_scene_of bytes ≡ Ok (alone s)
unfolding scene_of race_scene_of
one_job bytes s is = by_length (nat_lt limit (length bytes)) bytes s is

-- ---- and a race of one job is a scene

by_next : (found : Result (Unit {0} × Lines) ℕ) (ls rest : Lines) → job_if (is_some (taken_or_left ls found).0) (taken_or_left ls found).1 ≡ Ok (None, rest) → rest ≡ ls
by_next (Ok x) ls rest is =
    let a = bind_ok (job_of x.1) (λ job. Ok (Some job.0, job.1)) (None, rest) is in
    let apart : Some a.0.0 ≡ None = same_first (Some a.0.0, a.0.1) (None, rest) a.2 in
    absurd (cc)
by_next (Err place) ls rest is = same_second (None, rest) (None, ls) (sym is)

-- no job more leaves the lines
left : (ls rest : Lines) → further_job ls ≡ Ok (None, rest) → rest ≡ ls
unfolding further_job
left ls rest is = by_next (next delimits ls) ls rest is

none_found : (others : Lines → Result (List RaceJob × Lines) ℕ) (job : Option RaceJob) (ls rest : Lines) → and_others others job ls ≡ Ok ([], rest) → (job ≡ None) × (ls ≡ rest)
none_found others None ls rest is = (refl, same_second ([], ls) ([], rest) is)
none_found others (Some job) ls rest is =
    let a = bind_ok (others ls) (λ jobs. Ok (job ∷ jobs.0, jobs.1)) ([], rest) is in
    let apart : job ∷ a.0.0 ≡ [] = same_first (job ∷ a.0.0, a.0.1) ([], rest) a.2 in
    absurd (cc)

no_others : (n : ℕ) (ls rest : Lines) → jobs_within (suc n) ls ≡ Ok ([], rest) → rest ≡ ls
unfolding jobs_within
no_others n ls rest is =
    let a = bind_ok (further_job ls) (λ job. and_others (jobs_within n) job.0 job.1) ([], rest) is in
    let b = none_found (jobs_within n) a.0.0 a.0.1 rest a.2 in
    left ls rest (a.1 ∙ ap (λ (x : Option RaceJob × Lines). Ok x) (pair a.0 None rest b.0 b.1))

only_one : (ls rest : Lines) (job : RaceJob) → jobs_of ls ≡ Ok (job ∷ [], rest) → job_of ls ≡ Ok (job, rest)
unfolding jobs_of
only_one ls rest job is =
    let a = bind_ok (job_of ls) (λ first. jobs_within 7 first.1 >>= λ others. Ok (first.0 ∷ others.0, others.1)) (job ∷ [], rest) is in
    let b = bind_ok (jobs_within 7 a.0.1) (λ others. Ok (a.0.0 ∷ others.0, others.1)) (job ∷ [], rest) a.2 in
    let jobs : a.0.0 ∷ b.0.0 ≡ job ∷ [] = same_first (a.0.0 ∷ b.0.0, b.0.1) (job ∷ [], rest) b.2 in
    let behind : b.0.1 ≡ rest = same_second (a.0.0 ∷ b.0.0, b.0.1) (job ∷ [], rest) b.2 in
    let same : a.0.0 ≡ job = cc in
    let empty : b.0.0 ≡ [] = cc in
    let stays : rest ≡ a.0.1 = no_others 6 a.0.1 rest (b.1 ∙ ap (λ (x : List RaceJob × Lines). Ok x) (pair b.0 [] rest empty behind)) in
    a.1 ∙ ap (λ (x : RaceJob × Lines). Ok x) (pair a.0 job rest same (sym stays))

talk_back : (len : ℕ) (ls rest : Lines) (remote : RemotePart) (pieces : List (List ℕ)) → job_of ls ≡ Ok (record { remote = remote; pieces = pieces }, rest) → end_of len rest ≡ Ok tt → talk_of len ls ≡ Ok (remote, pieces)
unfolding job_of talk_of pieces_of
talk_back len ls rest remote pieces is ended =
    let a = bind_ok (remote_of ls) (λ r. payloads_of r.1 >>= λ p. Ok (record { remote = r.0; pieces = p.0 }, p.1)) (record { remote = remote; pieces = pieces }, rest) is in
    let b = bind_ok (payloads_of a.0.1) (λ p. Ok (record { remote = a.0.0; pieces = p.0 }, p.1)) (record { remote = remote; pieces = pieces }, rest) a.2 in
    let made : record { remote = a.0.0; pieces = b.0.0 } ≡ record { remote = remote; pieces = pieces } = same_first (record { remote = a.0.0; pieces = b.0.0 }, b.0.1) (record { remote = remote; pieces = pieces }, rest) b.2 in
    let behind : b.0.1 ≡ rest = same_second (record { remote = a.0.0; pieces = b.0.0 }, b.0.1) (record { remote = remote; pieces = pieces }, rest) b.2 in
    let ends : end_of len b.0.1 ≡ Ok tt = ap (end_of len) behind ∙ ended in
    rw (a.1, b.1, ends) (ap (λ (job : RaceJob). Ok (job.remote, job.pieces)) made)

one_job_back : (len : ℕ) (ls : Lines) (s : Scene) → race_in len ls ≡ Ok (alone s) → scene_in len ls ≡ Ok s
unfolding race_in
one_job_back len ls s is =
    let a = bind_ok (local_of ls) (λ local. objects_of local.0.head.hash local.1 >>= λ objects. jobs_of objects.1 >>= λ jobs. end_of len jobs.1 >>= λ ended. Ok (record { local = local.0; objects = objects.0; jobs = jobs.0 })) (alone s) is in
    let b = bind_ok (objects_of a.0.0.head.hash a.0.1) (λ objects. jobs_of objects.1 >>= λ jobs. end_of len jobs.1 >>= λ ended. Ok (record { local = a.0.0; objects = objects.0; jobs = jobs.0 })) (alone s) a.2 in
    let c = bind_ok (jobs_of b.0.1) (λ jobs. end_of len jobs.1 >>= λ ended. Ok (record { local = a.0.0; objects = b.0.0; jobs = jobs.0 })) (alone s) b.2 in
    let d = bind_ok (end_of len c.0.1) (λ ended. Ok (record { local = a.0.0; objects = b.0.0; jobs = c.0.0 })) (alone s) c.2 in
    let same : record { local = a.0.0; objects = b.0.0; jobs = c.0.0 } ≡ alone s = same_ok (record { local = a.0.0; objects = b.0.0; jobs = c.0.0 }) (alone s) d.2 in
    let same_jobs : c.0.0 ≡ record { remote = remote_in s; pieces = s.pieces } ∷ [] = ap (λ (r : RaceScene). r.jobs) same in
    let job = only_one b.0.1 c.0.1 (record { remote = remote_in s; pieces = s.pieces }) (c.1 ∙ ap (λ (jobs : List RaceJob). Ok (jobs, c.0.1)) same_jobs) in
    let talk = talk_back len b.0.1 c.0.1 (remote_in s) s.pieces job d.1 in
    rw (a.1, b.1, talk) (ap (λ (r : RaceScene). Ok (scene_with r.local r.objects (remote_in s) s.pieces)) same)

back_by_length : (b : Bool) (bytes : List ℕ) (s : Scene) → (if b then Err limit else race_in (length bytes) (lines_of bytes)) ≡ Ok (alone s) → (if b then Err limit else scene_in (length bytes) (lines_of bytes)) ≡ Ok s
back_by_length true bytes s is = absurd (cc)
back_by_length false bytes s is = one_job_back (length bytes) (lines_of bytes) s is

pub one_job_alone : (bytes : List ℕ) (s : Scene) → race_scene_of bytes ≡ Ok (alone s) → scene_of bytes ≡ Ok s
unfolding scene_of race_scene_of
one_job_alone bytes s is = back_by_length (nat_lt limit (length bytes)) bytes s is
