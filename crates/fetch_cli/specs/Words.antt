-- The words of the command line.
use Rattle.std.specs.Prelude.{ℕ, ◌<◌, ◌≤◌, ◌&&◌, nat_lt, nat_le, List, [], ◌∷◌, ◌++◌, codes, Option, Some, None, Result, Ok, Err, ⊤}
use Rattle.std.specs.Prelude.{option_and_then, if◌then◌else◌}
use Rattle.std.specs.Str.{bytes_eq}
use Rattle.fetch_cli.specs.declared.program.words.Command.{Command}
use Rattle.fetch_cli.specs.declared.program.words.Command.TheVariants.{Fetch, Check, Bench, Help, Version}
use Rattle.fetch_scene.specs.Numbers.{number_in}

-- the command of one word
unfoldable pub command_named : List ℕ → Option Command
command_named word =
    if bytes_eq word (codes "fetch") then Some Fetch
    else if bytes_eq word (codes "check") then Some Check
    else if bytes_eq word (codes "--help") then Some Help
    else if bytes_eq word (codes "--version") then Some Version
    else None

-- a word that stands alone; a second one is too many
abbrev pub alone : Option Command → List (List ℕ) → Result Command ℕ
alone None others = Err 1
alone (Some command) [] = Ok command
alone (Some command) (other ∷ others) = Err 2

-- from 1 to 100,000
unfoldable pub if_few : ℕ → Option ℕ
if_few n = if nat_lt 0 n && nat_le n 100000 then Some n else None

-- how many commits a word asks for
abbrev pub count_in : List ℕ → Option ℕ
count_in word = option_and_then if_few (number_in word)

-- how many commits the words after `bench` ask for; a further word is too many
abbrev pub bench_with : Option ℕ → List (List ℕ) → Result Command ℕ
bench_with None others = Err 2
bench_with (Some count) [] = Ok (Bench count)
bench_with (Some count) (other ∷ others) = Err 3

-- the bench of these words
abbrev pub bench_of : List (List ℕ) → Result Command ℕ
bench_of [] = Err 2
bench_of (word ∷ others) = bench_with (count_in word) others

-- what the words ask for, or the number of the first that is wrong or lacking, from 1 on
unfoldable pub command_of : List (List ℕ) → Result Command ℕ
command_of [] = Err 1
command_of (word ∷ others) = if bytes_eq word (codes "bench") then bench_of others else alone (command_named word) others

-- A bench has 1 to 100,000 commits.
abbrev pub IsWithin : Command → Type 0
IsWithin (Bench count) = (0 < count) × (count ≤ 100000)
IsWithin Fetch = ⊤
IsWithin Check = ⊤
IsWithin Help = ⊤
IsWithin Version = ⊤

-- what `--help` writes
unfoldable pub help_text : List ℕ
help_text =
    codes "usage: bagjulen fetch < SCENE\n       bagjulen check < SERVER-SCENE\n       bagjulen bench N\n\n"
    ++ codes "fetch reads a scene from standard input: a repository, a remote and what its peer says.\n"
    ++ codes "It fetches, and writes a report: the lines sent, what became of each reference,\nand the repository as it then stands.\n\n"
    ++ codes "check reads a repository in the form of a scene without a remote from standard input,\n"
    ++ codes "and writes each missing link, each broken reference and each object that no reference reaches.\n\n"
    ++ codes "bench fetches the second half of a line of N commits, from 1 to 100000,\nfrom a server in memory, and writes a summary.\n\n"
    ++ codes "status 0  the fetch was done, or the check found nothing\n"
    ++ codes "       1  the fetch was refused, and the report says why; or the check found something\n"
    ++ codes "       2  the input could not be read\n       3  the output could not be written\n"
    ++ codes "       4  the words or the scene are malformed\n       5  memory ran out\n"

-- what `--version` writes
unfoldable pub version_text : List ℕ
version_text = codes "bagjulen 0.1.0\n"
