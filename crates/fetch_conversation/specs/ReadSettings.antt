-- What the settings of a fetch say.
use Rattle.std.specs.Prelude.{ℕ, zero, suc, Bool, true, false, if◌then◌else◌, List, [], Option, Some, None, Result, Ok, Err, ℤ}
use Rattle.std.specs.Prelude.{unsigned_abs, codes}
use Rattle.std.specs.Int.{is_negative}
use Rattle.std.specs.Option.{unwrap_or, option_flatten}
use Rattle.std.specs.Borrow.{Bor}
use Rattle.std.specs.Str.{bytes_eq}
use Rattle.fetch_config.specs.Contents.{Contents}
use Rattle.fetch_config.specs.Lookups.{values_of, explicit, last_of, boolean_of, integer_of}
use Rattle.fetch_config.specs.declared.error.Unreadable.{Unreadable}
use Rattle.fetch_negotiate.specs.declared.algorithm.Algorithm.{Algorithm}
use Rattle.fetch_negotiate.specs.declared.algorithm.Algorithm.TheVariants as algorithms

-- an answer that lends the value which can't be read
abbrev pub told_by : {X : Type 0} → Result X (Bor (List ℕ)) → Result X (List ℕ)
told_by (Ok x) = Ok x
told_by (Err value) = Err value.now

-- a setting that can't be read: absent where that is let pass, and else told by its value
abbrev pub unread : {X : Type 0} → Bool → X → List ℕ → Result X (List ℕ)
unread true absent value = Ok absent
unread false absent value = Err value

-- the value of an entry, empty where it is implicit
abbrev pub value_told : Option (Option (List ℕ)) → List ℕ
value_told entry = unwrap_or (option_flatten entry) []

-- the value of the last entry
abbrev pub last_told : List (Option (List ℕ)) → List ℕ
last_told values = value_told (last_of values)

-- ---- the agent

-- `gitoxide.userAgent`, of all sections
unfoldable pub agents_in : Contents → List (Option (List ℕ))
agents_in config = values_of (codes "gitoxide") None (codes "userAgent") false config.sections

-- the last value that isn't implicit
unfoldable pub agent_of : Contents → List ℕ
agent_of config = unwrap_or (last_of (explicit (agents_in config))) (codes "oxide-0.87.1")

-- ---- whether a server with a border of its own is refused

-- `clone.rejectShallow`, of trusted sections alone
unfoldable pub rejections_in : Contents → List (Option (List ℕ))
rejections_in config = values_of (codes "clone") None (codes "rejectShallow") true config.sections

-- what the setting says, or its value where it can't be read
abbrev pub rejects_by : Option (Result Bool Unreadable) → List ℕ → Result Bool (List ℕ)
rejects_by None told = Ok false
rejects_by (Some (Ok rejects)) told = Ok rejects
rejects_by (Some (Err place)) told = Err told

-- the last entry as a truth value; absent is no
unfoldable pub rejects_shallow_of : Contents → Result Bool (List ℕ)
rejects_shallow_of config = rejects_by (boolean_of (rejections_in config)) (last_told (rejections_in config))

-- ---- the negotiation algorithm

-- `fetch.negotiationAlgorithm`, of all sections
unfoldable pub algorithms_in : Contents → List (Option (List ℕ))
algorithms_in config = values_of (codes "fetch") None (codes "negotiationAlgorithm") false config.sections

-- the algorithm that has this name
abbrev pub algorithm_named : List ℕ → Option Algorithm
algorithm_named name =
    if bytes_eq name (codes "noop") then Some algorithms.Noop
    else if bytes_eq name (codes "consecutive") then Some algorithms.Consecutive
    else if bytes_eq name (codes "default") then Some algorithms.Consecutive
    else if bytes_eq name (codes "skipping") then Some algorithms.Skipping
    else None

-- the algorithm, or what a name that is none gives
abbrev pub algorithm_or : Bool → List ℕ → Option Algorithm → Result Algorithm (List ℕ)
algorithm_or lenient name (Some algorithm) = Ok algorithm
algorithm_or lenient name None = unread lenient algorithms.Consecutive name

-- the algorithm of a value, or the one that stands without it
abbrev pub algorithm_by : Bool → Option (List ℕ) → Result Algorithm (List ℕ)
algorithm_by lenient None = Ok algorithms.Consecutive
algorithm_by lenient (Some name) = algorithm_or lenient name (algorithm_named name)

-- the last value that isn't implicit; absent is consecutive
unfoldable pub algorithm_of_config : Contents → Bool → Result Algorithm (List ℕ)
algorithm_of_config config lenient = algorithm_by lenient (last_of (explicit (algorithms_in config)))

-- ---- how many threads read a pack

-- `pack.threads`, of trusted sections alone
unfoldable pub threads_in : Contents → List (Option (List ℕ))
threads_in config = values_of (codes "pack") None (codes "threads") true config.sections

-- 0 is none
abbrev pub count_told : ℕ → Option ℕ
count_told zero = None
count_told (suc n) = Some (suc n)

-- A number below 0 can't be read.
abbrev pub threads_by : Bool → Option (Result ℤ Unreadable) → List ℕ → Result (Option ℕ) (List ℕ)
threads_by lenient None told = Ok None
threads_by lenient (Some (Ok n)) told = if is_negative n then unread lenient None told else Ok (count_told (unsigned_abs n))
threads_by lenient (Some (Err place)) told = unread lenient None told

-- the last entry as a number; absent is none
unfoldable pub threads_of : Contents → Bool → Result (Option ℕ) (List ℕ)
threads_of config lenient = threads_by lenient (integer_of (threads_in config)) (last_told (threads_in config))
