-- The options of a scene. Of most kinds the last one counts; `not` and `parameter` add up.
use Rattle.std.specs.Prelude.{ℕ, ◌==◌, true, false, nat_lt, List, [], ◌∷◌, ◌++◌, fold, codes, Option, Some, None, if◌then◌else◌}
use Rattle.std.specs.Option.{option_map}
use Rattle.std.specs.Str.{bytes_eq}
use Rattle.fetch_base.specs.Scan.{◌>>=◌, split_first}
use Rattle.fetch_lines.specs.declared.lines.line.Line.{Line}
use Rattle.fetch_scene.specs.declared.options.SceneOption.{SceneOption}
use Rattle.fetch_scene.specs.declared.options.SceneOption.TheVariants.{DryRun, PackedOnly, NoFilter, Depth, Deepen, Since, Not, Parameter}
use Rattle.fetch_scene.specs.declared.options.SceneOption.TheVariants.{Bound, Action, Message}
use Rattle.fetch_scene.specs.declared.options.SceneOptions.{SceneOptions}
use Rattle.fetch_negotiate.specs.declared.algorithm.Shallow.{Shallow}
use Rattle.fetch_negotiate.specs.declared.algorithm.Shallow.TheVariants as shallow
use Rattle.fetch_update.specs.declared.message.RefLogMessage.TheVariants as messages
use Rattle.fetch_scene.specs.LineKinds.{partial_name_in}
use Rattle.fetch_scene.specs.Numbers.{number_in, small_number_in}
use Rattle.fetch_scene.specs.SceneLines.{value_of}

-- an option of one word
unfoldable pub plain_option : List ℕ → Option SceneOption
plain_option word =
    if bytes_eq word (codes "dry-run") then Some DryRun
    else if bytes_eq word (codes "packed-only") then Some PackedOnly
    else if bytes_eq word (codes "no-filter") then Some NoFilter
    else None

-- one commit or more
abbrev pub depth_in : List ℕ → Option SceneOption
depth_in text = do
  n ← small_number_in text
  if n == 0 then None else Some (Depth n)

-- 1 to 1,073,741,824
abbrev pub bound_in : List ℕ → Option SceneOption
bound_in text = do
  n ← small_number_in text
  if n == 0 then None else (if nat_lt 1073741824 n then None else Some (Bound n))

-- the option `deepen`
abbrev pub deepen_in : List ℕ → Option SceneOption
deepen_in text = option_map Deepen (small_number_in text)

-- the option `since`
abbrev pub since_in : List ℕ → Option SceneOption
since_in text = option_map Since (number_in text)

-- the option `not`
abbrev pub not_in : List ℕ → Option SceneOption
not_in text = option_map Not (partial_name_in text)

-- a name that isn't empty
abbrev pub parameter_of : List ℕ → Option (List ℕ) → Option SceneOption
parameter_of [] value = None
parameter_of (b ∷ bs) value = Some (Parameter (b ∷ bs) value)

-- `<name>` or `<name>=<value>`
abbrev pub parameter_split : List ℕ → Option (List ℕ × List ℕ) → Option SceneOption
parameter_split text None = parameter_of text None
parameter_split text (Some x) = parameter_of x.0 (Some x.1)

-- the option `parameter`
abbrev pub parameter_in : List ℕ → Option SceneOption
parameter_in text = parameter_split text (split_first 61 text)

-- an option of a word and a text after it
unfoldable pub option_with : List ℕ → List ℕ → Option SceneOption
option_with word text =
    if bytes_eq word (codes "depth") then depth_in text
    else if bytes_eq word (codes "deepen") then deepen_in text
    else if bytes_eq word (codes "since") then since_in text
    else if bytes_eq word (codes "not") then not_in text
    else if bytes_eq word (codes "parameter") then parameter_in text
    else if bytes_eq word (codes "bound") then bound_in text
    else if bytes_eq word (codes "action") then Some (Action text)
    else if bytes_eq word (codes "message") then Some (Message text)
    else None

-- an option of one word, or of a word and a text
abbrev pub option_split : List ℕ → Option (List ℕ × List ℕ) → Option SceneOption
option_split text None = plain_option text
option_split text (Some x) = option_with x.0 x.1

-- the option of a text
unfoldable pub option_in : List ℕ → Option SceneOption
option_in text = option_split text (split_first 32 text)

-- the option of a line
unfoldable pub option_of : Line → Option SceneOption
option_of line = value_of (codes "option ") line >>= option_in

-- ---- all options together, one after the other

-- the options where none is told
abbrev pub no_options : SceneOptions
no_options = record {
  dry_run = false;
  packed_only = false;
  filter = true;
  shallow = shallow.NoChange;
  parameters = [];
  bound = 268435456;
  message = None;
}

-- A time takes the place of a depth, or of a time before it.
abbrev pub with_since : ℕ → Shallow → Shallow
with_since n (shallow.Exclude names since) = shallow.Exclude names (Some n)
with_since n (shallow.Since cutoff) = shallow.Since n
with_since n (shallow.DepthAtRemote depth) = shallow.Since n
with_since n (shallow.Deepen depth) = shallow.Since n
with_since n shallow.NoChange = shallow.Since n

-- A name takes the place of a depth, and stands beside names and a time before it.
abbrev pub with_name : List ℕ → Shallow → Shallow
with_name name (shallow.Exclude names since) = shallow.Exclude (names ++ name ∷ []) since
with_name name (shallow.Since cutoff) = shallow.Exclude (name ∷ []) (Some cutoff)
with_name name (shallow.DepthAtRemote depth) = shallow.Exclude (name ∷ []) None
with_name name (shallow.Deepen depth) = shallow.Exclude (name ∷ []) None
with_name name shallow.NoChange = shallow.Exclude (name ∷ []) None

-- Names and parameters add up. A depth takes the place of all that was said of depths, times and names.
unfoldable pub with_option : SceneOptions → SceneOption → SceneOptions
with_option o DryRun = record o { dry_run = true }
with_option o PackedOnly = record o { packed_only = true }
with_option o NoFilter = record o { filter = false }
with_option o (Depth n) = record o { shallow = shallow.DepthAtRemote n }
with_option o (Deepen n) = record o { shallow = shallow.Deepen n }
with_option o (Since n) = record o { shallow = with_since n o.shallow }
with_option o (Not name) = record o { shallow = with_name name o.shallow }
with_option o (Parameter name value) = record o { parameters = o.parameters ++ (name, value) ∷ [] }
with_option o (Bound n) = record o { bound = n }
with_option o (Action text) = record o { message = Some (messages.Prefixed text) }
with_option o (Message text) = record o { message = Some (messages.Override text) }

-- the options of these, one after the other
abbrev pub options_of : List SceneOption → SceneOptions
options_of os = fold with_option no_options os
