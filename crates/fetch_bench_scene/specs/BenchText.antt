-- The scene of a bench, as a text.
use Rattle.std.specs.Prelude.{ℕ, List, [], ◌∷◌, ◌++◌, map, codes, Option, option_to_list, option_map}
use Rattle.fetch_base.specs.Digits.{hex_of}
use Rattle.fetch_store.specs.Stores.{Entries}
use Rattle.fetch_base.specs.declared.id.Kind.TheVariants.{Sha1}
use Rattle.fetch_base.specs.declared.id.ObjectId.{ObjectId}
use Rattle.fetch_pack.specs.Records.{pack_text, payloads_of}
use Rattle.fetch_pack.specs.declared.version.PackVersion.TheVariants.{V1}
use Rattle.fetch_lines.specs.Cutting.{in_pieces}
use Rattle.fetch_lines.specs.Requests.{sent}
use Rattle.fetch_lines.specs.Written.{lines_text}
use Rattle.fetch_lines.specs.declared.lines.line.Line.{Line}
use Rattle.fetch_lines.specs.declared.lines.line.Line.TheVariants.{Payload, Flush, Delim}
use Rattle.fetch_bench.specs.Generated.{generated}
use Rattle.fetch_bench.specs.declared.generated.Generated.{Generated}
use Rattle.fetch_bench_scene.specs.Bench.{refspec}

-- the repository
abbrev pub head_texts : List (List ℕ)
head_texts = codes "scene 1" ∷ codes "hash sha1" ∷ codes "git-dir /b/.git" ∷ codes "workdir /b" ∷ []

-- the reference that an earlier fetch left, where there was one
abbrev pub tracking_text : ObjectId → List ℕ
tracking_text id = codes "ref " ++ hex_of id ++ codes " refs/remotes/origin/main"

-- no commit is told to the server as one that is there
abbrev pub config_texts : List (List ℕ)
config_texts = codes "config [fetch]" ∷ codes "config negotiationAlgorithm = noop" ∷ []

-- the remote
abbrev pub remote_texts : List (List ℕ)
remote_texts = codes "remote /b/s.git" ∷ (codes "fetch " ++ refspec) ∷ codes "tags none" ∷ []

-- the lines of the repository
abbrev pub local_lines : Option ObjectId → List Line
local_lines tip = sent head_texts ++ (sent (option_to_list (option_map tracking_text tip)) ++ sent config_texts)

-- the pack of its objects
abbrev pub pack_of : Entries → List ℕ
pack_of objects = pack_text V1 Sha1 (payloads_of (map (λ e. e.1) objects))

-- bytes in payloads of 65,000, of which the last may have fewer
abbrev pub piece_lines : List ℕ → List Line
piece_lines bytes = map Payload (in_pieces 65000 bytes)

-- The repository, its objects in payloads, the remote, and what the server says.
unfoldable pub scene_lines : Generated → List Line
scene_lines g =
    local_lines g.tip ++ Delim ∷ (piece_lines (pack_of g.objects)
    ++ Delim ∷ (sent remote_texts
    ++ Delim ∷ (map Payload g.pieces ++ Flush ∷ [])))

-- the text of the scene of a line of n commits
unfoldable pub bench_text : ℕ → List ℕ
bench_text n = lines_text (scene_lines (generated n))
