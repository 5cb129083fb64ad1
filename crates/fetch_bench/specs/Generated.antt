-- A fetch of the second half of a line of commits.
use Rattle.std.specs.Prelude.{ℕ, ◌+◌, ◌-◌, ◌/◌, List}
use Rattle.fetch_base.specs.declared.id.Kind.TheVariants.{Sha1}
use Rattle.fetch_pack.specs.Records.{pack_text, payloads_of}
use Rattle.fetch_pack.specs.declared.version.PackVersion.TheVariants.{V1}
use Rattle.fetch_lines.specs.Cutting.{in_pieces}
use Rattle.fetch_bench.specs.Commits.{tip, commits_after, line_of}
use Rattle.fetch_bench.specs.Served.{branches, stream_of}
use Rattle.fetch_bench.specs.declared.generated.Generated.{Generated}

-- the pack of the commits after the first half
abbrev pub second_half : ℕ → List ℕ
second_half n = pack_text V1 Sha1 (payloads_of (commits_after (n / 2) (n - n / 2)))

-- The server has the whole line at one branch, and its first half, rounded up, at the other.
abbrev pub server_stream : ℕ → List ℕ
server_stream n = stream_of (branches (tip n) (tip ((n + 1) / 2))) (second_half n)

-- The client has the first half, rounded down, and what the server says comes in pieces of 65,000 bytes, the last of which may be shorter.
unfoldable pub generated : ℕ → Generated
generated n = record {
  objects = line_of (n / 2);
  tip = tip (n / 2);
  pieces = in_pieces 65000 (server_stream n);
}
