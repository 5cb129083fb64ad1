-- Room for what becomes of the jobs of a race.
use Rattle.std.specs.Prelude.{◌≡◌, ℕ, ◌+◌, ◌≤◌, [], vec_len, vec_capacity}
use Rattle.fetch_race.specs.declared.passes.Room.{Room}

-- There is room for so many answers and peers, and nothing yet.
pub record HasRoom {P : Type 0} (count : ℕ) (room : Room P) : Type 0 where
  pub no_answers : room.answers.items ≡ []
  pub no_peers : room.peers.items ≡ []
  pub answers : vec_len room.answers + count ≤ vec_capacity room.answers
  pub peers : vec_len room.peers + count ≤ vec_capacity room.peers
