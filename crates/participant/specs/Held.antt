-- A participant as plain lists.
use Rattle.std.specs.Prelude.{◌≡◌, ℕ, ◌≤◌, List, length}
use Rattle.law.specs.Runs.{World}

-- A participant: its node, the instance with its boards, and the entries of its strip.
pub record Held (R : Type 0) : Type 0 where
  pub node : ℕ
  pub world : World R
  pub strip : List ℕ

-- the boards suffice for 16 nodes and 16 items, and the strip has one to eight entries
pub record HasRoom {R : Type 0} (h : Held R) : Type 0 where
  pub values : length h.world.values ≡ 256
  pub sent : length h.world.sent ≡ 4096
  pub marks : length h.world.marks ≡ 4096
  pub some : 1 ≤ length h.strip
  pub few : length h.strip ≤ 8
