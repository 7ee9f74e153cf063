-- A desk as it is seen: its boards and its strip as plain lists.
use Rattle.std.specs.Prelude.{◌≡◌, length, ℕ, ◌≤◌, List, take, vec_items, Option}
use Rattle.desk.specs.declared.stage.Stage.{Stage}
use Rattle.desk.specs.declared.stage.Desk.TheInside.{Inside}

-- A desk as plain lists; of the scratch board only the length matters.
pub record Held (R : Type 0) : Type 0 where
  pub stage : Option Stage
  pub values : List (Option R)
  pub sent : List (Option R)
  pub marks : List ℕ
  pub strip : List ℕ

-- the boards suffice for 16 nodes and 16 items, and the strip has one to eight entries
pub record HasRoom {R : Type 0} (h : Held R) : Type 0 where
  pub values : length h.values ≡ 256
  pub sent : length h.sent ≡ 4096
  pub marks : length h.marks ≡ 4096
  pub some : 1 ≤ length h.strip
  pub few : length h.strip ≤ 8

-- what is seen of a desk
abbrev pub view_of : {R : Type 0} → Inside R → Held R
view_of d = record { stage = d.stage; values = vec_items d.boards.values; sent = vec_items d.boards.sent; marks = vec_items d.boards.marks; strip = take d.count d.entries }

-- the strip has one to eight entries, of eight
abbrev pub IsDesk : {R : Type 0} → Inside R → Type 0
IsDesk d = (1 ≤ d.count) × (d.count ≤ 8) × (length d.entries ≡ 8)
