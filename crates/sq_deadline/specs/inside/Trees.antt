-- Deadlines in a tree, from left to right. Own.
use Rattle.std.specs.Prelude.{◌≡◌, ℕ, ◌+◌, ◌*◌, ◌≤◌, ◌<◌, Bool, true, length, nat_le, nat_lt, if◌then◌else◌}
use Rattle.sq_deadline.specs.declared.deadline.Deadline.{Deadline}
use Rattle.sq_deadline.specs.declared.tree.Tree.{Tree}
use Rattle.sq_deadline.specs.declared.tree.Tree.TheVariants.{Empty, Full'}
use Rattle.sq_deadline.specs.Deadlines.{key_of}
use Rattle.sq_deadline.specs.Trees.{is_kept, listed, weight}

-- the same, as bounds
pub record IsLevel (left right : Tree) : Type 0 where
  pub left_fits : weight left ≤ 3 * weight right
  pub right_fits : weight right ≤ 3 * weight left

-- nor would be, if one deadline came to the lighter side
pub record IsNearlyLevel (left right : Tree) : Type 0 where
  pub left_fits : weight left ≤ 3 * (weight right + 1)
  pub right_fits : weight right ≤ 3 * (weight left + 1)

-- a tree is twice to four times as heavy as one beside it
pub record IsTwiceOrMore (side middle : Tree) : Type 0 where
  pub least : 2 * weight side ≤ weight middle
  pub most : weight middle ≤ 4 * weight side

-- how many nodes the longest way down passes
abbrev pub depth : Tree → ℕ
depth Empty = 0
depth (Full' p left deadline count right) = (if nat_le (depth left) (depth right) then depth right else depth left) + 1

-- below a key
abbrev pub is_below : ℕ → Deadline → Bool
is_below key d = nat_lt (key_of d) key

-- two trees may stand to either side of one node: each is kept, and they can be counted with it
pub record AreSides (left right : Tree) : Type 0 where
  pub left_kept : is_kept left ≡ true
  pub right_kept : is_kept right ≡ true
  pub fits : length (listed left) + length (listed right) < 18446744073709551615
