-- Deadlines in a tree, from left to right. Own.
use Rattle.std.specs.Prelude.{ℕ, ◌+◌, ◌*◌, Bool, true, ◌&&◌, ◌==◌, nat_le, List, [], ◌∷◌, ◌++◌, length}
use Rattle.sq_deadline.specs.declared.deadline.Deadline.{Deadline}
use Rattle.sq_deadline.specs.declared.tree.Tree.{Tree}
use Rattle.sq_deadline.specs.declared.tree.Tree.TheVariants.{Empty, Full'}

abbrev pub listed : Tree → List Deadline
listed Empty = []
listed (Full' p left deadline count right) = listed left ++ deadline ∷ listed right

-- how heavy a side is
abbrev pub weight : Tree → ℕ
weight t = length (listed t) + 1

-- no side is more than three times as heavy as the other
abbrev pub is_level : Tree → Tree → Bool
is_level left right = nat_le (weight left) (3 * weight right) && nat_le (weight right) (3 * weight left)

-- each node has level sides, and knows how many there are at it and below it
abbrev pub is_kept : Tree → Bool
is_kept Empty = true
is_kept (Full' p left deadline count right) = count == length (listed left) + 1 + length (listed right) && is_level left right && is_kept left && is_kept right
