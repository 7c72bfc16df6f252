use Rattle.std.proofs.Common.{◌≡◌, ◌+◌, ◌≤◌, length}
use Rattle.std.specs.Vec.{vec_capacity, vec_len}
use Rattle.sq_deadline.specs.Trees.{listed}
use Rattle.sq_deadline.proofs.index.DeadlineIndex.reserve.Given as goal

-- the deadlines stay, each node is one more, and there is a place for each to come
abbrev pub invariant-loop : goal.invariant-loop
invariant-loop l = record {
  tree : l.self-inside.tree ≡ l.initial.self-inside.tree;
  spare : vec_len l.self-inside.spare ≡ vec_len l.initial.self-inside.spare + l.counter;
  needed : vec_len l.initial.self-inside.spare + l.missing + length (listed l.self-inside.tree) ≤ vec_capacity l.self-inside.spare;
}
