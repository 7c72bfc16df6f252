use Rattle.std.proofs.Common.{length}
use Rattle.sq_deadline.specs.Trees.{listed}
use Rattle.sq_deadline.proofs.tree.Tree.+without.Given as goal

abbrev pub decreases-without : goal.decreases-without
decreases-without l = length (listed l.self)
