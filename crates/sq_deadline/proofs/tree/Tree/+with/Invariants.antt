use Rattle.std.proofs.Common.{length}
use Rattle.sq_deadline.specs.Trees.{listed}
use Rattle.sq_deadline.proofs.tree.Tree.+with.Given as goal

abbrev pub decreases-with : goal.decreases-with
decreases-with l = length (listed l.self)
