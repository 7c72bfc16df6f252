use Rattle.std.proofs.Common.{length}
use Rattle.sq_deadline.specs.Trees.{listed}
use Rattle.sq_deadline.proofs.tree.Tree.+first_out.Given as goal

abbrev pub decreases-first_out : goal.decreases-first_out
decreases-first_out l = length (listed l.self)
