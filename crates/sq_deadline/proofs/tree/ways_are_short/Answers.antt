use Rattle.sq_deadline.proofs.TreeLaws.{not_deep}
use Rattle.sq_deadline.proofs.tree.ways_are_short.Goals as goal

pub returns : goal.returns
returns c = not_deep
