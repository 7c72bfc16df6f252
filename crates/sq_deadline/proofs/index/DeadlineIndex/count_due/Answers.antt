use Rattle.std.proofs.Common.{◌∙◌}
use Rattle.sq_deadline.specs.Trees.{listed}
use Rattle.sq_deadline.proofs.TreeLaws.{due_is}
use Rattle.sq_deadline.proofs.index.DeadlineIndex.count_due.Goals as goal

pub returns-clause-count : goal.returns-clause-count
returns-clause-count c =
    let order = c.self.invariant.0 in
    rw (← c.self.view_is) (c.count_below.ensures.count order ∙ due_is c.args.moment 0 (listed c.self.inside.tree) order)
