use Rattle.std.proofs.Common.{◌∙◌, sym}
use Rattle.sq_deadline.proofs.OrderLaws.{first_due}
use Rattle.sq_deadline.proofs.index.DeadlineIndex.due.Goals as goal

pub returns-clause-due : goal.returns-clause-due
returns-clause-due c = c.nth_due.ensures.due ∙ sym (first_due c.args.moment 0 c.args.self.now.deadlines c.nth_due.ensures.order)
