use Rattle.std.proofs.Common.{rules}
use Rattle.sq_requests.specs.Tasks.{move_members}
use Rattle.sq_requests.proofs.tasks.move_members.Goals as goal

pub returns-in_err-amount_if_at : goal.returns-in_err-amount_if_at
unfolding move_members
returns-in_err-amount_if_at c = rw (← c.in_ok-arn_at.ensures, ← c.in_ok-arn_if_at.ensures, ← c.in_err-amount_if_at.ensures) (search rules)
