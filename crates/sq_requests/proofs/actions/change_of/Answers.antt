use Rattle.std.proofs.Common.{rules}
use Rattle.sq_requests.specs.Actions.{change_of}
use Rattle.sq_requests.proofs.actions.change_of.Goals as goal

pub returns-in_err-amount : goal.returns-in_err-amount
unfolding change_of
returns-in_err-amount c = rw (← c.in_ok-url.ensures, ← c.in_ok-handle.ensures, ← c.in_err-amount.ensures) (search rules)

pub returns-in_err-queue : goal.returns-in_err-queue
unfolding change_of
returns-in_err-queue c = rw (← c.in_ok-url.ensures, ← c.in_ok-handle.ensures, ← c.in_ok-amount.ensures, ← c.in_err-queue.ensures.value) (search rules)

pub returns-in_err-timeout : goal.returns-in_err-timeout
unfolding change_of
returns-in_err-timeout c = rw (← c.in_ok-url.ensures, ← c.in_ok-handle.ensures, ← c.in_ok-amount.ensures, ← c.in_ok-queue.ensures.value, ← c.in_err-timeout.ensures) (search rules)
