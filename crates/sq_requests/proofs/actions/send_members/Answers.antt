use Rattle.std.proofs.Common.{rules, refl}
use Rattle.sq_requests.specs.Actions.{send_members}
use Rattle.sq_requests.proofs.actions.send_members.Goals as goal

pub returns-in_err-delay : goal.returns-in_err-delay
unfolding send_members
returns-in_err-delay c = rw (← c.in_ok-queue.ensures, ← c.in_err-delay.ensures) (search rules)

pub returns-in_err-has_attributes : goal.returns-in_err-has_attributes
unfolding send_members
returns-in_err-has_attributes c = rw (← c.in_ok-queue.ensures, ← c.in_ok-delay.ensures, ← c.in_err-has_attributes.ensures) (search rules)

pub returns : goal.returns
unfolding send_members
returns c = rw (← c.in_ok-queue.ensures, ← c.in_ok-delay.ensures, ← c.in_ok-has_attributes.ensures) refl
