use Rattle.std.proofs.Common.{rules, refl}
use Rattle.sq_requests.specs.Actions.{receive_members}
use Rattle.sq_requests.proofs.actions.receive_members.Goals as goal

pub returns-in_err-amount_if_at : goal.returns-in_err-amount_if_at
unfolding receive_members
returns-in_err-amount_if_at c = rw (← c.in_ok-url_at.ensures, ← c.in_err-amount_if_at.ensures) (search rules)

pub returns-in_err-amount_if_at-2 : goal.returns-in_err-amount_if_at-2
unfolding receive_members
returns-in_err-amount_if_at-2 c = rw (← c.in_ok-url_at.ensures, ← c.in_ok-amount_if_at.ensures, ← c.in_err-amount_if_at-2.ensures) (search rules)

pub returns-in_err-amount_if_at-3 : goal.returns-in_err-amount_if_at-3
unfolding receive_members
returns-in_err-amount_if_at-3 c = rw (← c.in_ok-url_at.ensures, ← c.in_ok-amount_if_at.ensures, ← c.in_ok-amount_if_at-2.ensures, ← c.in_err-amount_if_at-3.ensures) (search rules)

pub returns-in_err-asked_at : goal.returns-in_err-asked_at
unfolding receive_members
returns-in_err-asked_at c = rw (← c.in_ok-url_at.ensures, ← c.in_ok-amount_if_at.ensures, ← c.in_ok-amount_if_at-2.ensures, ← c.in_ok-amount_if_at-3.ensures, ← c.in_err-asked_at.ensures) (search rules)

pub returns : goal.returns
unfolding receive_members
returns c = rw (← c.in_ok-url_at.ensures, ← c.in_ok-amount_if_at.ensures, ← c.in_ok-amount_if_at-2.ensures, ← c.in_ok-amount_if_at-3.ensures, ← c.in_ok-asked_at.ensures) refl
