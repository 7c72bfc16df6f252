use Rattle.std.proofs.Common.{rules}
use Rattle.sq_requests.specs.Actions.{has_attributes_at}
use Rattle.sq_requests.proofs.actions.has_attributes_at.Goals as goal

pub returns-in_err-attributes : goal.returns-in_err-attributes
unfolding has_attributes_at
returns-in_err-attributes c = rw (← c.in_err-attributes.ensures) (search rules)

pub returns-in_err-system_attributes : goal.returns-in_err-system_attributes
unfolding has_attributes_at
returns-in_err-system_attributes c = rw (← c.in_ok-attributes.ensures, ← c.in_err-system_attributes.ensures) (search rules)
