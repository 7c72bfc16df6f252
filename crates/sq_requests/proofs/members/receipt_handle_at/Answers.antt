use Rattle.std.proofs.Common.{rules}
use Rattle.sq_requests.specs.Members.{receipt_handle_at}
use Rattle.sq_requests.proofs.members.receipt_handle_at.Goals as goal

pub returns-in_err-handle : goal.returns-in_err-handle
unfolding receipt_handle_at
returns-in_err-handle c = rw (← c.in_err-handle.ensures) (search rules)
