use Rattle.std.proofs.Common.{◌≡◌, rules, refl, Err}
use Rattle.sq_requests.specs.Batches.{delete_of_entry}
use Rattle.sq_requests.specs.Members.{receipt_handle_at}
use Rattle.sq_requests.proofs.batches.delete_of_entry.Goals as goal

pub returns-in_err-handle-clause-ask : goal.returns-in_err-handle-clause-ask
unfolding delete_of_entry receipt_handle_at
returns-in_err-handle-clause-ask c =
    let refused : c.from_residual.result ≡ Err c.in_err-handle.field-0.0 = search rules in
    rw (refused, ← c.in_err-handle.ensures) refl

pub returns-clause-ask : goal.returns-clause-ask
unfolding delete_of_entry receipt_handle_at
returns-clause-ask c = rw (← c.in_ok-handle.ensures) refl
