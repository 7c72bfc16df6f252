use Rattle.std.proofs.Common.{◌≡◌, rules, refl, Err}
use Rattle.sq_requests.specs.Batches.{change_of_entry}
use Rattle.sq_requests.specs.Members.{receipt_handle_at}
use Rattle.sq_requests.proofs.batches.change_of_entry.Goals as goal

pub returns-in_err-handle-clause-ask : goal.returns-in_err-handle-clause-ask
unfolding change_of_entry receipt_handle_at
returns-in_err-handle-clause-ask c =
    let refused : c.from_residual.result ≡ Err c.in_err-handle.field-0.0 = search rules in
    rw (refused, ← c.in_err-handle.ensures) refl

pub returns-in_err-timeout-clause-ask : goal.returns-in_err-timeout-clause-ask
unfolding change_of_entry receipt_handle_at
returns-in_err-timeout-clause-ask c =
    let refused : c.from_residual-in_err-timeout.result ≡ Err c.in_err-timeout.field-0.0 = search rules in
    rw (refused, ← c.in_ok-handle.ensures, ← c.in_err-timeout.ensures) refl

pub returns-clause-ask : goal.returns-clause-ask
unfolding change_of_entry receipt_handle_at
returns-clause-ask c = rw (← c.in_ok-handle.ensures, ← c.in_ok-timeout.ensures) refl
