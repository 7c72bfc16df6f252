use Rattle.std.proofs.Common.{◌≡◌, rules, refl, Err}
use Rattle.sq_requests.specs.Batches.{body_length, send_of_entry}
use Rattle.sq_requests.proofs.batches.send_of_entry.Goals as goal

pub returns-in_err-body-clause-ask : goal.returns-in_err-body-clause-ask
unfolding send_of_entry
returns-in_err-body-clause-ask c =
    let refused : c.from_residual.result ≡ Err c.in_err-body.field-0.0 = search rules in
    rw (refused, ← c.in_err-body.ensures) refl

pub returns-in_err-delay-clause-ask : goal.returns-in_err-delay-clause-ask
unfolding send_of_entry
returns-in_err-delay-clause-ask c =
    let refused : c.from_residual-in_err-delay.result ≡ Err c.in_err-delay.field-0.0 = search rules in
    rw (refused, ← c.in_ok-body.ensures, ← c.in_err-delay.ensures) refl

pub returns-in_err-has_attributes-clause-ask : goal.returns-in_err-has_attributes-clause-ask
unfolding send_of_entry
returns-in_err-has_attributes-clause-ask c =
    let refused : c.from_residual-in_err-has_attributes.result ≡ Err c.in_err-has_attributes.field-0.0 = search rules in
    rw (refused, ← c.in_ok-body.ensures, ← c.in_ok-delay.ensures, ← c.in_err-has_attributes.ensures) refl

pub returns-clause-ask : goal.returns-clause-ask
unfolding send_of_entry
returns-clause-ask c = rw (← c.in_ok-body.ensures, ← c.in_ok-delay.ensures, ← c.in_ok-has_attributes.ensures) refl

pub returns-clause-length : goal.returns-clause-length
unfolding body_length
returns-clause-length c = rw (← c.in_ok-body.ensures) refl
