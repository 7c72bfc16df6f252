use Rattle.std.proofs.Common.{◌≡◌, rules, refl, Err}
use Rattle.sq_requests.specs.Asked.{asked_at}
use Rattle.sq_requests.proofs.asked.asked_at.Goals as goal

pub returns-in_err-names : goal.returns-in_err-names
unfolding asked_at
returns-in_err-names c =
    let refused : c.from_residual.result ≡ Err c.in_err-names.field-0.0 = search rules in
    rw (refused, ← c.in_err-names.ensures) refl

pub returns-in_err-older_names : goal.returns-in_err-older_names
unfolding asked_at
returns-in_err-older_names c =
    let refused : c.from_residual-in_err-older_names.result ≡ Err c.in_err-older_names.field-0.0 = search rules in
    rw (refused, ← c.in_ok-names.ensures, ← c.in_err-older_names.ensures) refl

pub returns : goal.returns
unfolding asked_at
returns c = rw (← c.in_ok-names.ensures, ← c.in_ok-older_names.ensures, c.either.ensures, c.asked_of.ensures, c.asked_of-2.ensures) refl
