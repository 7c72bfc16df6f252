use Rattle.std.proofs.Common.{◌≡◌, rules, refl, Err}
use Rattle.sq_requests.specs.Queues.{list_of}
use Rattle.sq_requests.proofs.queues.list_of.Goals as goal

pub returns-in_err-text : goal.returns-in_err-text
unfolding list_of
returns-in_err-text c =
    let refused : c.from_residual.result ≡ Err c.in_err-text.field-0.0 = search rules in
    rw (refused, ← c.in_err-text.ensures) refl

pub returns : goal.returns
unfolding list_of
returns c = rw (← c.in_ok-text.ensures, c.prefix_if.ensures) refl
