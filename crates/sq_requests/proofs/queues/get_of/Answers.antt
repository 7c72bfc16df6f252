use Rattle.std.proofs.Common.{◌≡◌, rules, refl, Err}
use Rattle.sq_requests.specs.Queues.{get_of}
use Rattle.sq_requests.proofs.queues.get_of.Goals as goal

pub returns-in_err-names : goal.returns-in_err-names
unfolding get_of
returns-in_err-names c =
    let refused : c.from_residual-in_err-names.result ≡ Err c.in_err-names.field-0.0 = search rules in
    rw (refused, ← c.in_ok-url.ensures, ← c.in_err-names.ensures) refl

pub returns-in_err-queue : goal.returns-in_err-queue
unfolding get_of
returns-in_err-queue c = rw (← c.in_ok-url.ensures, ← c.in_ok-names.ensures, ← c.in_err-queue.ensures.value) (search rules)

pub returns-in_err-asked : goal.returns-in_err-asked
unfolding get_of
returns-in_err-asked c = rw (← c.in_ok-url.ensures, ← c.in_ok-names.ensures, ← c.in_ok-queue.ensures.value, ← c.in_err-asked.ensures) (search rules)

pub returns : goal.returns
unfolding get_of
returns c = rw (← c.in_ok-url.ensures, ← c.in_ok-names.ensures, ← c.in_ok-queue.ensures.value, ← c.in_ok-asked.ensures) refl
