use Rattle.std.proofs.Common.{◌≡◌, rules, refl, false, Err}
use Rattle.sq_json.specs.View.{view}
use Rattle.sq_calls.specs.BodyTexts.{is_too_small_or_large}
use Rattle.sq_requests.specs.Actions.{send_of}
use Rattle.sq_requests.proofs.MemberLaws.{refuses_body, sends}
use Rattle.sq_requests.proofs.RequestLaws.{reads_refused}
use Rattle.sq_requests.proofs.actions.send_of.Goals as goal

pub returns-in_err-body : goal.returns-in_err-body
unfolding send_of
returns-in_err-body c =
    let refused : c.from_residual.result ≡ Err c.in_err-body.field-0.0 = search rules in
    rw refused (reads_refused c.in_err-body.field-0.0 _ (rw (← c.in_err-body.ensures) refl))

pub returns-in_err-members : goal.returns-in_err-members
unfolding send_of
returns-in_err-members c =
    let refused : c.from_residual-in_err-members.result ≡ Err c.in_err-members.field-0.0 = search rules in
    rw refused (reads_refused c.in_err-members.field-0.0 _ (rw (← c.in_ok-body.ensures, ← c.in_err-members.ensures) refl))

pub returns-in_err-queue : goal.returns-in_err-queue
unfolding send_of
returns-in_err-queue c =
    let refused : c.from_residual-in_err-queue.result ≡ Err c.in_err-queue.field-0.0 = search rules in
    rw refused (reads_refused c.in_err-queue.field-0.0 _ (rw (← c.in_ok-body.ensures, ← c.in_ok-members.ensures, ← c.in_err-queue.ensures) refl))

pub returns-in_err-body-2 : goal.returns-in_err-body-2
returns-in_err-body-2 c =
    let refused : c.from_residual-in_err-body-2.result ≡ Err c.in_err-body-2.field-0.0 = search rules in
    let read = sends (view c.args.value.now) c.in_ok-body.body.now c.in_ok-members.members c.in_ok-queue.field-0 c.in_ok-body.ensures c.in_ok-members.ensures c.in_ok-queue.ensures in
    rw (refused, read) (refuses_body c.in_ok-body.body.now c.in_err-body-2.field-0.0 _ c.in_err-body-2.ensures.refused)

pub returns : goal.returns
returns c =
    let fits : is_too_small_or_large c.in_ok-body-2.body ≡ false = search rules in
    let read = sends (view c.args.value.now) c.in_ok-body.body.now c.in_ok-members.members c.in_ok-queue.field-0 c.in_ok-body.ensures c.in_ok-members.ensures c.in_ok-queue.ensures in
    rw (read, ← c.in_ok-body-2.ensures.text, fits) refl
