use Rattle.std.proofs.Common.{rules, ◌≡◌, refl, Err}
use Rattle.sq_steps.specs.declared.act.TaskAct.TheVariants as task
use Rattle.sq_calls.specs.declared.calls.Answer.TheVariants as answer
use Rattle.sq_model.specs.declared.ledger.LedgerReply.TheVariants as ledger
use Rattle.sq_actions.specs.Fits.{MakesCancelled}
use Rattle.sq_actions.proofs.ClientLaws.{ledger_refused, ledger_told}
use Rattle.sq_actions.proofs.client.cancel_task.Goals as goal

pub returns-in_err-moved : goal.returns-in_err-moved
returns-in_err-moved g c =
    let is : c.from_residual.result ≡ Err c.in_err-moved.field-0.0 = search rules in
    rw c.in-Some.is (ledger_refused _ _ _ (task.Cancel c.in-Some.number) MakesCancelled c.in_err-moved.field-0.0 _ c.in_err-moved.ensures.did c.in_err-moved.ensures.refusal is)

pub returns : goal.returns
returns g c =
    rw c.in-Some.is (ledger_told _ _ _ (task.Cancel c.in-Some.number) MakesCancelled (ledger.Cancelled c.in-Cancelled.moved) (answer.Cancelled c.in-Cancelled.moved) (rw c.in-Cancelled.is at c.in_ok-moved.ensures.did) (c.in-Cancelled.moved, refl, refl))
