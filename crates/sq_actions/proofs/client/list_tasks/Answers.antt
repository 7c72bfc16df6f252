use Rattle.std.proofs.Common.{rules, ◌≡◌, refl, ap, inl, inr, Ok, Err}
use Rattle.sq_steps.specs.declared.act.TaskAct.TheVariants as task
use Rattle.sq_calls.specs.declared.calls.Answer.TheVariants as answer
use Rattle.sq_model.specs.declared.ledger.LedgerReply.TheVariants as ledger
use Rattle.sq_actions.specs.Asks.{Found}
use Rattle.sq_actions.specs.Steps.{named}
use Rattle.sq_actions.specs.Fits.{ByLedger, ListTasksFits, MakesTasks}
use Rattle.sq_actions.proofs.PathLaws.{answered_one, answered_more}
use Rattle.sq_actions.proofs.ClientLaws.{ledger_refused, ledger_told}
use Rattle.sq_actions.proofs.client.list_tasks.Goals as goal

pub returns-in-Err : goal.returns-in-Err
returns-in-Err g c =
    answered_one _ (ListTasksFits c.args.call.now) _ _ _ _ (named c.args.call.now.source (Err c.in-Err.refusal)) refl c.in-Err.ensures.did (inl (c.in-Err.refusal, c.in-Err.ensures.refusal, refl, ap Err c.source_refusal.ensures))

pub returns-in_err-tasks : goal.returns-in_err-tasks
returns-in_err-tasks g c =
    let is : c.from_residual.result ≡ Err c.in_err-tasks.field-0.0 = search rules in
    let number = c.in-Ok.source.number in
    answered_more _ (ListTasksFits c.args.call.now) (ByLedger (task.List number c.args.call.now.max) MakesTasks) _ _ _ _ (named c.args.call.now.source (Ok (Found c.in-Ok.source))) c.in-Ok.ensures.did
    (ledger_refused _ _ _ (task.List number c.args.call.now.max) MakesTasks c.in_err-tasks.field-0.0 _ c.in_err-tasks.ensures.did c.in_err-tasks.ensures.refusal is) (λ ds fits. inr (c.in-Ok.source, ds, refl, fits))

pub returns : goal.returns
returns g c =
    let number = c.in-Ok.source.number in
    answered_more _ (ListTasksFits c.args.call.now) (ByLedger (task.List number c.args.call.now.max) MakesTasks) _ _ _ _ (named c.args.call.now.source (Ok (Found c.in-Ok.source))) c.in-Ok.ensures.did
    (ledger_told _ _ _ (task.List number c.args.call.now.max) MakesTasks (ledger.Listed c.in-Listed.tasks) (answer.Tasks c.in-Listed.tasks) (rw c.in-Listed.is at c.in_ok-tasks.ensures.did) (c.in-Listed.tasks, refl, refl)) (λ ds fits. inr (c.in-Ok.source, ds, refl, fits))
