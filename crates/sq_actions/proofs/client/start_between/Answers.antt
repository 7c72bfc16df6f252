use Rattle.std.proofs.Common.{rules, ◌≡◌, refl, inl, inr, Ok, Err}
use Rattle.sq_directory.specs.MoveQueues.{as_ends}
use Rattle.sq_steps.specs.declared.act.TaskAct.TheVariants as task
use Rattle.sq_calls.specs.declared.calls.Answer.TheVariants as answer
use Rattle.sq_model.specs.declared.ledger.LedgerReply.TheVariants as ledger
use Rattle.sq_actions.specs.Asks.{Ends}
use Rattle.sq_actions.specs.Steps.{redriven}
use Rattle.sq_actions.specs.Fits.{ByLedger, MakesStarted, StartsBetween, start_between}
use Rattle.sq_actions.proofs.PathLaws.{answered_one, answered_more}
use Rattle.sq_actions.proofs.ClientLaws.{ledger_refused, ledger_told}
use Rattle.sq_actions.proofs.client.start_between.Goals as goal

pub returns-in_err-source : goal.returns-in_err-source
returns-in_err-source g c =
    let is : c.from_residual.result ≡ Err c.in_err-source.field-0.0 = search rules in
    answered_one _ (StartsBetween c.args.call.now) _ _ _ _ (redriven c.args.call.now.source c.args.call.now.destination (Err c.in_err-source.field-0.0)) refl c.in_err-source.ensures.did (inl (c.in_err-source.field-0.0, c.in_err-source.ensures.refusal, refl, is))

pub returns-in_err-number : goal.returns-in_err-number
returns-in_err-number g c =
    let is : c.from_residual-in_err-number.result ≡ Err c.in_err-number.field-0.0 = search rules in
    let ends = as_ends (c.in_ok-source.source, c.in_ok-source.destination) in
    let start = task.Start (start_between ends c.args.call.now.rate) in
    answered_more _ (StartsBetween c.args.call.now) (ByLedger start MakesStarted) _ _ _ _ (redriven c.args.call.now.source c.args.call.now.destination (Ok (Ends ends))) c.in_ok-source.ensures.did
    (ledger_refused _ _ _ start MakesStarted c.in_err-number.field-0.0 _ c.in_err-number.ensures.did c.in_err-number.ensures.refusal is) (λ ds fits. inr (ends, ds, refl, fits))

pub returns : goal.returns
returns g c =
    let ends = as_ends (c.in_ok-source.source, c.in_ok-source.destination) in
    let start = task.Start (start_between ends c.args.call.now.rate) in
    answered_more _ (StartsBetween c.args.call.now) (ByLedger start MakesStarted) _ _ _ _ (redriven c.args.call.now.source c.args.call.now.destination (Ok (Ends ends))) c.in_ok-source.ensures.did
    (ledger_told _ _ _ start MakesStarted (ledger.Started c.in-Started.number) (answer.Started c.in-Started.number) (rw c.in-Started.is at c.in_ok-number.ensures.did) (c.in-Started.number, refl, refl)) (λ ds fits. inr (ends, ds, refl, fits))
