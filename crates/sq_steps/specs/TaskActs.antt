-- What an actor asks of the ledger alone, as the call that is recorded.
use Rattle.sq_model.specs.declared.ledger.LedgerCall.{LedgerCall}
use Rattle.sq_model.specs.declared.ledger.LedgerCall.TheVariants.{StartTask, CancelTask, ListTasks, FinishTask}
use Rattle.sq_steps.specs.declared.act.TaskAct.{TaskAct}
use Rattle.sq_steps.specs.declared.act.TaskAct.TheVariants as asks

abbrev pub task_call : TaskAct → LedgerCall
task_call (asks.Start asked) = StartTask asked.source asked.destination asked.rate
task_call (asks.Cancel number) = CancelTask number
task_call (asks.List source most) = ListTasks source most
task_call (asks.Finish number) = FinishTask number
