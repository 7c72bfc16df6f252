-- Steps that calls and turns ask, each with what it was answered.
use Rattle.std.specs.Prelude.{ℕ, List, Option, Some, Result}
use Rattle.sq_base.specs.declared.refusal.Refusal.{Refusal}
use Rattle.sq_model.specs.declared.directory.DirectoryCall.{DirectoryCall}
use Rattle.sq_model.specs.declared.directory.DirectoryReply.{DirectoryReply}
use Rattle.sq_model.specs.declared.ledger.LedgerReply.{LedgerReply}
use Rattle.sq_model.specs.declared.replies.HomeReply.{HomeReply}
use Rattle.sq_history.specs.declared.act.HomeAct.{HomeAct}
use Rattle.sq_steps.specs.declared.act.TaskAct.{TaskAct}
use Rattle.sq_actions.specs.Asks.{Resolve, AskDirectory, AskHome, Redriven, AskLedger, Gave, Done, gave_as, Answered, Replied, Told}
use Rattle.sq_actions.specs.Calls.{home_numbered}

-- a queue is looked up by its name; the directory is asked; a home of a queue is asked, by the queue's name
abbrev pub named : List ℕ → Result Gave Refusal → Done
named name answered = record { ask = Resolve name; answered = answered }

abbrev pub directory_step : DirectoryCall → Result DirectoryReply Refusal → Done
directory_step call answered = record { ask = AskDirectory call; answered = gave_as Answered answered }

abbrev pub home_step : List ℕ → ℕ → ℕ → HomeAct → Result HomeReply Refusal → Done
home_step name queue home act answered = record { ask = AskHome (Some name) (home_numbered queue home) act; answered = gave_as Replied answered }

-- between which queues messages may be moved is read; the ledger alone is asked
abbrev pub redriven : List ℕ → Option (List ℕ) → Result Gave Refusal → Done
redriven source destination answered = record { ask = Redriven source destination; answered = answered }

abbrev pub ledger_step : TaskAct → Result LedgerReply Refusal → Done
ledger_step what answered = record { ask = AskLedger what; answered = gave_as Told answered }
