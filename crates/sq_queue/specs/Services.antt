-- What the calls of a service's sessions promise.
use Rattle.std.specs.Prelude.{◌≡◌, ℕ, List, Option, Result}
use Rattle.sq_base.specs.StampValue.{StampValue}
use Rattle.sq_model.specs.declared.task.NamedQueue.{NamedQueue}
use Rattle.sq_model.specs.declared.task.Task.{Task}
use Rattle.sq_model.specs.Directories.{all_named}
use Rattle.sq_model.specs.Ledgers.{last_task}
use Rattle.sq_directory.specs.DirectoryHistory.{DirectoryHistory}
use Rattle.sq_ledger.specs.LedgerHistory.{LedgerHistory}
use Rattle.sq_base.specs.declared.refusal.Refusal.{Refusal}
use Rattle.sq_calls.specs.declared.calls.Answer.{Answer}
use Rattle.sq_calls.specs.declared.calls.Call.{Call}
use Rattle.sq_actions.specs.Performs.{CallFits, Performs, UntilFits}
use Rattle.sq_queue.specs.LockedParts.{LockedPart, TheDirectory, TheLedger}
use Rattle.sq_queue.specs.Sections.{Surroundings, IsSection}
use Rattle.sq_queue.specs.SessionValue.{SessionValue, having_read}

-- a session has read a part, whose last stamp it has seen then, and nothing else of it changed
abbrev pub HasRead : SessionValue → SessionValue → Type 0
HasRead before after = (last : StampValue) × (after ≡ having_read before last)

-- a session has read the names and numbers of all queues, as a gate that saw this saw the directory
abbrev pub NamesRead : (LockedPart → Type 0) → SessionValue → List NamedQueue → SessionValue → Type 0
NamesRead Saw before names after = (part : DirectoryHistory) × Saw (TheDirectory part) × (names ≡ all_named part.directory) × (after ≡ having_read before part.last)

-- a session has read the most recent task of a source, if it had one, as a gate that saw this saw the ledger
abbrev pub LastTaskRead : (LockedPart → Type 0) → SessionValue → ℕ → Option Task → SessionValue → Type 0
LastTaskRead Saw before source task after = (part : LedgerHistory) × Saw (TheLedger part) × (task ≡ last_task source part.ledger) × (after ≡ having_read before part.last)

-- A session did a call at a service: each of its steps is a section there, and they and what is told fit the call.
abbrev pub CallDone : Surroundings → Call → SessionValue → Result Answer Refusal → SessionValue → Type 0
CallDone at call before told after = Performs (IsSection at) (CallFits at.counts call) before told after

-- it did so many steps of a call, or all of it
abbrev pub UntilDone : Surroundings → ℕ → Call → SessionValue → Result (Option Answer) Refusal → SessionValue → Type 0
UntilDone at steps call before told after = Performs (IsSection at) (UntilFits steps (CallFits at.counts call)) before told after
