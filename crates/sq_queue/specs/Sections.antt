-- What a section under a lock does for a session: the step of its part, as the part lies there at that moment. Other sessions may step at it before and after.
use Rattle.std.specs.Prelude.{◌≡◌, ◌≢◌, ◌⊎◌, ℕ, nat_le, if◌then◌else◌, Some, None, option_map, Result, Ok, Err}
use Rattle.sq_base.specs.Stamps.{stamp_end}
use Rattle.sq_base.specs.declared.ids.HomeId.{HomeId}
use Rattle.sq_base.specs.declared.refusal.Refusal.{Refusal}
use Rattle.sq_base.specs.declared.refusal.Refusal.TheVariants.{ClockRange, QueueDoesNotExist, ResourceNotFoundException}
use Rattle.sq_model.specs.Directories.{can_redrive, number_named}
use Rattle.sq_model.specs.Ledgers.{peek, task_of}
use Rattle.sq_model.specs.RecordValues.{Journal}
use Rattle.sq_history.specs.Acts.{call_of}
use Rattle.sq_history.specs.HistoryValue.{HistoryValue}
use Rattle.sq_directory.specs.DirectoryHistory.{DirectoryHistory}
use Rattle.sq_ledger.specs.LedgerHistory.{LedgerHistory}
use Rattle.sq_steps.specs.Journals.{HomeMoves, DirectoryMoves, LedgerMoves, IsHomeRefused, IsDirectoryStepRefused, IsLedgerStepRefused}
use Rattle.sq_steps.specs.Reads.{next_of}
use Rattle.sq_steps.specs.SharedSteps.{SharedMoves, IsUnmoved, IsSharedRefused}
use Rattle.sq_steps.specs.TaskActs.{task_call}
use Rattle.sq_history.specs.HomeIds.{home_index}
use Rattle.sq_actions.specs.Asks.{HomeCounts, Ask, Resolve, AskDirectory, AskHome, AskShared, Peek, Redriven, AskLedger, ReadTask, Gave, Found, Answered, Replied, Nothing, Peeked, Ends, Told, TaskFound}
use Rattle.sq_queue.specs.LockedParts.{LockedPart, AHome, TheDirectory, TheLedger}
use Rattle.sq_queue.specs.SessionValue.{SessionValue, having_read}

-- What a session meets at a service: which readings its clock may give, what its gate saw under locks that were held, how many homes a queue has and a receive asks, and how many homes there are.
pub record Surroundings : Type 1 where
  pub IsReading : ℕ → Type 0
  pub Saw : LockedPart → Type 0
  pub counts : HomeCounts
  pub homes : ℕ

-- A section that is not refused: the gate saw its part so, and the step is one of that part.
abbrev pub SectionDone : Surroundings → Ask → Gave → SessionValue → SessionValue → Type 0
SectionDone at (Resolve name) (Found queue) before after = (part : DirectoryHistory) × at.Saw (TheDirectory part) × (number_named name part.directory.queues ≡ Some queue.number) × (queue.name ≡ name) × (after ≡ having_read before part.last)
SectionDone at (AskDirectory call) (Answered reply) before after =
    (now : ℕ) × (part : DirectoryHistory) × (left : DirectoryHistory) × at.IsReading now × at.Saw (TheDirectory part) × DirectoryMoves part left before.journal after.journal now call reply
SectionDone at (AskHome name id act) (Replied reply) before after =
    (now : ℕ) × (part : HistoryValue) × (left : HistoryValue) × at.IsReading now × at.Saw (AHome id part) × (part.site.home ≡ id)
    × HomeMoves part left before.journal after.journal now name (call_of act) reply
SectionDone at (AskShared name id what) (Replied reply) before after =
    (now : ℕ) × (part : HistoryValue) × (left : HistoryValue) × (ledger : LedgerHistory) × (ledger_left : LedgerHistory) × at.IsReading now × at.Saw (AHome id part) × at.Saw (TheLedger ledger) × (part.site.home ≡ id)
    × SharedMoves part left ledger ledger_left before.journal after.journal now name what reply
SectionDone at (AskShared name id what) Nothing before after =
    (now : ℕ) × (part : HistoryValue) × (ledger : LedgerHistory) × at.IsReading now × at.Saw (AHome id part) × at.Saw (TheLedger ledger) × (part.site.home ≡ id)
    × IsUnmoved part ledger before.journal now what × (after ≡ before)
SectionDone at (Peek number) (Peeked next) before after = (part : LedgerHistory) × at.Saw (TheLedger part) × (next ≡ option_map next_of (peek number part.ledger)) × (after ≡ having_read before part.last)
SectionDone at (Redriven source destination) (Ends ends) before after = (part : DirectoryHistory) × at.Saw (TheDirectory part) × (can_redrive source destination part.directory ≡ Ok ends) × (after ≡ having_read before part.last)
SectionDone at (AskLedger what) (Told reply) before after =
    (now : ℕ) × (part : LedgerHistory) × (left : LedgerHistory) × at.IsReading now × at.Saw (TheLedger part) × LedgerMoves part left before.journal after.journal now (task_call what) reply
SectionDone at (ReadTask number) (TaskFound task) before after = (part : LedgerHistory) × at.Saw (TheLedger part) × (task_of number part.ledger ≡ Some task) × (after ≡ having_read before part.last)
SectionDone at ask gave before after = ⊥

-- there is no lock for this home: the clock is looked at first
abbrev pub HasNoLock : Surroundings → ℕ → HomeId → Refusal → Type 0
HasNoLock at now id e = (home_index at.counts.homes at.homes id ≡ None) × (e ≡ (if nat_le stamp_end now then ClockRange else QueueDoesNotExist))

-- another home lies under the lock of this one, which never is
abbrev pub IsOfAnother : Surroundings → HomeId → Refusal → Type 0
IsOfAnother at id e = (part : HistoryValue) × at.Saw (AHome id part) × (part.site.home ≢ id) × (e ≡ QueueDoesNotExist)

-- Why a section is refused: the cause was there, in its part, as the gate saw it.
abbrev pub SectionRefused : Surroundings → Ask → Refusal → Journal → Type 0
SectionRefused at (Resolve name) e journal = (part : DirectoryHistory) × at.Saw (TheDirectory part) × (number_named name part.directory.queues ≡ None) × (e ≡ QueueDoesNotExist)
SectionRefused at (AskDirectory call) e journal = (now : ℕ) × (part : DirectoryHistory) × at.IsReading now × at.Saw (TheDirectory part) × IsDirectoryStepRefused part journal now call e
SectionRefused at (AskHome name id act) e journal =
    (now : ℕ) × at.IsReading now
    × (HasNoLock at now id e ⊎ IsOfAnother at id e ⊎ ((part : HistoryValue) × at.Saw (AHome id part) × (part.site.home ≡ id) × IsHomeRefused part journal now (call_of act) e))
SectionRefused at (AskShared name id what) e journal =
    (now : ℕ) × at.IsReading now
    × (HasNoLock at now id e ⊎ IsOfAnother at id e ⊎ ((part : HistoryValue) × (ledger : LedgerHistory) × at.Saw (AHome id part) × at.Saw (TheLedger ledger) × (part.site.home ≡ id) × IsSharedRefused part ledger journal now what e))
SectionRefused at (Peek number) e journal = ⊥
SectionRefused at (Redriven source destination) e journal = (part : DirectoryHistory) × at.Saw (TheDirectory part) × (can_redrive source destination part.directory ≡ Err e)
SectionRefused at (AskLedger what) e journal = (now : ℕ) × (part : LedgerHistory) × at.IsReading now × at.Saw (TheLedger part) × IsLedgerStepRefused part journal now (task_call what) e
SectionRefused at (ReadTask number) e journal = (part : LedgerHistory) × at.Saw (TheLedger part) × (task_of number part.ledger ≡ None) × (e ≡ ResourceNotFoundException)

-- A section under a lock, with its answer, and what it leaves with the session; what is refused leaves nothing.
abbrev pub IsSection : Surroundings → SessionValue → Ask → Result Gave Refusal → SessionValue → Type 0
IsSection at before ask (Ok gave) after = SectionDone at ask gave before after
IsSection at before ask (Err e) after = SectionRefused at ask e before.journal × (after ≡ before)
