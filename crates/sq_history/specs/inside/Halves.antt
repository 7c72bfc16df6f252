-- What a home's half of a step that it shares with the ledger gives.
use Rattle.std.specs.Prelude.{◌≡◌, ℕ, false, Ok, Option, Some, None}
use Rattle.sq_base.specs.declared.row.Row.{Row}
use Rattle.sq_model.specs.declared.place.Site.{Site}
use Rattle.sq_model.specs.declared.calls.HomeCall.{HomeCall}
use Rattle.sq_model.specs.declared.item.Item.{Item}
use Rattle.sq_model.specs.declared.item.Reason.TheVariants.{Task as ForTask}
use Rattle.sq_model.specs.declared.replies.HomeReply.TheVariants.{NoLiveRow, NoOrigin}
use Rattle.sq_model.specs.declared.task.Task.{Task}
use Rattle.sq_model.specs.declared.shared.ItemAct.{ItemAct}
use Rattle.sq_model.specs.Homes.{Home, IsFrom}
use Rattle.sq_model.specs.ItemActs.{call_with}
use Rattle.sq_model.specs.Tasks.{target_of}
use Rattle.sq_shard.specs.Moves.{IsLiveAt, has_live_row}
use Rattle.sq_history.specs.declared.task_leave.Found.{Found}
use Rattle.sq_history.specs.declared.task_leave.Found.TheVariants as found
use Rattle.sq_task.specs.declared.leave.TaskLeave.{TaskLeave}

-- What a leave for a task finds at a home.
abbrev pub IsFound : Site → Home → ℕ → TaskLeave → Task → Found → Type 0
IsFound site home m asked task found.NoLiveRow = has_live_row home m ≡ false
IsFound site home m asked task (found.NoOrigin serial) =
    ((number : ℕ) × (asked.item ≡ Ok number)) × ((row : Row) × IsLiveAt home m row × (target_of task row ≡ None) × (row.serial ≡ serial))
IsFound site home m asked task (found.Leaving item) =
    IsFrom site.home (ForTask asked.number) item × IsLiveAt home m item.row × (asked.item ≡ Ok item.number) × (Some item.target ≡ target_of task item.row)

-- copies of the item where it is there, and nothing where it is not: itself, and three calls that do this with it
abbrev pub AreCopies : ItemAct → Option Item → Option (Item × (HomeCall × HomeCall × HomeCall)) → Type 0
AreCopies act item None = item ≡ None
AreCopies act item (Some copies) =
    (item ≡ Some copies.0) × (copies.1.0 ≡ call_with act copies.0) × (copies.1.1 ≡ call_with act copies.0) × (copies.1.2 ≡ call_with act copies.0)
