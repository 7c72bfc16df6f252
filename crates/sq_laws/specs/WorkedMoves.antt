-- A ledger with an item or a task, as the worked cases of moving messages meet it. Queue 2 has queue 1 for its dead letters.
use Rattle.std.specs.Prelude.{ℕ, zero, suc, ◌+◌, Bool, true, false, List, [], ◌∷◌, Some, None, codes}
use Rattle.sq_base.specs.declared.row.Row.{Row}
use Rattle.sq_model.specs.declared.item.Item.{Item}
use Rattle.sq_model.specs.declared.item.Reason.TheVariants.{Task as ForTask}
use Rattle.sq_model.specs.declared.home_mode.HomeMode.TheVariants.{Accepting}
use Rattle.sq_model.specs.declared.place.Site.{Site}
use Rattle.sq_model.specs.declared.task.NamedQueue.{NamedQueue}
use Rattle.sq_model.specs.declared.task.Task.{Task}
use Rattle.sq_model.specs.declared.task.TaskStatus.{TaskStatus}
use Rattle.sq_model.specs.declared.task.TaskStatus.TheVariants.{Running}
use Rattle.sq_model.specs.Homes.{Home, Serving}
use Rattle.sq_model.specs.Ledgers.{Ledger}
use Rattle.sq_laws.specs.Worked.{dead_hello, hello, plain, site_of}

-- the queue of dead letters, number 1, and the queue whose they are, number 2
abbrev pub letters : NamedQueue
letters = record { number = 1; name = codes "d" }

abbrev pub source : NamedQueue
source = record { number = 2; name = codes "q" }

-- home 0 of the queue of dead letters
abbrev pub letters_site : Site
letters_site = site_of 1 1048576 120000

-- a ledger of these items and tasks; an item more fits
abbrev pub worked_ledger : List Item → ℕ → List Task → ℕ → Ledger
worked_ledger items next_item tasks next_task = record { items = items; next_item = next_item; tasks = tasks; next_task = next_task; limit = 10 }

abbrev pub no_moves : Ledger
no_moves = worked_ledger [] 1 [] 1

-- the dead message, on its way to queue 1, and on its way back
abbrev pub dead_item : Bool → Item
dead_item homeward = record dead_hello { homeward = homeward }

abbrev pub with_dead_item : Bool → Ledger
with_dead_item homeward = worked_ledger (dead_item homeward ∷ []) 2 [] 1

-- no other item fits
abbrev pub full_ledger : Ledger
full_ledger = record (with_dead_item false) { limit = 1 }

-- a message of queue 1, as it stands there as a dead letter of queue 2
abbrev pub letter : Row
letter = record hello { serial = 0; slot = 0; visible_from = 31000; origin = Some 2 }

-- task 1 moves the messages of queue 1 to where they came from, at a rate of 2: so many left, so many came in, and in the second of that number so many left
abbrev pub task_at : TaskStatus → ℕ → ℕ → ℕ → ℕ → Task
task_at status left moved second in_second =
    record { number = 1; source = letters; destination = None; rate = Some 2; started = 1000; status = status; left = left; moved = moved; back = 0; dropped = 0; second = second; in_second = in_second }

abbrev pub new_task_1 : Task
new_task_1 = task_at Running 0 0 0 0

-- the letter, on its way for task 1
abbrev pub task_item : Item
task_item = record { number = 1; row = letter; source = 1; target = 2; reason = ForTask 1; homeward = false }

abbrev pub letters_with : List Row → Home
letters_with rows = Serving (record { settings = plain; version = 1; mode = Accepting; next = 1; rows = rows })

abbrev pub with_task : ℕ → Task → Ledger
with_task next_item task = worked_ledger [] next_item (task ∷ []) 2

abbrev pub with_task_item : Task → Ledger
with_task_item task = worked_ledger (task_item ∷ []) 2 (task ∷ []) 2

-- the same message, on its way back since its target is closed
abbrev pub turned_task_item : Item
turned_task_item = record task_item { homeward = true }

abbrev pub with_turned_item : Task → Ledger
with_turned_item task = worked_ledger (turned_task_item ∷ []) 2 (task ∷ []) 2

-- so many tasks that run, each of another source, from this number on
abbrev pub running_tasks : ℕ → ℕ → List Task
running_tasks number zero = []
running_tasks number (suc more) = record new_task_1 { number = number; source = record { number = number; name = codes "d" } } ∷ running_tasks (number + 1) more

abbrev pub with_running : ℕ → Ledger
with_running count = worked_ledger [] 1 (running_tasks 1 count) (count + 1)
