-- Runs of message move tasks: what each step is asked and answers, and what the system is after them.
use Rattle.std.specs.Prelude.{ℕ, zero, suc, ◌+◌, ◌*◌, true, List, [], ◌∷◌, ◌++◌, map, Some, None, codes}
use Rattle.std.specs.Fmt.{decimal}
use Rattle.std.specs.List.{range_with_len}
use Rattle.sq_base.specs.declared.row.Row.{Row}
use Rattle.sq_model.specs.declared.calls.HomeCall.TheVariants.{Close, Configure, Enter, GiveBack, LeaveTask, Look, Send, TurnBack}
use Rattle.sq_model.specs.declared.directory.Attributes.{Attributes}
use Rattle.sq_model.specs.declared.directory.DirectoryCall.TheVariants.{Create, Remove}
use Rattle.sq_model.specs.declared.directory.DirectoryReply.TheVariants.{Made, Removed}
use Rattle.sq_model.specs.declared.directory.Queue.{Queue}
use Rattle.sq_model.specs.declared.item.Item.{Item}
use Rattle.sq_model.specs.declared.ledger.LedgerCall.TheVariants.{CancelTask, FinishTask, ListTasks, StartTask}
use Rattle.sq_model.specs.declared.ledger.LedgerReply.TheVariants.{Cancelled, Finished, Listed, Started}
use Rattle.sq_model.specs.declared.place.Site.{Site}
use Rattle.sq_model.specs.declared.replies.HomeReply.TheVariants.{Done, Left, Looked, NoLiveRow, NoOrigin}
use Rattle.sq_model.specs.declared.task.FailureReason.TheVariants as because
use Rattle.sq_model.specs.declared.task.NamedQueue.{NamedQueue}
use Rattle.sq_model.specs.declared.task.Task.{Task}
use Rattle.sq_model.specs.declared.task.TaskStatus.{TaskStatus}
use Rattle.sq_model.specs.declared.task.TaskStatus.TheVariants.{Cancelled as StatusCancelled, Cancelling, Completed, Failed, Running}
use Rattle.sq_model.specs.Directories.{settings_at}
use Rattle.sq_model.specs.Homes.{Closed, Home, fresh_id}
use Rattle.sq_model.specs.Ledgers.{Ledger}
use Rattle.sq_model.specs.Policies.{nothing_given}
use Rattle.sq_model.specs.Systems.{System, Tag}
use Rattle.sq_laws.specs.Worked.{hello, hello_text, worked_id, plain, site_of, strict, with_rows, worked_home}
use Rattle.sq_laws.specs.WorkedDirectory.{dead_to, letters_queue, made_queue, redrive_given}
use Rattle.sq_laws.specs.WorkedMoves.{letters, source, task_at, task_item}
use Rattle.sq_laws.specs.WorkedRun.{both_made, both_opened, came_in, nothing_moves, of_first, at_worked_home, of_queues, of_second, of_tasks, once_received, one_deleted, sent_to, system, until_entered}

-- a ledger of these items, and of task 1 alone
abbrev pub task_ledger : List Item → ℕ → Task → Ledger
task_ledger items next_item task = record nothing_moves { items = items; next_item = next_item; tasks = task ∷ []; next_task = 2 }

-- ---- five messages of queue 1 go to queue 2

-- the message of a serial, as it was sent to queue 1
abbrev pub letter_sent : ℕ → Row
letter_sent serial = record hello { id = fresh_id (worked_home 1) serial; lineage = fresh_id (worked_home 1) serial; serial = serial; slot = serial }

-- the same one, in transit as the next item
abbrev pub letter_moves : ℕ → Item
letter_moves serial = record task_item { number = suc serial; row = letter_sent serial }

-- and as a new message of queue 2, from a moment on
abbrev pub letter_moved : ℕ → ℕ → Row
letter_moved serial moment = record (letter_sent serial) { id = worked_id serial; enqueued = moment; visible_from = moment }

-- task 1, to queue 2 at a rate of 2
abbrev pub to_source : TaskStatus → ℕ → ℕ → ℕ → ℕ → Task
to_source status left moved second in_second = record (task_at status left moved second in_second) { destination = Some source }

abbrev pub with_letters : List ℕ → Home
with_letters serials = with_rows plain 5 (map letter_sent serials)

abbrev pub until_two_left : List Tag
until_two_left = both_opened
    ++ map (λ serial. of_first 1000 serial 0 (4 + serial) (Send hello_text None) (sent_to 1 serial)) (range_with_len 0 5)
    ++ of_tasks 1000 5 0 9 (StartTask letters (Some source) (Some 2)) (Started 1)
    ∷ of_first 1000 7 1 0 (LeaveTask 1) (Left (letter_moves 0))
    ∷ of_first 1500 1 1 1 (LeaveTask 1) (Left (letter_moves 1))
    ∷ []

abbrev pub after_two_left : System
after_two_left = system both_made (task_ledger (letter_moves 0 ∷ letter_moves 1 ∷ []) 3 (to_source Running 2 0 1 2)) (with_letters (2 ∷ 3 ∷ 4 ∷ [])) (with_rows strict 0 [])

abbrev pub until_cancelled : List Tag
until_cancelled = until_two_left
    ++ of_first 2000 1 1 2 (LeaveTask 1) (Left (letter_moves 2))
    ∷ of_second 2000 3 1 3 (Enter (letter_moves 0)) (came_in 0)
    ∷ of_second 2000 5 1 4 (Enter (letter_moves 1)) (came_in 1)
    ∷ of_tasks 2001 0 0 10 (CancelTask 1) (Cancelled 2)
    ∷ []

abbrev pub cancelling : Task
cancelling = to_source Cancelling 3 2 2 1

abbrev pub after_cancel : System
after_cancel = system both_made (task_ledger (letter_moves 2 ∷ []) 4 cancelling) (with_letters (3 ∷ 4 ∷ [])) (with_rows strict 2 (letter_moved 0 2000 ∷ letter_moved 1 2000 ∷ []))

abbrev pub all_received : List Row
all_received = map (once_received 2001) (letter_moved 0 2000 ∷ letter_moved 1 2000 ∷ letter_moved 2 2001 ∷ [])

abbrev pub was_cancelled : Task
was_cancelled = to_source StatusCancelled 3 3 2 1

abbrev pub cancelled_run : List Tag
cancelled_run = until_cancelled
    ++ of_tasks 2001 1 0 11 (ListTasks 1 1) (Listed (cancelling ∷ []))
    ∷ of_second 2001 3 1 5 (Enter (letter_moves 2)) (came_in 2)
    ∷ of_tasks 2001 4 1 6 (FinishTask 1) Finished
    ∷ of_tasks 2001 5 0 12 (ListTasks 1 1) (Listed (was_cancelled ∷ []))
    ∷ of_second 2001 6 0 13 (Look 10 None) (Looked all_received)
    ∷ []

abbrev pub after_cancelled : System
after_cancelled = system both_made (task_ledger [] 4 was_cancelled) (with_letters (3 ∷ 4 ∷ [])) (with_rows strict 3 all_received)

-- ---- queue 2 is deleted meanwhile

abbrev pub turned_letter : ℕ → Item
turned_letter serial = record (letter_moves serial) { homeward = true }

-- back in queue 1 with another serial
abbrev pub letter_back : ℕ → ℕ → Row
letter_back serial again = record (letter_sent serial) { serial = again; slot = again; visible_from = 1500 }

abbrev pub failing : Task
failing = to_source (Failed because.DestinationClosed) 2 0 1 2

abbrev pub deleted_failed : Task
deleted_failed = record failing { back = 2 }

abbrev pub until_turned : List Tag
until_turned = until_two_left
    ++ of_queues 1500 0 0 10 (Remove (codes "q")) (Removed 2)
    ∷ of_second 1500 1 0 11 Close Done
    ∷ of_second 1500 3 1 2 (TurnBack (letter_moves 0)) Done
    ∷ of_second 1500 5 1 3 (TurnBack (letter_moves 1)) Done
    ∷ []

abbrev pub after_turned : System
after_turned = system (one_deleted (letters_queue ∷ []) (codes "q") 1500) (task_ledger (turned_letter 0 ∷ turned_letter 1 ∷ []) 3 failing) (with_letters (2 ∷ 3 ∷ 4 ∷ [])) Closed

abbrev pub deleted_run : List Tag
deleted_run = until_turned
    ++ of_first 1500 7 1 4 (GiveBack (turned_letter 0)) (came_in 5)
    ∷ of_first 1500 9 1 5 (GiveBack (turned_letter 1)) (came_in 6)
    ∷ of_tasks 1500 10 0 12 (ListTasks 1 1) (Listed (deleted_failed ∷ []))
    ∷ []

abbrev pub after_deleted : System
after_deleted = system (one_deleted (letters_queue ∷ []) (codes "q") 1500) (task_ledger [] 3 deleted_failed)
    (with_rows plain 7 (map letter_sent (2 ∷ 3 ∷ 4 ∷ []) ++ letter_back 0 5 ∷ letter_back 1 6 ∷ [])) Closed

-- ---- back to where a message came from

-- task 1 without a destination, at the rate that is taken then
abbrev pub to_origin : ℕ → TaskStatus → ℕ → ℕ → ℕ → ℕ → Task
to_origin started status left moved second in_second = record (task_at status left moved second in_second) { rate = None; started = started }

abbrev pub origin_failed : Task
origin_failed = to_origin 1000 (Failed because.NoOrigin) 0 0 0 0

abbrev pub no_origin_run : List Tag
no_origin_run = both_opened
    ++ of_first 1000 0 0 4 (Send hello_text None) (sent_to 1 0)
    ∷ of_tasks 1000 1 0 5 (StartTask letters None None) (Started 1)
    ∷ of_first 1000 3 0 6 (LeaveTask 1) (NoOrigin 0)
    ∷ of_tasks 1000 4 0 7 (ListTasks 1 1) (Listed (origin_failed ∷ []))
    ∷ []

abbrev pub after_no_origin : System
after_no_origin = system both_made (task_ledger [] 1 origin_failed) (with_rows plain 1 (letter_sent 0 ∷ [])) (with_rows strict 0 [])

abbrev pub item_2 : Item
item_2 = record task_item { number = 2 }

-- the letter as a new message of its queue, received
abbrev pub letter_home : Row
letter_home = once_received 31000 (record hello { id = worked_id 1; serial = 1; slot = 1; enqueued = 31000 })

abbrev pub origin_run : List Tag
origin_run = until_entered
    ++ of_tasks 31000 5 0 7 (StartTask letters None None) (Started 1)
    ∷ of_first 31000 7 0 8 (LeaveTask 1) (Left item_2)
    ∷ of_second 31000 9 0 9 (Enter item_2) (came_in 1)
    ∷ of_first 31000 11 0 10 (LeaveTask 1) NoLiveRow
    ∷ of_tasks 31000 12 0 11 (FinishTask 1) Finished
    ∷ of_second 31000 13 0 12 (Look 1 None) (Looked (letter_home ∷ []))
    ∷ []

abbrev pub after_origin : System
after_origin = system both_made (task_ledger [] 3 (to_origin 31000 Completed 1 1 31 1)) (with_rows plain 1 []) (with_rows strict 2 (letter_home ∷ []))

-- ---- a chain of 102 queues, each with the one before it for its dead letters

-- "c0", "c1" and so on
abbrev pub chain_name : ℕ → List ℕ
chain_name n = 99 ∷ decimal n

abbrev pub chain_named : ℕ → NamedQueue
chain_named n = record { number = suc n; name = chain_name n }

abbrev pub chain_site : ℕ → Site
chain_site n = site_of (suc n) 1048576 120000

abbrev pub chain_given : ℕ → Attributes
chain_given zero = nothing_given
chain_given (suc n) = redrive_given (Some (dead_to (chain_name n)))

abbrev pub chain_queue : ℕ → Queue
chain_queue zero = made_queue 1 (chain_name 0)
chain_queue (suc n) = record (made_queue (suc (suc n)) (chain_name (suc n))) {
  settings = record plain { redrive = Some (record { target = suc n; max_receives = 1 }) };
  redrive = Some (dead_to (chain_name n));
}

-- these queues are made, each with its home
abbrev pub chain_made : List ℕ → List Tag
chain_made [] = []
chain_made (n ∷ more) =
    of_queues 0 (2 * n + 1) 0 (2 * n) (Create (chain_name n) (chain_given n)) (Made (settings_at (chain_queue n)))
    ∷ at_worked_home n 0 (2 * n + 2) 0 (2 * n + 1) (Configure (chain_queue n).settings 1) Done
    ∷ chain_made more

abbrev pub chain_task : ℕ → Task
chain_task n = record (to_origin 0 Running 0 0 0 0) { number = suc n; source = chain_named n }

abbrev pub chain_sites : List Site
chain_sites = map chain_site (range_with_len 0 102)

abbrev pub chain_run : List Tag
chain_run = chain_made (range_with_len 0 102) ++ map (λ n. of_tasks 0 (205 + n) 0 (204 + n) (StartTask (chain_named n) None None) (Started (suc n))) (range_with_len 0 100)

abbrev pub after_chain : System
after_chain = record {
  directory = record { queues = map chain_queue (range_with_len 0 102); deleted = []; made = 102; most = 102 };
  ledger = record nothing_moves { tasks = map chain_task (range_with_len 0 100); next_task = 101 };
  homes = map (λ n. record { site = chain_site n; home = with_rows (chain_queue n).settings 0 [] }) (range_with_len 0 102);
}
