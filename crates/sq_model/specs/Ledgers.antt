-- The ledger: the messages in transit, and the tasks that move messages. The steps that it shares with a home are here as the ledger sees them.
use Rattle.std.specs.Prelude.{◌≡◌, ◌⊎◌, ℕ, ◌+◌, ◌<◌, ◌≤◌, Bool, true, false, not, ◌&&◌, ◌||◌, ◌==◌, List, [], ◌∷◌, ◌++◌, length, count_by, filter, map, find, take, reverse, nat_lt, nat_le, if◌then◌else◌, Option, Some, None, option_map, option_to_list, slice_get}
use Rattle.std.specs.List.{AllByRecursion, Contains, list_any}
use Rattle.std.specs.Option.{option_or}
use Rattle.sq_base.specs.declared.refusal.Refusal.{Refusal}
use Rattle.sq_base.specs.declared.refusal.Refusal.TheVariants.{Worn, OverLimit, ResourceNotFoundException, UnsupportedOperation}
use Rattle.sq_model.specs.declared.calls.HomeCall.TheVariants.{LeaveDead, LeaveDrain, LeaveTask, Enter, TurnBack, GiveBack, Drop}
use Rattle.sq_model.specs.declared.item.Item.{Item}
use Rattle.sq_model.specs.declared.item.Reason.{Reason}
use Rattle.sq_model.specs.declared.item.Reason.TheVariants.{DeadLetter, Task as ForTask, Drain}
use Rattle.sq_model.specs.declared.ledger.LedgerCall.{LedgerCall}
use Rattle.sq_model.specs.declared.ledger.LedgerCall.TheVariants as asks
use Rattle.sq_model.specs.declared.ledger.LedgerReply.{LedgerReply}
use Rattle.sq_model.specs.declared.ledger.LedgerReply.TheVariants as answers
use Rattle.sq_model.specs.declared.replies.HomeReply.TheVariants.{Done, Left, NoLiveRow, NoOrigin, SourceClosed, Entered}
use Rattle.sq_model.specs.declared.task.FailureReason.TheVariants as because
use Rattle.sq_model.specs.declared.task.Task.{Task}
use Rattle.sq_model.specs.declared.event.Event.{Event}
use Rattle.sq_model.specs.Homes.{IsFrom, may_enter, may_return, refused_if}
use Rattle.sq_model.specs.Passages.{passed_in}
use Rattle.sq_model.specs.Tasks.{is_active, is_running, is_ended, may_leave, new_task, rate_of, target_of, second_of, with_left, with_moved, with_back, with_dropped, with_status, failed_as, cancelled_as, finished_as}

-- the items in rising number, the number of the next one, the tasks in order of their start, the number of the next one, and how many items there may be
pub record Ledger : Type 0 where
  pub items : List Item
  pub next_item : ℕ
  pub tasks : List Task
  pub next_task : ℕ
  pub limit : ℕ

-- nothing is in transit, and no task was started
abbrev pub opening_ledger : ℕ → Ledger
opening_ledger limit = record { items = []; next_item = 1; tasks = []; next_task = 1; limit = limit }

-- no number from here on is given
abbrev pub last_number : ℕ
last_number = 4611686018427387903

-- so many tasks may be active in all (own), and one of a source (SQS API Reference, StartMessageMoveTask)
abbrev pub most_active : ℕ
most_active = 100

abbrev pub has_number : ℕ → Item → Bool
has_number number item = item.number == number

-- the item of a number
abbrev pub item_of : ℕ → Ledger → Option Item
item_of number l = find (has_number number) l.items

-- the item that comes after a number, in a circle: the first one above it, and where none is, the first of all
abbrev pub peek : ℕ → Ledger → Option Item
peek number l = option_or (find (λ item. nat_lt number item.number) l.items) (slice_get l.items 0)

abbrev pub items_without : ℕ → List Item → List Item
items_without number items = filter (λ item. not (has_number number item)) items

abbrev pub is_task : ℕ → Task → Bool
is_task number task = task.number == number

-- the task of a number
abbrev pub task_of : ℕ → Ledger → Option Task
task_of number l = find (is_task number) l.tasks

abbrev pub is_of_source : ℕ → Task → Bool
is_of_source source task = task.source.number == source

abbrev pub is_active_at : ℕ → Task → Bool
is_active_at source task = is_active task.status && is_of_source source task

-- the tasks, the one of this number changed
abbrev pub changed_task : ℕ → (Task → Task) → List Task → List Task
changed_task number change tasks = map (λ task. if is_task number task then change task else task) tasks

-- where the reason is a task, that one changed
abbrev pub changed_for : Reason → (Task → Task) → List Task → List Task
changed_for DeadLetter change tasks = tasks
changed_for (ForTask number) change tasks = changed_task number change tasks
changed_for Drain change tasks = tasks

abbrev pub is_for : ℕ → Reason → Bool
is_for number DeadLetter = false
is_for number (ForTask task) = task == number
is_for number Drain = false

-- how many items of a task are in transit
abbrev pub in_transit : ℕ → List Item → ℕ
in_transit number items = count_by (λ item. is_for number item.reason) items

-- an item more fits, and a number is left for it
pub record TakesOneMore (l : Ledger) : Type 0 where
  pub not_worn : l.next_item < last_number
  pub within : length l.items < l.limit

-- an item with the next number comes in, and the tasks become these
abbrev pub TakesIn : Ledger → Item → List Task → Ledger → Type 0
TakesIn l item tasks after = TakesOneMore l × (item.number ≡ l.next_item) × (after ≡ record l { items = l.items ++ item ∷ []; next_item = l.next_item + 1; tasks = tasks })

-- an item that is there goes out, and its task is changed
abbrev pub GivesOut : Ledger → Item → (Task → Task) → Ledger → Type 0
GivesOut l item change after = (item_of item.number l ≡ Some item) × (after ≡ record l { items = items_without item.number l.items; tasks = changed_for item.reason change l.tasks })

abbrev pub turned : Item → Item
turned item = record item { homeward = true }

abbrev pub turned_if : ℕ → Item → Item
turned_if number item = if has_number number item then turned item else item

-- the task is one that takes messages from this source
pub record MayTake (l : Ledger) (source number : ℕ) (task : Task) : Type 0 where
  pub found : task_of number l ≡ Some task
  pub running : is_running task.status ≡ true
  pub of_source : is_of_source source task ≡ true

-- the tasks of a source, the most recent first (SQS API Reference, ListMessageMoveTasks)
abbrev pub tasks_of : ℕ → Ledger → List Task
tasks_of source l = reverse (filter (is_of_source source) l.tasks)

-- the most recent task of a source
abbrev pub last_task : ℕ → Ledger → Option Task
last_task source l = slice_get (tasks_of source l) 0

-- a task is there, and is active
abbrev pub is_still_active : Option Task → Bool
is_still_active None = false
is_still_active (Some task) = is_active task.status

-- From a ledger, at m, it may give this reply to the call and go on to after.
unfoldable pub LedgerStep : Ledger → ℕ → LedgerCall → LedgerReply → Ledger → Type 0
LedgerStep l m (asks.AtHome home LeaveDead) (answers.AtHome (Left item)) after =
    IsFrom home DeadLetter item × TakesIn l item l.tasks after
LedgerStep l m (asks.AtHome home LeaveDrain) (answers.AtHome (Left item)) after =
    IsFrom home Drain item × (item.target ≡ home.queue) × TakesIn l item l.tasks after
LedgerStep l m (asks.AtHome home (LeaveTask number)) (answers.AtHome (Left item)) after =
    IsFrom home (ForTask number) item
    × ((task : Task) × MayTake l home.queue number task × (may_leave m task ≡ true) × (Some item.target ≡ target_of task item.row))
    × TakesIn l item (changed_task number (with_left m) l.tasks) after
LedgerStep l m (asks.AtHome home (LeaveTask number)) (answers.AtHome NoLiveRow) after =
    ((task : Task) × MayTake l home.queue number task × (may_leave m task ≡ true)) × (after ≡ l)
LedgerStep l m (asks.AtHome home (LeaveTask number)) (answers.AtHome (NoOrigin serial)) after =
    ((task : Task) × MayTake l home.queue number task × (may_leave m task ≡ true) × (task.destination ≡ None))
    × TakesOneMore l
    × (after ≡ record l { tasks = changed_task number (with_status (failed_as because.NoOrigin)) l.tasks })
LedgerStep l m (asks.AtHome home (LeaveTask number)) (answers.AtHome SourceClosed) after =
    ((task : Task) × MayTake l home.queue number task) × (after ≡ record l { tasks = changed_task number (with_status (failed_as because.SourceClosed)) l.tasks })
LedgerStep l m (asks.AtHome home (Enter item)) (answers.AtHome (Entered entered)) after =
    (may_enter home item ≡ true) × GivesOut l item with_moved after
LedgerStep l m (asks.AtHome home (TurnBack item)) (answers.AtHome Done) after =
    (may_enter home item ≡ true)
    × (item_of item.number l ≡ Some item)
    × (after ≡ record l { items = map (turned_if item.number) l.items; tasks = changed_for item.reason (with_status (failed_as because.DestinationClosed)) l.tasks })
LedgerStep l m (asks.AtHome home (GiveBack item)) (answers.AtHome (Entered entered)) after =
    (may_return home item ≡ true) × GivesOut l item with_back after
LedgerStep l m (asks.AtHome home (Drop item)) (answers.AtHome Done) after =
    (may_return home item ≡ true) × GivesOut l item with_dropped after
LedgerStep l m (asks.StartTask source destination rate) (answers.Started number) after =
    (l.next_task < last_number)
    × (list_any (is_active_at source.number) l.tasks ≡ false)
    × (count_by (λ task. is_active task.status) l.tasks < most_active)
    × (number ≡ l.next_task)
    × (after ≡ record l { tasks = l.tasks ++ new_task number source destination rate m ∷ []; next_task = l.next_task + 1 })
LedgerStep l m (asks.CancelTask number) (answers.Cancelled moved) after =
    ((task : Task) × (task_of number l ≡ Some task) × (is_running task.status ≡ true) × (moved ≡ task.moved))
    × (after ≡ record l { tasks = changed_task number (with_status cancelled_as) l.tasks })
LedgerStep l m (asks.ListTasks source most) (answers.Listed listed) after =
    (listed ≡ take most (tasks_of source l)) × (after ≡ l)
LedgerStep l m (asks.FinishTask number) answers.Finished after =
    ((task : Task) × (task_of number l ≡ Some task) × (is_active task.status ≡ true))
    × (in_transit number l.items ≡ 0)
    × (after ≡ record l { tasks = changed_task number (with_status finished_as) l.tasks })
-- no other reply is given
LedgerStep l m call reply after = ⊥

-- the ledger takes one item more; its numbers may be used up
abbrev pub transit_refusal : Ledger → Option Refusal
transit_refusal l = refused_if (nat_le last_number l.next_item) Worn (refused_if (nat_le l.limit (length l.items)) OverLimit None)

abbrev pub cancel_refusal : Option Task → Option Refusal
cancel_refusal None = Some ResourceNotFoundException
cancel_refusal (Some task) = refused_if (not (is_running task.status)) UnsupportedOperation None

abbrev pub finish_refusal : ℕ → Option Task → Option Refusal
finish_refusal waiting None = Some ResourceNotFoundException
finish_refusal waiting (Some task) = refused_if (not (is_active task.status) || nat_lt 0 waiting) UnsupportedOperation None

-- the first check of the ledger that fails, of a step that is its own
unfoldable pub ledger_refusal : Ledger → ℕ → LedgerCall → Option Refusal
ledger_refusal l m (asks.AtHome home call) = None
ledger_refusal l m (asks.StartTask source destination rate) =
    refused_if (nat_le last_number l.next_task) Worn
    (refused_if (list_any (is_active_at source.number) l.tasks) UnsupportedOperation
    (refused_if (nat_le most_active (count_by (λ task. is_active task.status) l.tasks)) OverLimit None))
ledger_refusal l m (asks.CancelTask number) = cancel_refusal (task_of number l)
ledger_refusal l m (asks.ListTasks source most) = None
ledger_refusal l m (asks.FinishTask number) = finish_refusal (in_transit number l.items) (task_of number l)

-- ---- what holds of every ledger

-- numbers rise from low on, and stay below the next one
abbrev pub ItemsRise : ℕ → List Item → ℕ → Type 0
ItemsRise low [] next = low ≤ next
ItemsRise low (item ∷ items) next = (low ≤ item.number) × ItemsRise (item.number + 1) items next

-- tasks are numbered from low on, without a gap
abbrev pub TasksCount : ℕ → List Task → Type 0
TasksCount low [] = Unit {0}
TasksCount low (task ∷ tasks) = (task.number ≡ low) × TasksCount (low + 1) tasks

-- where an item leaves for a task, that task is there
abbrev pub HasTask : Ledger → Item → Type 0
HasTask l item = (number : ℕ) → item.reason ≡ ForTask number → (task : Task) × (task_of number l ≡ Some task)

-- no more left for a task than numbers of items were given, since each took one
abbrev pub LeftBelow : ℕ → Task → Type 0
LeftBelow next task = task.left < next

-- where a task is active, none after it is of its source
abbrev pub OnlyLastActive : List Task → Type 0
OnlyLastActive [] = Unit {0}
OnlyLastActive (task ∷ later) = (is_active task.status ≡ true → AllByRecursion (λ other. is_of_source task.source.number other ≡ false) later) × OnlyLastActive later

-- What left came in, came back, was dropped, or is in transit; nothing is in transit of a task that ended as it was asked to; and no more left in a second than its rate.
pub record IsTask (items : List Item) (task : Task) : Type 0 where
  pub counted : task.left ≡ task.moved + task.back + task.dropped + in_transit task.number items
  pub ended : is_ended task.status ≡ true → in_transit task.number items ≡ 0
  pub rate : task.in_second ≤ rate_of task

-- Items stand in rising number and tasks are numbered without a gap, and no number passes the last one. The task of each item is there, each task adds up, and not too many are active.
pub record IsLedger (l : Ledger) : Type 0 where
  pub items_rise : ItemsRise 1 l.items l.next_item
  pub items_end : l.next_item ≤ last_number
  pub within : length l.items ≤ l.limit
  pub each_item : AllByRecursion (HasTask l) l.items
  pub tasks_count : TasksCount 1 l.tasks
  pub next_task : l.next_task ≡ length l.tasks + 1
  pub tasks_end : l.next_task ≤ last_number
  pub each : AllByRecursion (IsTask l.items) l.tasks
  pub left_below : AllByRecursion (LeftBelow l.next_item) l.tasks
  -- one active task a source
  pub one_active : (source : ℕ) → count_by (is_active_at source) l.tasks ≤ 1
  pub last_active : OnlyLastActive l.tasks
  pub few_active : count_by (λ task. is_active task.status) l.tasks ≤ most_active

-- an item is the least above a number
pub record IsAbove (number : ℕ) (items : List Item) (item : Item) : Type 0 where
  pub above : number < item.number
  pub least : AllByRecursion (λ other. number < other.number → item.number ≤ other.number) items

-- no item is above a number, and this one is the least of all
pub record IsRound (number : ℕ) (items : List Item) (item : Item) : Type 0 where
  pub none_above : AllByRecursion (λ other. other.number ≤ number) items
  pub least : AllByRecursion (λ other. item.number ≤ other.number) items

-- an item is there, and comes after a number in a circle
abbrev pub IsNextItem : ℕ → List Item → Item → Type 0
IsNextItem number items item = Contains items item × (IsAbove number items item ⊎ IsRound number items item)

abbrev pub IsAfter : ℕ → List Item → Option Item → Type 0
IsAfter number items None = items ≡ []
IsAfter number items (Some item) = IsNextItem number items item

-- a task is the one of a source with the greatest number
pub record IsLatest (source : ℕ) (tasks : List Task) (task : Task) : Type 0 where
  pub there : Contains tasks task
  pub of_source : is_of_source source task ≡ true
  pub latest : AllByRecursion (λ other. is_of_source source other ≡ true → other.number ≤ task.number) tasks

abbrev pub IsLastTask : ℕ → List Task → Option Task → Type 0
IsLastTask source tasks None = AllByRecursion (λ task. is_of_source source task ≡ false) tasks
IsLastTask source tasks (Some task) = IsLatest source tasks task

-- ---- what a history of the ledger gives

abbrev pub LedgerEvent : Type 0
LedgerEvent = Event LedgerCall LedgerReply

-- the item that the ledger took in, where it took one
abbrev pub item_taken : LedgerReply → Option Item
item_taken (answers.AtHome reply) = (passed_in reply).left
item_taken (answers.Started number) = None
item_taken (answers.Cancelled moved) = None
item_taken (answers.Listed listed) = None
item_taken answers.Finished = None

-- the number of an item that came in
abbrev pub item_given : LedgerReply → List ℕ
item_given reply = option_to_list (option_map (λ item. item.number) (item_taken reply))

-- the number of a task that was started
abbrev pub task_given : LedgerReply → List ℕ
task_given (answers.AtHome reply) = []
task_given (answers.Started number) = number ∷ []
task_given (answers.Cancelled moved) = []
task_given (answers.Listed listed) = []
task_given answers.Finished = []

abbrev pub all_given : (LedgerReply → List ℕ) → List LedgerEvent → List ℕ
all_given given [] = []
all_given given (e ∷ es) = given e.reply ++ all_given given es

-- each number is above those before it, and from low on
abbrev pub NumbersRise : ℕ → List ℕ → Type 0
NumbersRise low [] = Unit {0}
NumbersRise low (n ∷ ns) = (low ≤ n) × NumbersRise (n + 1) ns

-- an item is there, and is for this task
abbrev pub is_item_for : ℕ → Option Item → Bool
is_item_for number None = false
is_item_for number (Some item) = is_for number item.reason

-- a message left for this task
abbrev pub leaves_for : ℕ → LedgerReply → Bool
leaves_for number reply = is_item_for number (item_taken reply)

-- how many left for it in a second
abbrev pub leaves_in : ℕ → ℕ → List LedgerEvent → ℕ
leaves_in number second events = count_by (λ e. leaves_for number e.reply && (second_of e.stamp.moment == second)) events

-- a call that the ledger does not share with a home
abbrev pub is_own : LedgerCall → Bool
is_own (asks.AtHome home call) = false
is_own (asks.StartTask source destination rate) = true
is_own (asks.CancelTask number) = true
is_own (asks.ListTasks source most) = true
is_own (asks.FinishTask number) = true
