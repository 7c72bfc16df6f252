-- What holds of every ledger holds after each of its steps.
use Rattle.std.proofs.Common.{◌≡◌, ℕ, ◌+◌, ◌<◌, ◌≤◌, Bool, true, false, not, cond, List, [], ◌∷◌, ◌++◌, length, map, refl, sym, ap, ◌∙◌, subst, arith, Option, Some}
use Rattle.std.specs.Prelude.{◌==◌, ◌&&◌, ◌||◌, nat_lt, count_by, find, if◌then◌else◌}
use Rattle.std.specs.List.{AllByRecursion, list_any}
use Rattle.std.proofs.lemmas.Grind.{common_steps}
use Rattle.std.proofs.lemmas.Bool.{eqb-true}
use Rattle.std.proofs.lemmas.List.Sums.{sum_by-cons}
use Rattle.sq_model.specs.declared.calls.HomeCall.TheVariants.{LeaveDead, LeaveDrain, LeaveTask, Enter, TurnBack, GiveBack, Drop}
use Rattle.sq_model.specs.declared.item.Item.{Item}
use Rattle.sq_model.specs.declared.item.Reason.{Reason}
use Rattle.sq_model.specs.declared.item.Reason.TheVariants.{DeadLetter, Task as ForTask, Drain}
use Rattle.sq_model.specs.declared.ledger.LedgerCall.{LedgerCall}
use Rattle.sq_model.specs.declared.ledger.LedgerCall.TheVariants as asks
use Rattle.sq_model.specs.declared.ledger.LedgerReply.{LedgerReply}
use Rattle.sq_model.specs.declared.ledger.LedgerReply.TheVariants as answers
use Rattle.sq_model.specs.declared.replies.HomeReply.TheVariants.{Done, Left, NoLiveRow, NoOrigin, SourceClosed, Entered}
use Rattle.sq_model.specs.declared.shared.HomeLeave.{HomeLeave}
use Rattle.sq_model.specs.declared.shared.HomeLeave.TheVariants as leave
use Rattle.sq_model.specs.declared.task.FailureReason.{FailureReason}
use Rattle.sq_model.specs.declared.task.FailureReason.TheVariants as because
use Rattle.sq_model.specs.declared.task.NamedQueue.{NamedQueue}
use Rattle.sq_model.specs.declared.task.Task.{Task}
use Rattle.sq_model.specs.declared.task.TaskStatus.{TaskStatus}
use Rattle.sq_model.specs.declared.task.TaskStatus.TheVariants.{Running, Completed, Cancelling, Cancelled, Failed}
use Rattle.sq_model.specs.Tasks.{is_active, is_running, is_ended, may_leave, new_task, rate_of, left_in, second_of, with_left, with_moved, with_back, with_dropped, with_status, failed_as, cancelled_as, finished_as}
use Rattle.sq_model.specs.Ledgers.{Ledger, LedgerStep, TakesIn, GivesOut, items_without, is_task, is_of_source, is_active_at, is_for, in_transit, changed_task, changed_for, turned_if, last_number, most_active, TasksCount, HasTask, LeftBelow, OnlyLastActive, IsTask, IsLedger}
use Rattle.sq_model.specs.HomeLeaves.{leave_reason}
use Rattle.sq_laws.proofs.LedgerLists.{all_append, all_with, all_filtered, all_mapped, filtered_length, mapped_length, one_longer, count_append, rise_append, items_low, rise_without, rise_turned, turned_reason, count_without, count_turned, HasStarted, none_started, tasks_append, KeepsNumber, tasks_changed, found_below, is_there, all_changed, only_found, count_changed}

-- ---- one task

-- as many of it are in transit
same_transit : (items other : List Item) (t : Task) → in_transit t.number other ≡ in_transit t.number items → IsTask items t → IsTask other t
same_transit items other t e h = record { counted = h.counted ∙ ap (λ (k : ℕ). t.moved + t.back + t.dropped + k) (sym e); ended = λ x. e ∙ h.ended x; rate = h.rate }

-- its status alone is another
other_status : (items : List Item) (change : TaskStatus → TaskStatus) (t : Task) → (is_ended (change t.status) ≡ true → in_transit t.number items ≡ 0) → IsTask items t → IsTask items (with_status change t)
other_status items change t e h = record { counted = h.counted; ended = e; rate = h.rate }

failed_ended : (reason : FailureReason) (s : TaskStatus) → is_ended (failed_as reason s) ≡ true → is_ended s ≡ true
failed_ended reason Running e = absurd cc
failed_ended reason Cancelling e = absurd cc
failed_ended reason s e = e

cancelled_ended : (s : TaskStatus) → is_ended (cancelled_as s) ≡ true → is_ended s ≡ true
cancelled_ended Running e = absurd cc
cancelled_ended s e = e

running_goes_on : (s : TaskStatus) → is_running s ≡ true → is_ended s ≡ true → ⊥
running_goes_on Running r e = absurd cc
running_goes_on Completed r e = absurd cc
running_goes_on Cancelling r e = absurd cc
running_goes_on Cancelled r e = absurd cc
running_goes_on (Failed first) r e = absurd cc

-- a change that makes none active
abbrev WakesNone : (TaskStatus → TaskStatus) → Type 0
WakesNone change = (s : TaskStatus) → is_active (change s) ≡ true → is_active s ≡ true

failed_wakes_none : (reason : FailureReason) → WakesNone (failed_as reason)
failed_wakes_none reason Running e = refl
failed_wakes_none reason Cancelling e = refl
failed_wakes_none reason s e = e

cancelled_wakes_none : WakesNone cancelled_as
cancelled_wakes_none Running e = refl
cancelled_wakes_none Cancelling e = refl
cancelled_wakes_none s e = e

finished_wakes_none : WakesNone finished_as
finished_wakes_none Running e = refl
finished_wakes_none Cancelling e = refl
finished_wakes_none s e = e

-- ---- all tasks

-- what an item of this reason is to each task: one more of its own, and no more of another's
for_own : (number : ℕ) (t : Task) → is_task number t ≡ true → is_for t.number (ForTask number) ≡ true
for_own number t e = grind (arith, common_steps)

for_other : (number : ℕ) (t : Task) → is_task number t ≡ false → is_for t.number (ForTask number) ≡ false
for_other number t e = grind (arith, common_steps)

-- what the tasks of a ledger are
record AreTasks (items : List Item) (next : ℕ) (tasks : List Task) : Type 0 where
  pub count : TasksCount 1 tasks
  pub many : next ≡ length tasks + 1
  pub each : AllByRecursion (IsTask items) tasks
  pub one_active : (source : ℕ) → count_by (is_active_at source) tasks ≤ 1
  pub last_active : OnlyLastActive tasks
  pub few_active : count_by (λ task. is_active task.status) tasks ≤ most_active

tasks_of_ledger : (l : Ledger) → IsLedger l → AreTasks l.items l.next_task l.tasks
tasks_of_ledger l h = record { count = h.tasks_count; many = h.next_task; each = h.each; one_active = h.one_active; last_active = h.last_active; few_active = h.few_active }

and_true : (a b c : Bool) → (a ≡ true → c ≡ true) → (a && b) ≡ true → (c && b) ≡ true
and_true true b c f h = rw (f refl) h
and_true false b c f h = absurd cc

-- a change of the tasks of a number that leaves number and source, and makes none active
record IsChange (f : Task → Task) : Type 0 where
  pub number : KeepsNumber f
  pub source : (t : Task) → (f t).source ≡ t.source
  pub wakes_none : (t : Task) → is_active (f t).status ≡ true → is_active t.status ≡ true

source_same : (f : Task → Task) → IsChange f → (source : ℕ) (t : Task) → is_active_at source (f t) ≡ true → is_active_at source t ≡ true
source_same f c source t e = and_true (is_active (f t).status) (is_of_source source t) (is_active t.status) (c.wakes_none t) (rw (c.source t) at e)

not_of_source : (f : Task → Task) → IsChange f → (source : ℕ) (t : Task) → is_of_source source t ≡ false → is_of_source source (f t) ≡ false
not_of_source f c source t e = ap (λ (q : NamedQueue). q.number == source) (c.source t) ∙ e

-- the last one of a source alone is active still
still_last : (number : ℕ) (f : Task → Task) (tasks : List Task) → IsChange f → OnlyLastActive tasks → OnlyLastActive (changed_task number f tasks)
still_last number f [] c h = tt
still_last number f (x ∷ tasks) c h =
    let none : (source : ℕ) → AllByRecursion (λ other. is_of_source source other ≡ false) tasks → AllByRecursion (λ other. is_of_source source other ≡ false) (changed_task number f tasks)
    = λ source k. all_changed (λ other. is_of_source source other ≡ false) (λ other. is_of_source source other ≡ false) number f tasks (λ t own e. not_of_source f c source t e) (λ t other e. e) k in
    let rest = still_last number f tasks c h.1 in
    elim (is_task number x) as (λ b. OnlyLastActive ((if b then f x else x) ∷ changed_task number f tasks)) [
      | true ↦ (λ active. subst (λ (q : NamedQueue). AllByRecursion (λ other. is_of_source q.number other ≡ false) (changed_task number f tasks)) (sym (c.source x)) (none x.source.number (h.0 (c.wakes_none x active))), rest)
      | false ↦ (λ active. none x.source.number (h.0 active), rest)
    ]

changed_length : (number : ℕ) (f : Task → Task) (tasks : List Task) → length (changed_task number f tasks) ≡ length tasks
changed_length number f tasks = mapped_length _ tasks

tasks_after : (items other : List Item) (next number : ℕ) (f : Task → Task) (tasks : List Task) → IsChange f → AreTasks items next tasks → AllByRecursion (IsTask other) (changed_task number f tasks)
    → AreTasks other next (changed_task number f tasks)
tasks_after items other next number f tasks c h each = record {
  count = tasks_changed number 1 f tasks c.number h.count;
  many = let k = changed_length number f tasks in omega (arith, k, h.many);
  each = each;
  one_active = λ source. let r = count_changed (is_active_at source) number f tasks (source_same f c source) in omega (arith, r, h.one_active source);
  last_active = still_last number f tasks c h.last_active;
  few_active = let r = count_changed (λ t. is_active t.status) number f tasks c.wakes_none in omega (arith, r, h.few_active);
}

-- other items, as many of each task
items_other : (items other : List Item) (next : ℕ) (tasks : List Task) → ((task : ℕ) → in_transit task other ≡ in_transit task items) → AreTasks items next tasks → AreTasks other next tasks
items_other items other next tasks e h = record {
  count = h.count;
  many = h.many;
  each = all_with (IsTask items) (IsTask other) tasks (λ t. same_transit items other t (e t.number)) h.each;
  one_active = h.one_active;
  last_active = h.last_active;
  few_active = h.few_active;
}

-- a change of status
status_is_change : (change : TaskStatus → TaskStatus) → WakesNone change → IsChange (with_status change)
status_is_change change w = record { number = λ t. refl; source = λ t. refl; wakes_none = λ t. w t.status }

status_after : (items : List Item) (next number : ℕ) (change : TaskStatus → TaskStatus) (tasks : List Task) → WakesNone change
    → ((t : Task) → is_task number t ≡ true → IsTask items t → is_ended (change t.status) ≡ true → in_transit t.number items ≡ 0) → AreTasks items next tasks → AreTasks items next (changed_task number (with_status change) tasks)
status_after items next number change tasks w ended h =
    tasks_after items items next number (with_status change) tasks (status_is_change change w) h
    (all_changed (IsTask items) (IsTask items) number (with_status change) tasks (λ t own k. other_status items change t (ended t own k) k) (λ t other k. k) h.each)

failed_after : (items : List Item) (next number : ℕ) (reason : FailureReason) (tasks : List Task) → AreTasks items next tasks → AreTasks items next (changed_task number (with_status (failed_as reason)) tasks)
failed_after items next number reason tasks h = status_after items next number (failed_as reason) tasks (failed_wakes_none reason) (λ t yes k e. k.ended (failed_ended reason t.status e)) h

-- ---- an item comes in

all_both : {X : Type 0} (P Q : X → Type 0) (xs : List X) → AllByRecursion P xs → AllByRecursion Q xs → AllByRecursion (λ x. P x × Q x) xs
all_both {X} P Q [] p q = tt
all_both {X} P Q (x ∷ xs) p q = ((p.0, q.0), all_both P Q xs p.1 q.1)

counted_in : (items : List Item) (item : Item) (task : ℕ) → in_transit task (items ++ item ∷ []) ≡ in_transit task items + cond (is_for task item.reason) 1 0
counted_in items item task = count_append (λ (x : Item). is_for task x.reason) items item

-- what leaves a home where no task asks for it is for no task
for_no_task : (task : ℕ) (why : HomeLeave) → is_for task (leave_reason why) ≡ false
for_no_task task leave.Dead = refl
for_no_task task leave.Drain = refl

none_in : (items : List Item) (item : Item) (task : ℕ) (why : HomeLeave) → item.reason ≡ leave_reason why → in_transit task (items ++ item ∷ []) ≡ in_transit task items
none_in items item task why e =
    counted_in items item task ∙ (ap (λ (b : Bool). in_transit task items + cond b 1 0) (ap (is_for task) e ∙ for_no_task task why) ∙ omega arith)

one_in : (items : List Item) (item : Item) (number task : ℕ) (b : Bool) → item.reason ≡ ForTask number → is_for task (ForTask number) ≡ b → in_transit task (items ++ item ∷ []) ≡ in_transit task items + cond b 1 0
one_in items item number task b e f =
    counted_in items item task ∙ (ap (λ (r : Reason). in_transit task items + cond (is_for task r) 1 0) e ∙ ap (λ (c : Bool). in_transit task items + cond c 1 0) f)

less : (a b : ℕ) → nat_lt a b ≡ true → a + 1 ≤ b
less a b h = grind (arith, common_steps)

leaves_more : (items : List Item) (item : Item) (number m : ℕ) (t : Task) → item.reason ≡ ForTask number → is_task number t ≡ true → is_running t.status ≡ true → may_leave m t ≡ true → IsTask items t
    → IsTask (items ++ item ∷ []) (with_left m t)
leaves_more items item number m t e own running may h = record {
  counted = let c = one_in items item number t.number true e (for_own number t own) in omega (arith, c, h.counted);
  ended = λ x. absurd (running_goes_on t.status running x);
  rate = less (left_in (second_of m) t) (rate_of t) may;
}

-- another task has no more
others_as_many : (items : List Item) (item : Item) (number : ℕ) (t : Task) → item.reason ≡ ForTask number → is_task number t ≡ false → IsTask items t → IsTask (items ++ item ∷ []) t
others_as_many items item number t e other h =
    same_transit items (items ++ item ∷ []) t (let c = one_in items item number t.number false e (for_other number t other) in omega (arith, c)) h

left_is_change : (m : ℕ) → IsChange (with_left m)
left_is_change m = record { number = λ t. refl; source = λ t. refl; wakes_none = λ t e. e }

left_after : (items : List Item) (item : Item) (next number m : ℕ) (task : Task) (tasks : List Task) → item.reason ≡ ForTask number → find (is_task number) tasks ≡ Some task → is_running task.status ≡ true → may_leave m task ≡ true
    → AreTasks items next tasks → AreTasks (items ++ item ∷ []) next (changed_task number (with_left m) tasks)
left_after items item next number m task tasks e found running may h =
    tasks_after items (items ++ item ∷ []) next number (with_left m) tasks (left_is_change m) h
    (all_changed (λ t. IsTask items t × (is_task number t ≡ true → t ≡ task)) (IsTask (items ++ item ∷ [])) number (with_left m) tasks
    (λ t own k. let same : t ≡ task = k.1 own in leaves_more items item number m t e own (ap (λ (x : Task). is_running x.status) same ∙ running) (ap (may_leave m) same ∙ may) k.0)
    (λ t other k. others_as_many items item number t e other k.0)
    (all_both (IsTask items) (λ t. is_task number t ≡ true → t ≡ task) tasks h.each (only_found number 1 tasks task h.count found)))

-- ---- what left is below the next number

left_same : (next number : ℕ) (f : Task → Task) (tasks : List Task) → ((t : Task) → (f t).left ≡ t.left) → AllByRecursion (LeftBelow next) tasks → AllByRecursion (LeftBelow next) (changed_task number f tasks)
left_same next number f tasks k h = all_changed (LeftBelow next) (LeftBelow next) number f tasks (λ t own b. let e = k t in omega (arith, b, e)) (λ t other b. b) h

left_for : (next : ℕ) (reason : Reason) (f : Task → Task) (tasks : List Task) → ((t : Task) → (f t).left ≡ t.left) → AllByRecursion (LeftBelow next) tasks → AllByRecursion (LeftBelow next) (changed_for reason f tasks)
left_for next DeadLetter f tasks k h = h
left_for next Drain f tasks k h = h
left_for next (ForTask number) f tasks k h = left_same next number f tasks k h

left_later : (next : ℕ) (tasks : List Task) → AllByRecursion (LeftBelow next) tasks → AllByRecursion (LeftBelow (next + 1)) tasks
left_later next tasks h = all_with (LeftBelow next) (LeftBelow (next + 1)) tasks (λ t b. omega (arith, b)) h

left_more : (next number m : ℕ) (tasks : List Task) → AllByRecursion (LeftBelow next) tasks → AllByRecursion (LeftBelow (next + 1)) (changed_task number (with_left m) tasks)
left_more next number m tasks h = all_changed (LeftBelow next) (LeftBelow (next + 1)) number (with_left m) tasks (λ t own b. omega (arith, b)) (λ t other b. omega (arith, b)) h

-- ---- the task of each item is there

were_started : (l : Ledger) → IsLedger l → AllByRecursion (HasStarted l.next_task) l.items
were_started l h = all_with (HasTask l) (HasStarted l.next_task) l.items
    (λ item has number because. let t = has number because in let b = found_below number 1 l.tasks t.0 h.tasks_count t.1 in (b.0, omega (arith, b.1, h.next_task))) h.each_item

-- an item whose task was started has it
abbrev IsAmong : List Task → Item → Type 0
IsAmong tasks item = (number : ℕ) → item.reason ≡ ForTask number → (task : Task) × (find (is_task number) tasks ≡ Some task)

are_among : (items : List Item) (next : ℕ) (tasks : List Task) → TasksCount 1 tasks → next ≡ length tasks + 1 → AllByRecursion (HasStarted next) items → AllByRecursion (IsAmong tasks) items
are_among items next tasks count e h = all_with (HasStarted next) (IsAmong tasks) items (λ item started number because. let b = started number because in is_there number 1 tasks count b.0 (omega (arith, b.1, e))) h

no_task : (why : HomeLeave) (number : ℕ) → leave_reason why ≡ ForTask number → ⊥
no_task leave.Dead number e = absurd cc
no_task leave.Drain number e = absurd cc

none_to_start : (next : ℕ) (item : Item) (why : HomeLeave) → item.reason ≡ leave_reason why → HasStarted next item
none_to_start next item why e number f = absurd (no_task why number (sym e ∙ f))

same_task : (a b : ℕ) → ForTask a ≡ ForTask b → a ≡ b
same_task a b e = cc

found_started : (l : Ledger) (item : Item) (number : ℕ) (task : Task) → IsLedger l → item.reason ≡ ForTask number → find (is_task number) l.tasks ≡ Some task → HasStarted l.next_task item
found_started l item number task h e found k f =
    let is = same_task number k (sym e ∙ f) in let b = found_below number 1 l.tasks task h.tasks_count found in (omega (arith, b.0, is), omega (arith, b.1, is, h.next_task))

-- the whole ledger, once an item came in
taken_in : (l : Ledger) (item : Item) (tasks : List Task) (after : Ledger) → IsLedger l → TakesIn l item tasks after → HasStarted l.next_task item → AllByRecursion (LeftBelow (l.next_item + 1)) tasks
    → AreTasks (l.items ++ item ∷ []) l.next_task tasks → IsLedger after
taken_in l item tasks after h taken started left t = rw taken.2 (record {
  items_rise = rise_append 1 l.items item l.next_item h.items_rise taken.1;
  items_end = omega (arith, taken.0.not_worn);
  within = let k = one_longer l.items item in omega (arith, k, taken.0.within);
  each_item = are_among (l.items ++ item ∷ []) l.next_task tasks t.count t.many (all_append (HasStarted l.next_task) l.items item (were_started l h) started);
  tasks_count = t.count;
  next_task = t.many;
  tasks_end = h.tasks_end;
  each = t.each;
  left_below = left;
  one_active = t.one_active;
  last_active = t.last_active;
  few_active = t.few_active;
})

-- where no task asked for it the tasks are as they were
home_left : (l : Ledger) (item : Item) (why : HomeLeave) (after : Ledger) → IsLedger l → item.reason ≡ leave_reason why → TakesIn l item l.tasks after → IsLedger after
home_left l item why after h because taken =
    taken_in l item l.tasks after h taken (none_to_start l.next_task item why because) (left_later l.next_item l.tasks h.left_below)
    (items_other l.items (l.items ++ item ∷ []) l.next_task l.tasks (λ task. none_in l.items item task why because) (tasks_of_ledger l h))

-- ---- an item goes out

-- what a change counts
record CountsOne (f : Task → Task) : Type 0 where
  pub change : IsChange f
  pub left : (t : Task) → (f t).left ≡ t.left
  pub more : (t : Task) → (f t).moved + (f t).back + (f t).dropped ≡ t.moved + t.back + t.dropped + 1
  pub status : (t : Task) → (f t).status ≡ t.status
  pub rate : (t : Task) → t.in_second ≤ rate_of t → (f t).in_second ≤ rate_of (f t)

moved_counts : CountsOne with_moved
moved_counts = record { change = record { number = λ t. refl; source = λ t. refl; wakes_none = λ t e. e }; left = λ t. refl; more = λ t. omega arith; status = λ t. refl; rate = λ t h. h }

back_counts : CountsOne with_back
back_counts = record { change = record { number = λ t. refl; source = λ t. refl; wakes_none = λ t e. e }; left = λ t. refl; more = λ t. omega arith; status = λ t. refl; rate = λ t h. h }

dropped_counts : CountsOne with_dropped
dropped_counts = record { change = record { number = λ t. refl; source = λ t. refl; wakes_none = λ t e. e }; left = λ t. refl; more = λ t. omega arith; status = λ t. refl; rate = λ t h. h }

-- how many of a task are left in transit
one_out : (l : Ledger) (item : Item) (task : ℕ) (b : Bool) → IsLedger l → find (λ x. x.number == item.number) l.items ≡ Some item → is_for task item.reason ≡ b
    → in_transit task (items_without item.number l.items) + cond b 1 0 ≡ in_transit task l.items
one_out l item task b h found e =
    ap (λ (c : Bool). in_transit task (items_without item.number l.items) + cond c 1 0) (sym e) ∙ count_without (λ x. is_for task x.reason) 1 l.items l.next_item item h.items_rise found

own_counted : (items other : List Item) (f : Task → Task) (t : Task) → CountsOne f → in_transit t.number other + 1 ≡ in_transit t.number items → IsTask items t → IsTask other (f t)
own_counted items other f t c less h = record {
  counted = let n = c.change.number t in let k = c.more t in let m = c.left t in rw n (omega (arith, less, k, m, h.counted));
  ended = λ e. let none = h.ended (ap is_ended (sym (c.status t)) ∙ e) in absurd (omega (arith, less, none));
  rate = c.rate t h.rate;
}

of_no_task : (l : Ledger) (item : Item) (why : HomeLeave) → IsLedger l → find (λ x. x.number == item.number) l.items ≡ Some item → item.reason ≡ leave_reason why → AreTasks (items_without item.number l.items) l.next_task l.tasks
of_no_task l item why h found e =
    items_other l.items (items_without item.number l.items) l.next_task l.tasks (λ task. let k = one_out l item task false h found (ap (is_for task) e ∙ for_no_task task why) in omega (arith, k)) (tasks_of_ledger l h)

-- the tasks, once an item went out
tasks_out : (l : Ledger) (item : Item) (f : Task → Task) (reason : Reason) → IsLedger l → find (λ x. x.number == item.number) l.items ≡ Some item → item.reason ≡ reason → CountsOne f
    → AreTasks (items_without item.number l.items) l.next_task (changed_for reason f l.tasks)
tasks_out l item f DeadLetter h found e c = of_no_task l item leave.Dead h found e
tasks_out l item f Drain h found e c = of_no_task l item leave.Drain h found e
tasks_out l item f (ForTask number) h found e c =
    let other = items_without item.number l.items in
    tasks_after l.items other l.next_task number f l.tasks c.change (tasks_of_ledger l h)
    (all_changed (IsTask l.items) (IsTask other) number f l.tasks
    (λ t own k. own_counted l.items other f t c (one_out l item t.number true h found (ap (is_for t.number) e ∙ for_own number t own)) k)
    (λ t no k. same_transit l.items other t (let n = one_out l item t.number false h found (ap (is_for t.number) e ∙ for_other number t no) in omega (arith, n)) k) h.each)

given_out : (l : Ledger) (item : Item) (f : Task → Task) (after : Ledger) → IsLedger l → GivesOut l item f after → CountsOne f → IsLedger after
given_out l item f after h out c =
    let t = tasks_out l item f item.reason h out.0 refl c in
    rw out.1 (record {
      items_rise = rise_without item.number 1 l.items l.next_item h.items_rise;
      items_end = h.items_end;
      within = let k = filtered_length (λ x. not (x.number == item.number)) l.items in omega (arith, k, h.within);
      each_item = are_among (items_without item.number l.items) l.next_task (changed_for item.reason f l.tasks) t.count t.many (all_filtered (HasStarted l.next_task) (λ x. not (x.number == item.number)) l.items (were_started l h));
      tasks_count = t.count;
      next_task = t.many;
      tasks_end = h.tasks_end;
      each = t.each;
      left_below = left_for l.next_item item.reason f l.tasks c.left h.left_below;
      one_active = t.one_active;
      last_active = t.last_active;
      few_active = t.few_active;
    })

-- ---- an item is turned

failed_for : (items : List Item) (next : ℕ) (why : FailureReason) (reason : Reason) (tasks : List Task) → AreTasks items next tasks → AreTasks items next (changed_for reason (with_status (failed_as why)) tasks)
failed_for items next why DeadLetter tasks h = h
failed_for items next why Drain tasks h = h
failed_for items next why (ForTask number) tasks h = failed_after items next number why tasks h

started_turned : (next number : ℕ) (item : Item) → HasStarted next item → HasStarted next (turned_if number item)
started_turned next number item h task e = h task (sym (turned_reason number item) ∙ e)

turned_back : (l : Ledger) (item : Item) (why : FailureReason) (after : Ledger) → IsLedger l
    → after ≡ record l { items = map (turned_if item.number) l.items; tasks = changed_for item.reason (with_status (failed_as why)) l.tasks } → IsLedger after
turned_back l item why after h e =
    let items = map (turned_if item.number) l.items in
    let t = failed_for items l.next_task why item.reason l.tasks (items_other l.items items l.next_task l.tasks (λ task. count_turned (λ x. is_for task x.reason) item.number l.items (λ x. ap (is_for task) (turned_reason item.number x))) (tasks_of_ledger l h)) in
    rw e (record {
      items_rise = rise_turned item.number 1 l.items l.next_item h.items_rise;
      items_end = h.items_end;
      within = let k = mapped_length (turned_if item.number) l.items in omega (arith, k, h.within);
      each_item = are_among items l.next_task (changed_for item.reason (with_status (failed_as why)) l.tasks) t.count t.many (all_mapped (HasStarted l.next_task) (HasStarted l.next_task) (turned_if item.number) l.items (started_turned l.next_task item.number) (were_started l h));
      tasks_count = t.count;
      next_task = t.many;
      tasks_end = h.tasks_end;
      each = t.each;
      left_below = left_for l.next_item item.reason (with_status (failed_as why)) l.tasks (λ t. refl) h.left_below;
      one_active = t.one_active;
      last_active = t.last_active;
      few_active = t.few_active;
    })

-- ---- the tasks alone

-- a change of status
other_status_of : (l : Ledger) (number : ℕ) (change : TaskStatus → TaskStatus) (after : Ledger) → IsLedger l → after ≡ record l { tasks = changed_task number (with_status change) l.tasks }
    → AreTasks l.items l.next_task (changed_task number (with_status change) l.tasks) → IsLedger after
other_status_of l number change after h e t = rw e (record {
  items_rise = h.items_rise;
  items_end = h.items_end;
  within = h.within;
  each_item = are_among l.items l.next_task (changed_task number (with_status change) l.tasks) t.count t.many (were_started l h);
  tasks_count = t.count;
  next_task = t.many;
  tasks_end = h.tasks_end;
  each = t.each;
  left_below = left_same l.next_item number (with_status change) l.tasks (λ t. refl) h.left_below;
  one_active = t.one_active;
  last_active = t.last_active;
  few_active = t.few_active;
})

none_any : (p : Task → Bool) (tasks : List Task) → list_any p tasks ≡ false → count_by p tasks ≡ 0
none_any p [] h = refl
none_any p (x ∷ tasks) h =
    elim (p x) as (λ b. p x ≡ b → (b || list_any p tasks) ≡ false → count_by p (x ∷ tasks) ≡ 0) [
      | true ↦ (λ e k. absurd cc)
      | false ↦ (λ e k. let r = none_any p tasks k in rw (sum_by-cons (λ t. cond (p t) 1 0) x tasks, e) (omega (arith, r)))
    ] refl h

started_more : (next : ℕ) (item : Item) → HasStarted next item → HasStarted (next + 1) item
started_more next item h number e = let b = h number e in (b.0, omega (arith, b.1))

is_new : (l : Ledger) (source : NamedQueue) (destination : Option NamedQueue) (rate : Option ℕ) (m : ℕ) → IsLedger l → IsTask l.items (new_task l.next_task source destination rate m)
is_new l source destination rate m h =
    let none = none_started l.next_task l.items (were_started l h) in
    record { counted = omega (arith, none); ended = λ e. absurd cc; rate = omega arith }

one_more : (l : Ledger) (source : NamedQueue) (at : ℕ) → list_any (is_active_at source.number) l.tasks ≡ false → (b : Bool) → (source.number == at) ≡ b → count_by (is_active_at at) l.tasks ≤ 1
    → count_by (is_active_at at) l.tasks + cond b 1 0 ≤ 1
one_more l source at none true e le = let k = none_any (is_active_at at) l.tasks (subst (λ (n : ℕ). list_any (is_active_at n) l.tasks ≡ false) (eqb-true source.number at e) none) in omega (arith, k)
one_more l source at none false e le = omega (arith, le)

other_source : (a : Bool) (n k : ℕ) → a ≡ true → (a && (n == k)) ≡ false → (k == n) ≡ false
other_source true n k e h = grind (arith, common_steps)
other_source false n k e h = absurd cc

or_none : (a b : Bool) → (a || b) ≡ false → (a ≡ false) × (b ≡ false)
or_none true b h = absurd cc
or_none false b h = (refl, h)

-- a new one is the last of its source, where none of it is active
new_is_last : (tasks : List Task) (new : Task) → OnlyLastActive tasks → list_any (is_active_at new.source.number) tasks ≡ false → OnlyLastActive (tasks ++ new ∷ [])
new_is_last [] new h none = (λ active. tt, tt)
new_is_last (x ∷ tasks) new h none =
    let k = or_none (is_active_at new.source.number x) (list_any (is_active_at new.source.number) tasks) none in (
      λ active. all_append (λ other. is_of_source x.source.number other ≡ false) tasks new (h.0 active) (other_source (is_active x.status) x.source.number new.source.number active k.0),
      new_is_last tasks new h.1 k.1,
    )

started_task : (l : Ledger) (source : NamedQueue) (destination : Option NamedQueue) (rate : Option ℕ) (m : ℕ) (after : Ledger) → IsLedger l → l.next_task < last_number → list_any (is_active_at source.number) l.tasks ≡ false
    → count_by (λ task. is_active task.status) l.tasks < most_active → after ≡ record l { tasks = l.tasks ++ new_task l.next_task source destination rate m ∷ []; next_task = l.next_task + 1 } → IsLedger after
started_task l source destination rate m after h not_worn none few e =
    let new = new_task l.next_task source destination rate m in
    let count : TasksCount 1 (l.tasks ++ new ∷ []) = tasks_append 1 l.tasks new h.tasks_count (omega (arith, h.next_task)) in
    let next : l.next_task + 1 ≡ length (l.tasks ++ new ∷ []) + 1 = let k = one_longer l.tasks new in omega (arith, k, h.next_task) in
    rw e (record {
      items_rise = h.items_rise;
      items_end = h.items_end;
      within = h.within;
      each_item = are_among l.items (l.next_task + 1) (l.tasks ++ new ∷ []) count next (all_with (HasStarted l.next_task) (HasStarted (l.next_task + 1)) l.items (started_more l.next_task) (were_started l h));
      tasks_count = count;
      next_task = next;
      tasks_end = omega (arith, not_worn);
      each = all_append (IsTask l.items) l.tasks new h.each (is_new l source destination rate m h);
      left_below = all_append (LeftBelow l.next_item) l.tasks new h.left_below (let k = items_low 1 l.items l.next_item h.items_rise in omega (arith, k));
      one_active = λ at. let c = count_append (is_active_at at) l.tasks new in let k = one_more l source at none (source.number == at) refl (h.one_active at) in omega (arith, c, k);
      last_active = new_is_last l.tasks new h.last_active none;
      few_active = let c = count_append (λ task. is_active task.status) l.tasks new in omega (arith, c, few);
    })

-- ---- each step

pub step_keeps : (l : Ledger) (m : ℕ) (call : LedgerCall) (reply : LedgerReply) (after : Ledger) → LedgerStep l m call reply after → IsLedger l → IsLedger after
unfolding LedgerStep
step_keeps l m (asks.AtHome home LeaveDead) (answers.AtHome (Left item)) after s h = home_left l item leave.Dead after h s.0.because s.1
step_keeps l m (asks.AtHome home LeaveDrain) (answers.AtHome (Left item)) after s h = home_left l item leave.Drain after h s.0.because s.2
step_keeps l m (asks.AtHome home (LeaveTask number)) (answers.AtHome (Left item)) after s h =
    let task = s.1.0 in let may = s.1.1 in
    taken_in l item (changed_task number (with_left m) l.tasks) after h s.2
    (found_started l item number task h s.0.because may.found) (left_more l.next_item number m l.tasks h.left_below)
    (left_after l.items item l.next_task number m task l.tasks s.0.because may.found may.running s.1.2 (tasks_of_ledger l h))
step_keeps l m (asks.AtHome home (LeaveTask number)) (answers.AtHome NoLiveRow) after s h = rw s.1 h
step_keeps l m (asks.AtHome home (LeaveTask number)) (answers.AtHome (NoOrigin serial)) after s h =
    other_status_of l number (failed_as because.NoOrigin) after h s.2 (failed_after l.items l.next_task number because.NoOrigin l.tasks (tasks_of_ledger l h))
step_keeps l m (asks.AtHome home (LeaveTask number)) (answers.AtHome SourceClosed) after s h =
    other_status_of l number (failed_as because.SourceClosed) after h s.1 (failed_after l.items l.next_task number because.SourceClosed l.tasks (tasks_of_ledger l h))
step_keeps l m (asks.AtHome home (Enter item)) (answers.AtHome (Entered entered)) after s h = given_out l item with_moved after h s.1 moved_counts
step_keeps l m (asks.AtHome home (TurnBack item)) (answers.AtHome Done) after s h = turned_back l item because.DestinationClosed after h s.2
step_keeps l m (asks.AtHome home (GiveBack item)) (answers.AtHome (Entered entered)) after s h = given_out l item with_back after h s.1 back_counts
step_keeps l m (asks.AtHome home (Drop item)) (answers.AtHome Done) after s h = given_out l item with_dropped after h s.1 dropped_counts
step_keeps l m (asks.StartTask source destination rate) (answers.Started number) after s h =
    started_task l source destination rate m after h s.0 s.1 s.2 (s.4 ∙ ap (λ (n : ℕ). record l { tasks = l.tasks ++ new_task n source destination rate m ∷ []; next_task = l.next_task + 1 }) s.3)
step_keeps l m (asks.CancelTask number) (answers.Cancelled moved) after s h =
    other_status_of l number cancelled_as after h s.1 (status_after l.items l.next_task number cancelled_as l.tasks cancelled_wakes_none (λ t own k e. k.ended (cancelled_ended t.status e)) (tasks_of_ledger l h))
step_keeps l m (asks.ListTasks source most) (answers.Listed listed) after s h = rw s.1 h
step_keeps l m (asks.FinishTask number) answers.Finished after s h =
    other_status_of l number finished_as after h s.2 (status_after l.items l.next_task number finished_as l.tasks finished_wakes_none
    (λ t own k e. ap (λ (n : ℕ). in_transit n l.items) (eqb-true t.number number own) ∙ s.1) (tasks_of_ledger l h))
step_keeps l m call reply after s h = elim s [ ]
