-- What the ledger does with tasks by itself: each call is a step of the model, or is refused as it says.
use Rattle.std.proofs.Common.{◌≡◌, ℕ, ◌+◌, ◌<◌, ◌≤◌, Bool, true, false, not, List, [], ◌∷◌, ◌++◌, length, Option, Some, None, Ok, refl, sym, ap, inr, ◌∙◌, subst, arith, inl}
use Rattle.std.specs.Prelude.{◌≢◌, ◌||◌, count_by, option_map, find, nat_le, nat_lt, take}
use Rattle.std.specs.List.{list_any}
use Rattle.std.proofs.lemmas.Grind.{common_steps}
use Rattle.sq_base.specs.StampValue.{StampValue}
use Rattle.sq_base.specs.Stamps.{after}
use Rattle.sq_base.specs.declared.refusal.Refusal.{Refusal}
use Rattle.sq_base.specs.declared.refusal.Refusal.TheVariants.{NoMemory, OverLimit, UnsupportedOperation}
use Rattle.sq_model.specs.declared.item.Item.{Item}
use Rattle.sq_model.specs.declared.item.Reason.TheVariants.{Task as ForTask}
use Rattle.sq_model.specs.declared.event.Actor.{Actor}
use Rattle.sq_model.specs.declared.ledger.LedgerCall.{LedgerCall}
use Rattle.sq_model.specs.declared.ledger.LedgerCall.TheVariants as asks
use Rattle.sq_model.specs.declared.ledger.LedgerReply.{LedgerReply}
use Rattle.sq_model.specs.declared.ledger.LedgerReply.TheVariants as answers
use Rattle.sq_model.specs.declared.task.NamedQueue.{NamedQueue}
use Rattle.sq_model.specs.declared.task.Task.{Task}
use Rattle.sq_model.specs.Ledgers.{Ledger, LedgerStep, IsTask, cancel_refusal, changed_task, finish_refusal, in_transit, is_active_at, is_still_active, is_task, last_number, last_task, ledger_refusal, most_active, task_of, tasks_of}
use Rattle.sq_model.specs.RecordValues.{LedgerRecordValue, record_of}
use Rattle.sq_model.specs.Tasks.{cancelled_as, finished_as, is_active, is_running, new_task, with_status}
use Rattle.sq_model.proofs.SlotLaws.{not_false}
use Rattle.sq_laws.proofs.LedgerLists.{found_number, found_of_all, one_longer}
use Rattle.sq_laws.proofs.LedgerLaws.{last_is_active}
use Rattle.sq_laws.proofs.Progress.{neither, passed}
use Rattle.sq_task.specs.Counts.{settled, unsettled}
use Rattle.sq_ledger.specs.declared.tasks.TaskChange.TheVariants as to
use Rattle.sq_log.specs.LogValue.{LogValue}
use Rattle.sq_log.specs.Spares.{GrowingValue, KeepsSpare}
use Rattle.sq_ledger.specs.LedgerHistory.{LedgerHistory, LedgerValue, history_of, ledger_with}
use Rattle.sq_ledger.specs.LedgerHistories.{IsLedgerKept, IsLedgerRefused, KeepsSpareTasks, LedgerRecords, own_event}
use Rattle.sq_ledger.specs.inside.LedgerHistories.{MayStart, start_refusal}
use Rattle.sq_ledger.specs.TaskIndexes.{MayChange, changed_by, newest, task_number}
use Rattle.sq_ledger.proofs.LedgerLaws.{for_reason, holds, in_transit_of, next_is}

-- ---- why a call is refused

pub starts_as : (l : Ledger) (m : ℕ) (source : NamedQueue) (destination : Option NamedQueue) (rate : Option ℕ) (e : Refusal) → start_refusal source.number l ≡ Some e → ledger_refusal l m (asks.StartTask source destination rate) ≡ Some e
unfolding ledger_refusal
starts_as l m source destination rate e h = h

pub cancels_as : (l : Ledger) (m number : ℕ) (e : Refusal) → cancel_refusal (task_of number l) ≡ Some e → ledger_refusal l m (asks.CancelTask number) ≡ Some e
unfolding ledger_refusal
cancels_as l m number e h = h

pub finishes_as : (l : Ledger) (m number : ℕ) (e : Refusal) → finish_refusal (in_transit number l.items) (task_of number l) ≡ Some e → ledger_refusal l m (asks.FinishTask number) ≡ Some e
unfolding ledger_refusal
finishes_as l m number e h = h

-- ---- the steps

pub started : (items : List Item) (next : ℕ) (tasks : List Task) (limit m number : ℕ) (source : NamedQueue) (destination : Option NamedQueue) (rate : Option ℕ) → number ≡ length tasks + 1 → MayStart source.number (ledger_with items next tasks limit)
    → LedgerStep (ledger_with items next tasks limit) m (asks.StartTask source destination rate) (answers.Started number) (ledger_with items next (tasks ++ new_task number source destination rate m ∷ []) limit)
unfolding LedgerStep
started items next tasks limit m number source destination rate is may =
    rw is (may.not_worn, may.none_active, may.few_active, refl, next_is items next (tasks ++ new_task (length tasks + 1) source destination rate m ∷ []) limit (length tasks + 1 + 1) (ap (λ (n : ℕ). n + 1) (one_longer tasks (new_task (length tasks + 1) source destination rate m))))

pub cancelled : (items : List Item) (next : ℕ) (tasks : List Task) (limit m number moved : ℕ) → (task : Task) × (find (is_task number) tasks ≡ Some task) × (is_running task.status ≡ true) × (moved ≡ task.moved)
    → LedgerStep (ledger_with items next tasks limit) m (asks.CancelTask number) (answers.Cancelled moved) (ledger_with items next (changed_task number (changed_by to.Cancelled) tasks) limit)
unfolding LedgerStep
cancelled items next tasks limit m number moved may = (may, for_reason items next tasks limit (ForTask number) (with_status cancelled_as))

pub listed : (items : List Item) (next : ℕ) (tasks : List Task) (limit m source most : ℕ) (listed : List Task) → listed ≡ take most (tasks_of source (ledger_with items next tasks limit))
    → LedgerStep (ledger_with items next tasks limit) m (asks.ListTasks source most) (answers.Listed listed) (ledger_with items next tasks limit)
unfolding LedgerStep
listed items next tasks limit m source most all is = (is, refl)

no_more : (n : ℕ) → nat_lt 0 n ≡ false → n ≡ 0
no_more n h = grind (arith, common_steps)

finishes : (waiting : ℕ) (found : Option Task) → finish_refusal waiting found ≡ None → (task : Task) × (found ≡ Some task) × (is_active task.status ≡ true) × (waiting ≡ 0)
finishes waiting None h = absurd cc
finishes waiting (Some task) h =
    let p = passed (not (is_active task.status) || nat_lt 0 waiting) _ _ h in
    let q = neither _ _ p.0 in
    (task, refl, not_false _ q.0, no_more _ q.1)

pub finished : (items : List Item) (next : ℕ) (tasks : List Task) (limit m number : ℕ) → finish_refusal (in_transit number items) (find (is_task number) tasks) ≡ None
    → LedgerStep (ledger_with items next tasks limit) m (asks.FinishTask number) answers.Finished (ledger_with items next (changed_task number (changed_by to.Finished) tasks) limit)
unfolding LedgerStep
finished items next tasks limit m number may =
    let f = finishes (in_transit number items) (find (is_task number) tasks) may in
    ((f.0, f.1, f.2), f.3, for_reason items next tasks limit (ForTask number) (with_status finished_as))

-- ---- a step with its event

-- the record of a step that leaves these tasks
pub recorded_as : (items : List Item) (next : ℕ) (tasks changed : GrowingValue Task) (limit : ℕ) (log begun new : LogValue LedgerCall LedgerReply) (by : Actor) (now : ℕ) (stamp : StampValue) (call : LedgerCall) (reply : LedgerReply) (its_record : LedgerRecordValue)
    → after log.last by.seen now ≡ Ok stamp → LedgerStep (ledger_with items next tasks.items limit) stamp.moment call reply (ledger_with items next changed.items limit)
    → begun.events ≡ log.events → begun.spare ≡ log.spare → new.last ≡ stamp → new.events ≡ begun.events ++ own_event stamp by call reply ∷ [] → KeepsSpare begun.spare new.spare → KeepsSpareTasks call tasks.spare changed.spare
    → its_record ≡ record { place = by.place; stamp = stamp; index = length begun.events; call = call; reply = reply }
    → LedgerRecords (history_of items next tasks limit log) (history_of items next changed limit new) by now call its_record
recorded_as items next tasks changed limit log begun new by now stamp call reply its_record stamped step same_events same_spare last events spare spare_tasks is =
    let event = own_event stamp by call reply in
    let did : LedgerRecords (history_of items next tasks limit log) (history_of items next changed limit new) by now call (record_of (length log.events) event)
    = record { stamped = stamped; step = step; last = last; events = rw same_events at events; spare = rw same_spare at spare; spare_tasks = spare_tasks; record_is = refl } in
    subst (λ (r : LedgerRecordValue). LedgerRecords (history_of items next tasks limit log) (history_of items next changed limit new) by now call r) (sym (is ∙ ap (λ (n : ℕ). record_of n event) (ap length same_events))) did

-- it is refused where a check of it fails
pub refused_as : (inside : LedgerHistory) (ledger : LedgerValue) (by : Actor) (now : ℕ) (call : LedgerCall) (stamp : StampValue) (e : Refusal) → inside ≡ ledger.history → after inside.last by.seen now ≡ Ok stamp → ledger_refusal inside.ledger stamp.moment call ≡ Some e
    → IsLedgerRefused ledger.history by now call e
refused_as inside ledger by now call stamp e same stamped refused = rw (← same) (inr (inr (stamp, stamped, refused)))

-- a list is out of memory where there are tasks to copy
pub list_out : (h : LedgerHistory) (by : Actor) (now source most : ℕ) (e : Refusal) → e ≡ NoMemory → (newest source h.ledger.tasks ≢ None) → IsLedgerRefused h by now (asks.ListTasks source most) e
list_out h by now source most e out some = inl (out, inr (λ none. some (ap (option_map task_number) none)))

-- ---- what may be done to a task

-- of a task that is there as many are in transit as its counts say
transit_is : (h : LedgerHistory) → IsLedgerKept h → (number : ℕ) (task : Task) → find (is_task number) h.ledger.tasks ≡ Some task → unsettled task ≡ in_transit number h.ledger.items
transit_is h kept number task found =
    let l = holds h kept in
    in_transit_of h.ledger.items task (found_of_all (IsTask h.ledger.items) (is_task number) h.ledger.tasks task l.each found)
    ∙ ap (λ (n : ℕ). in_transit n h.ledger.items) (found_number (λ (t : Task). t.number) number h.ledger.tasks task found)

none_waits : (task : Task) → is_active task.status ≡ true → unsettled task ≡ 0 → finish_refusal (unsettled task) (Some task) ≡ None
none_waits task active none = rw (active, none) refl

pub may_be_finished : (h : LedgerHistory) → IsLedgerKept h → (number : ℕ) → finish_refusal (in_transit number h.ledger.items) (find (is_task number) h.ledger.tasks) ≡ None
    → (task : Task) × (find (is_task number) h.ledger.tasks ≡ Some task) × MayChange to.Finished task
may_be_finished h kept number may =
    let f = finishes (in_transit number h.ledger.items) (find (is_task number) h.ledger.tasks) may in
    (f.0, f.1, none_waits f.0 f.2 (transit_is h kept number f.0 f.1 ∙ f.3))

-- how many of a task are in transit is what is left of those that left
pub waits : (h : LedgerHistory) → IsLedgerKept h → (number waiting : ℕ) (task : Task) → find (is_task number) h.ledger.tasks ≡ Some task → task.left ≡ settled task + waiting → in_transit number h.ledger.items ≡ waiting
waits h kept number waiting task found is = let t = transit_is h kept number task found in omega (arith, t, is)

pub ends : (waiting : ℕ) (found : Option Task) (task : Task) → found ≡ Some task → is_active task.status ≡ false → finish_refusal waiting found ≡ Some UnsupportedOperation
ends waiting found task is over = rw (is, over) refl

or_true : (b : Bool) → (b || true) ≡ true
or_true true = refl
or_true false = refl

some_wait : (n : ℕ) → 0 < n → nat_lt 0 n ≡ true
some_wait n h = grind (arith, common_steps)

pub not_yet : (waiting : ℕ) (found : Option Task) (task : Task) → found ≡ Some task → 0 < waiting → finish_refusal waiting found ≡ Some UnsupportedOperation
not_yet waiting found task is wait = rw (is, some_wait waiting wait, or_true (not (is_active task.status))) refl

pub may_end : (waiting : ℕ) (found : Option Task) (task : Task) → found ≡ Some task → is_active task.status ≡ true → waiting ≡ 0 → finish_refusal waiting found ≡ None
may_end waiting found task is active none = rw (is, active, none) refl

-- ---- the next number

-- the number of the next task is counted
pub next_in_range : (h : LedgerHistory) → IsLedgerKept h → h.ledger.next_task ≤ last_number
next_in_range h kept = (holds h kept).tasks_end

pub source_is_active : (h : LedgerHistory) → IsLedgerKept h → (source : ℕ) → list_any (is_active_at source) h.ledger.tasks ≡ is_still_active (last_task source h.ledger)
source_is_active h kept source = last_is_active source h.ledger (holds h kept)

below_end : (n : ℕ) → n < last_number → nat_le last_number n ≡ false
below_end n h = grind (arith, common_steps)

enough : (n : ℕ) → most_active ≤ n → nat_le most_active n ≡ true
enough n h = grind (arith, common_steps)

pub too_many : (source : ℕ) (l : Ledger) → l.next_task < last_number → list_any (is_active_at source) l.tasks ≡ false → most_active ≤ count_by (λ task. is_active task.status) l.tasks → start_refusal source l ≡ Some OverLimit
too_many source l below none many = rw (below_end l.next_task below, none, enough _ many) refl
