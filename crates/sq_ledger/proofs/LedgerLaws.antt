-- Each step of the ledger is one of the model, and leaves it the replay of its events.
use Rattle.std.proofs.Common.{◌≡◌, ◌⊎◌, ℕ, ◌+◌, ◌<◌, ◌≤◌, Bool, true, false, cond, List, [], ◌∷◌, ◌++◌, length, map, Some, refl, sym, ap, ◌∙◌, subst, arith}
use Rattle.std.specs.Prelude.{count_by, find, nat_le}
use Rattle.std.proofs.lemmas.Grind.{common_steps}
use Rattle.std.proofs.lemmas.List.Sums.{sum_by-cons}
use Rattle.sq_base.specs.StampValue.{StampValue}
use Rattle.sq_base.specs.Stamps.{start}
use Rattle.sq_base.specs.declared.ids.HomeId.{HomeId}
use Rattle.sq_base.specs.declared.refusal.Refusal.TheVariants.{Worn}
use Rattle.sq_model.specs.declared.calls.HomeCall.{HomeCall}
use Rattle.sq_model.specs.declared.calls.HomeCall.TheVariants.{LeaveDead, LeaveDrain, LeaveTask}
use Rattle.sq_model.specs.declared.event.Actor.{Actor}
use Rattle.sq_model.specs.declared.item.Item.{Item}
use Rattle.sq_model.specs.declared.item.Reason.{Reason}
use Rattle.sq_model.specs.declared.item.Reason.TheVariants.{DeadLetter, Task as ForTask, Drain}
use Rattle.sq_model.specs.declared.ledger.LedgerCall.{LedgerCall}
use Rattle.sq_model.specs.declared.ledger.LedgerCall.TheVariants as asks
use Rattle.sq_model.specs.declared.ledger.LedgerReply.{LedgerReply}
use Rattle.sq_model.specs.declared.ledger.LedgerReply.TheVariants as answers
use Rattle.sq_model.specs.declared.place.Component.TheVariants as part
use Rattle.sq_model.specs.declared.replies.HomeReply.{HomeReply}
use Rattle.sq_model.specs.declared.replies.HomeReply.TheVariants.{Left, NoLiveRow, NoOrigin, SourceClosed}
use Rattle.sq_model.specs.declared.shared.ItemAct.{ItemAct}
use Rattle.sq_model.specs.declared.shared.ItemAct.TheVariants.{Enter, TurnBack, GiveBack, Drop}
use Rattle.sq_model.specs.declared.task.FailureReason.TheVariants as because
use Rattle.sq_model.specs.declared.task.Task.{Task}
use Rattle.sq_model.specs.Ledgers.{Ledger, LedgerEvent, LedgerStep, TakesOneMore, HasTask, IsLedger, IsTask, LeftBelow, changed_for, has_number, in_transit, is_for, is_own, is_task, items_without, last_number, opening_ledger, transit_refusal, turned_if, ItemsRise}
use Rattle.sq_model.specs.RecordValues.{LedgerRecordValue}
use Rattle.sq_model.specs.Replays.{Replays, StampsRise}
use Rattle.sq_model.specs.Systems.{AreLedger, NamesItsPart}
use Rattle.sq_model.specs.Tasks.{failed_as, with_back, with_dropped, with_left, with_moved, with_status}
use Rattle.sq_model.proofs.ReplayLaws.{replays_push}
use Rattle.sq_laws.proofs.LedgerLists.{found_number, found_of_all, items_low, mapped_length, some_same}
use Rattle.sq_laws.proofs.LedgerLaws.{ledger_holds}
use Rattle.sq_task.specs.Counts.{unsettled}
use Rattle.sq_log.specs.LogValue.{LogValue}
use Rattle.sq_log.specs.Spares.{GrowingValue, KeepsSpare}
use Rattle.sq_ledger.specs.declared.tasks.TaskChange.TheVariants as to
use Rattle.sq_ledger.specs.inside.ItemMoves.{change_by, tasks_without}
use Rattle.sq_ledger.specs.LedgerHistory.{LedgerHistory, history_of, items_after, ledger_with}
use Rattle.sq_ledger.specs.LedgerHistories.{DoesItem, IsLeaving, IsLedgerKept, IsNoneLeft, LedgerRecords, LedgerShares, own_event, shared_event}
use Rattle.sq_ledger.specs.TaskIndexes.{MayChange, MayChangeFor, changed_by}

-- ---- what is found

number_is : (number : ℕ) (items : List Item) (item : Item) → find (has_number number) items ≡ Some item → item.number ≡ number
number_is number items item found = found_number (λ (x : Item). x.number) number items item found

-- an item that is found is one of its kind
counted_item : (p : Item → Bool) (number : ℕ) (items : List Item) (item : Item) → find (has_number number) items ≡ Some item → p item ≡ true → 1 ≤ count_by p items
counted_item p number [] item e t = absurd cc
counted_item p number (x ∷ items) item e t =
    elim (has_number number x) as (λ b. cond b (Some x) (find (has_number number) items) ≡ Some item → 1 ≤ count_by p (x ∷ items)) [
      | true ↦ (λ f. let same : x ≡ item = some_same x item f in rw (sum_by-cons (λ y. cond (p y) 1 0) x items, same, t) (omega arith))
      | false ↦ (λ f. let r = counted_item p number items item f t in rw (sum_by-cons (λ y. cond (p y) 1 0) x items) (omega (arith, r)))
    ] e

-- ---- the steps

-- a change of a task leaves as many
as_many : (reason : Reason) (f : Task → Task) (tasks : List Task) → length (changed_for reason f tasks) ≡ length tasks
as_many DeadLetter f tasks = refl
as_many (ForTask number) f tasks = mapped_length _ tasks
as_many Drain f tasks = refl

-- so the number of the next one is the same
pub next_is : (items : List Item) (next : ℕ) (tasks : List Task) (limit number : ℕ) → length tasks + 1 ≡ number
    → ledger_with items next tasks limit ≡ record { items = items; next_item = next; tasks = tasks; next_task = number; limit = limit }
next_is items next tasks limit number is = ap (λ (n : ℕ). record { items = items; next_item = next; tasks = tasks; next_task = n; limit = limit }) is

pub for_reason : (items : List Item) (next : ℕ) (tasks : List Task) (limit : ℕ) (reason : Reason) (f : Task → Task)
    → ledger_with items next (changed_for reason f tasks) limit ≡ record { items = items; next_item = next; tasks = changed_for reason f tasks; next_task = length tasks + 1; limit = limit }
for_reason items next tasks limit reason f = next_is items next (changed_for reason f tasks) limit (length tasks + 1) (ap (λ (n : ℕ). n + 1) (as_many reason f tasks))

pub taken_in : (items : List Item) (next : ℕ) (tasks : List Task) (limit m : ℕ) (home : HomeId) (call : HomeCall) (reply : HomeReply) (item : Item)
    → TakesOneMore (ledger_with items next tasks limit) → item.number ≡ next → IsLeaving (ledger_with items next tasks limit) m home call item → reply ≡ Left item
    → LedgerStep (ledger_with items next tasks limit) m (asks.AtHome home call) (answers.AtHome reply) (ledger_with (items ++ item ∷ []) (next + 1) (changed_for item.reason (changed_by (to.Left m)) tasks) limit)
unfolding LedgerStep
taken_in items next tasks limit m home LeaveDead reply item spare number leaves is_left =
    rw is_left (leaves, (spare, number, ap (λ (r : Reason). ledger_with (items ++ item ∷ []) (next + 1) (changed_for r (with_left m) tasks) limit) leaves.because))
taken_in items next tasks limit m home LeaveDrain reply item spare number leaves is_left =
    rw is_left (leaves.0, leaves.1, (spare, number, ap (λ (r : Reason). ledger_with (items ++ item ∷ []) (next + 1) (changed_for r (with_left m) tasks) limit) leaves.0.because))
taken_in items next tasks limit m home (LeaveTask task) reply item spare number leaves is_left =
    rw is_left (leaves.0, leaves.1, (spare, number, ap (λ (r : Reason). ledger_with (items ++ item ∷ []) (next + 1) (changed_for r (with_left m) tasks) limit) leaves.0.because ∙ for_reason (items ++ item ∷ []) (next + 1) tasks limit (ForTask task) (with_left m)))
taken_in items next tasks limit m home call reply item spare number leaves is_left = elim leaves [ ]

pub none_taken : (items : List Item) (next : ℕ) (tasks : List Task) (limit m : ℕ) (home : HomeId) (number : ℕ) (call : HomeCall) (reply : HomeReply) → IsNoneLeft (ledger_with items next tasks limit) m home number call reply
    → LedgerStep (ledger_with items next tasks limit) m (asks.AtHome home call) (answers.AtHome reply) (ledger_with items next (tasks_without number reply tasks) limit)
unfolding LedgerStep
none_taken items next tasks limit m home number (LeaveTask asked) NoLiveRow none = rw none.0 (none.1, refl)
none_taken items next tasks limit m home number (LeaveTask asked) (NoOrigin serial) none =
    rw none.0 (none.1, none.2, for_reason items next tasks limit (ForTask number) (with_status (failed_as because.NoOrigin)))
none_taken items next tasks limit m home number (LeaveTask asked) SourceClosed none =
    rw none.0 (none.1, for_reason items next tasks limit (ForTask number) (with_status (failed_as because.SourceClosed)))
none_taken items next tasks limit m home number call reply none = elim none [ ]

-- the task that no message left for is there
pub none_of : (items : List Item) (next : ℕ) (tasks : List Task) (limit m : ℕ) (home : HomeId) (number : ℕ) (call : HomeCall) (reply : HomeReply) → IsNoneLeft (ledger_with items next tasks limit) m home number call reply
    → (task : Task) × (find (is_task number) tasks ≡ Some task)
none_of items next tasks limit m home number (LeaveTask asked) NoLiveRow none = (none.1.0, none.1.1.found)
none_of items next tasks limit m home number (LeaveTask asked) (NoOrigin serial) none = (none.1.0, none.1.1.found)
none_of items next tasks limit m home number (LeaveTask asked) SourceClosed none = (none.1.0, none.1.1.found)
none_of items next tasks limit m home number call reply none = elim none [ ]

-- this is done with an item by its own number
done_there : (items : List Item) (next : ℕ) (tasks : List Task) (limit m : ℕ) (act : ItemAct) (home : HomeId) (call : HomeCall) (reply : HomeReply) (item : Item)
    → find (has_number item.number) items ≡ Some item → DoesItem act home call reply item
    → LedgerStep (ledger_with items next tasks limit) m (asks.AtHome home call) (answers.AtHome reply) (ledger_with (items_after act item.number items) next (changed_for item.reason (changed_by (change_by act)) tasks) limit)
unfolding LedgerStep
done_there items next tasks limit m Enter home call reply item found does =
    rw (does.is_call, does.replies.1) (does.may, (found, for_reason (items_without item.number items) next tasks limit item.reason with_moved))
done_there items next tasks limit m TurnBack home call reply item found does =
    rw (does.is_call, does.replies) (does.may, found, for_reason (map (turned_if item.number) items) next tasks limit item.reason (with_status (failed_as because.DestinationClosed)))
done_there items next tasks limit m GiveBack home call reply item found does =
    rw (does.is_call, does.replies.1) (does.may, (found, for_reason (items_without item.number items) next tasks limit item.reason with_back))
done_there items next tasks limit m Drop home call reply item found does =
    rw (does.is_call, does.replies) (does.may, (found, for_reason (items_without item.number items) next tasks limit item.reason with_dropped))

pub item_done : (items : List Item) (next : ℕ) (tasks : List Task) (limit m : ℕ) (act : ItemAct) (home : HomeId) (call : HomeCall) (reply : HomeReply) (number : ℕ) (item : Item)
    → find (has_number number) items ≡ Some item → DoesItem act home call reply item
    → LedgerStep (ledger_with items next tasks limit) m (asks.AtHome home call) (answers.AtHome reply) (ledger_with (items_after act number items) next (changed_for item.reason (changed_by (change_by act)) tasks) limit)
item_done items next tasks limit m act home call reply number item found does =
    subst (λ (n : ℕ). find (has_number n) items ≡ Some item
    → LedgerStep (ledger_with items next tasks limit) m (asks.AtHome home call) (answers.AtHome reply) (ledger_with (items_after act n items) next (changed_for item.reason (changed_by (change_by act)) tasks) limit))
    (number_is number items item found) (λ there. done_there items next tasks limit m act home call reply item there does) found

-- ---- what may be done to the task of an item

-- as many of a task are in transit as its counts say
pub in_transit_of : (items : List Item) (task : Task) → IsTask items task → unsettled task ≡ in_transit task.number items
in_transit_of items task is = omega (arith, is.counted)

same_reason : (number n : ℕ) (reason : Reason) → reason ≡ ForTask number → n ≡ number → is_for n reason ≡ true
same_reason number n reason is same = rw is (grind (arith, common_steps, same))

may_be : (act : ItemAct) (task : Task) → 0 < unsettled task → MayChange (change_by act) task
may_be Enter task more = more
may_be TurnBack task more = tt
may_be GiveBack task more = more
may_be Drop task more = more

moves_of : (l : Ledger) → IsLedger l → (number : ℕ) (item : Item) (act : ItemAct) → find (has_number number) l.items ≡ Some item → MayChangeFor (change_by act) item.reason l.tasks
moves_of l h number item act found task reason =
    let there = found_of_all (HasTask l) (has_number number) l.items item h.each_item found task reason in
    let is = found_number (λ (t : Task). t.number) task l.tasks there.0 there.1 in
    let counted = counted_item (λ x. is_for there.0.number x.reason) number l.items item found (same_reason task there.0.number item.reason reason is) in
    let all = in_transit_of l.items there.0 (found_of_all (IsTask l.items) (is_task task) l.tasks there.0 h.each there.1) in
    (there.0, there.1, may_be act there.0 (omega (arith, counted, all)))

same_number : (a b : ℕ) (reason : Reason) → reason ≡ ForTask a → reason ≡ ForTask b → a ≡ b
same_number a b reason first second = let k : ForTask a ≡ ForTask b = sym first ∙ second in cc

leaves_of : (l : Ledger) → IsLedger l → (m : ℕ) (home : HomeId) (call : HomeCall) (item : Item) → TakesOneMore l → IsLeaving l m home call item → MayChangeFor (to.Left m) item.reason l.tasks
leaves_of l h m home LeaveDead item spare leaves number reason = let k : DeadLetter ≡ ForTask number = sym leaves.because ∙ reason in absurd cc
leaves_of l h m home LeaveDrain item spare leaves number reason = let k : Drain ≡ ForTask number = sym leaves.0.because ∙ reason in absurd cc
leaves_of l h m home (LeaveTask asked) item spare leaves number reason =
    let same = same_number asked number item.reason leaves.0.because reason in
    let may = leaves.1.1 in
    let below = found_of_all (LeftBelow l.next_item) (is_task asked) l.tasks leaves.1.0 h.left_below may.found in
    (leaves.1.0, subst (λ (n : ℕ). find (is_task n) l.tasks ≡ Some leaves.1.0) same may.found, (may.running, leaves.1.2, omega (arith, below, spare.not_worn)))
leaves_of l h m home call item spare leaves number reason = elim leaves [ ]

-- ---- the history

ledger_push : (es : List LedgerEvent) (e : LedgerEvent) → AreLedger es → NamesItsPart e.call e.component → AreLedger (es ++ e ∷ [])
ledger_push [] e h names = (names, tt)
ledger_push (x ∷ es) e h names = (h.0, ledger_push es e h.1 names)

pub kept_more : (old new : LedgerHistory) (by : Actor) (stamp : StampValue) (home : HomeId) (call : HomeCall) (reply : HomeReply)
    → IsLedgerKept old → new.ledger.limit ≡ old.ledger.limit → StampsRise start new.events new.last → LedgerShares old new by stamp home call reply → IsLedgerKept new
kept_more old new by stamp home call reply kept same rising shares =
    let event = shared_event stamp by home call reply in
    record {
      replays = subst (λ (limit : ℕ). Replays LedgerStep (opening_ledger limit) new.events new.ledger) (sym same)
          (subst (λ (es : List LedgerEvent). Replays LedgerStep (opening_ledger old.ledger.limit) es new.ledger) (sym shares.events)
          (replays_push LedgerStep (opening_ledger old.ledger.limit) old.events old.ledger event new.ledger kept.replays shares.step));
      rising = rising;
      own = rw shares.events (ledger_push old.events event kept.own refl);
    }

-- a step that leaves these items and tasks, with its event
pub one_more : (items left : List Item) (next after : ℕ) (tasks changed : GrowingValue Task) (limit : ℕ) (log new : LogValue LedgerCall LedgerReply) (by : Actor) (stamp : StampValue) (home : HomeId) (call : HomeCall) (reply : HomeReply)
    → LedgerStep (ledger_with items next tasks.items limit) stamp.moment (asks.AtHome home call) (answers.AtHome reply) (ledger_with left after changed.items limit)
    → new.last ≡ stamp → new.events ≡ log.events ++ shared_event stamp by home call reply ∷ [] → KeepsSpare log.spare new.spare → changed.spare ≡ tasks.spare
    → LedgerShares (history_of items next tasks limit log) (history_of left after changed limit new) by stamp home call reply
one_more items left next after tasks changed limit log new by stamp home call reply step last events spare spare_tasks = record { step = step; last = last; events = events; spare = spare; spare_tasks = spare_tasks }

names_it : (call : LedgerCall) → is_own call ≡ true → NamesItsPart call part.Ledger
names_it (asks.AtHome home call) own = absurd cc
names_it (asks.StartTask source destination rate) own = refl
names_it (asks.CancelTask number) own = refl
names_it (asks.ListTasks source most) own = refl
names_it (asks.FinishTask number) own = refl

-- the same of a step of its own
pub own_kept : (old new : LedgerHistory) (by : Actor) (now : ℕ) (call : LedgerCall) (its_record : LedgerRecordValue)
    → IsLedgerKept old → new.ledger.limit ≡ old.ledger.limit → is_own call ≡ true → StampsRise start new.events new.last → LedgerRecords old new by now call its_record → IsLedgerKept new
own_kept old new by now call its_record kept same own rising did =
    let event = own_event its_record.stamp by call its_record.reply in
    record {
      replays = subst (λ (limit : ℕ). Replays LedgerStep (opening_ledger limit) new.events new.ledger) (sym same)
          (subst (λ (es : List LedgerEvent). Replays LedgerStep (opening_ledger old.ledger.limit) es new.ledger) (sym did.events)
          (replays_push LedgerStep (opening_ledger old.ledger.limit) old.events old.ledger event new.ledger kept.replays did.step));
      rising = rising;
      own = rw did.events (ledger_push old.events event kept.own (names_it call own));
    }

-- what holds of every ledger
pub holds : (h : LedgerHistory) → IsLedgerKept h → IsLedger h.ledger
holds h kept = ledger_holds h.ledger.limit h.events h.ledger kept.replays

-- the items of a ledger stand below its next number
pub items_stand : (h : LedgerHistory) → IsLedgerKept h → ItemsRise 1 h.ledger.items h.ledger.next_item
items_stand h kept = (holds h kept).items_rise

-- an item that comes in may be counted for its task, and one that is moved may be counted off
pub may_leave_for : (h : LedgerHistory) → IsLedgerKept h → (m : ℕ) (home : HomeId) (call : HomeCall) (item : Item) → TakesOneMore h.ledger → IsLeaving h.ledger m home call item → MayChangeFor (to.Left m) item.reason h.ledger.tasks
may_leave_for h kept m home call item spare leaves = leaves_of h.ledger (holds h kept) m home call item spare leaves

pub may_move_for : (h : LedgerHistory) → IsLedgerKept h → (number : ℕ) (item : Item) (act : ItemAct) → find (has_number number) h.ledger.items ≡ Some item → MayChangeFor (change_by act) item.reason h.ledger.tasks
may_move_for h kept number item act found = moves_of h.ledger (holds h kept) number item act found

-- ---- spare memory

-- where its next number is none of an item, the numbers are used up
pub worn : (h : LedgerHistory) → IsLedgerKept h → (h.ledger.next_item ≡ 0) ⊎ (last_number ≤ h.ledger.next_item) → transit_refusal h.ledger ≡ Some Worn
worn h kept none =
    let low = items_low 1 h.ledger.items h.ledger.next_item (items_stand h kept) in
    let test : nat_le last_number h.ledger.next_item ≡ true = grind (arith, common_steps, low, none) in
    rw test refl
