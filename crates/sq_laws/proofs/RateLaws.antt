-- No more messages leave for a task in a second than its rate.
use Rattle.std.proofs.Common.{◌≡◌, ℕ, ◌+◌, ◌<◌, ◌≤◌, ◌⊎◌, inl, inr, Bool, true, false, cond, List, [], ◌∷◌, ◌++◌, refl, sym, ap, ◌∙◌, arith, Some, None}
use Rattle.std.specs.Prelude.{◌==◌, ◌&&◌, find, if◌then◌else◌}
use Rattle.std.proofs.lemmas.Grind.{common_steps}
use Rattle.std.proofs.lemmas.Bool.{eqb-true}
use Rattle.std.proofs.lemmas.List.Sums.{sum_by-cons}
use Rattle.sq_base.specs.StampValue.{StampValue}
use Rattle.sq_base.specs.Stamps.{start}
use Rattle.sq_model.specs.declared.event.Event.{Event}
use Rattle.sq_model.specs.declared.calls.HomeCall.TheVariants.{LeaveDead, LeaveDrain, LeaveTask, Enter, TurnBack, GiveBack, Drop}
use Rattle.sq_model.specs.declared.item.Item.{Item}
use Rattle.sq_model.specs.declared.item.Reason.{Reason}
use Rattle.sq_model.specs.declared.item.Reason.TheVariants.{DeadLetter, Task as ForTask, Drain}
use Rattle.sq_model.specs.declared.ledger.LedgerCall.{LedgerCall}
use Rattle.sq_model.specs.declared.ledger.LedgerCall.TheVariants as asks
use Rattle.sq_model.specs.declared.ledger.LedgerReply.{LedgerReply}
use Rattle.sq_model.specs.declared.ledger.LedgerReply.TheVariants as answers
use Rattle.sq_model.specs.declared.replies.HomeReply.TheVariants.{Done, Left, NoLiveRow, NoOrigin, SourceClosed, Entered}
use Rattle.sq_model.specs.declared.task.FailureReason.TheVariants as because
use Rattle.sq_model.specs.declared.task.Task.{Task}
use Rattle.sq_model.specs.declared.task.TaskStatus.{TaskStatus}
use Rattle.sq_model.specs.Replays.{Replays, NoMomentFalls, StampsRise}
use Rattle.sq_model.specs.Tasks.{left_in, may_leave, new_task, rate_of, second_of, with_left, with_moved, with_back, with_dropped, with_status, failed_as, cancelled_as, finished_as}
use Rattle.sq_model.specs.Ledgers.{Ledger, LedgerEvent, LedgerStep, IsLedger, IsTask, changed_for, changed_task, is_for, is_task, leaves_for, leaves_in, opening_ledger, task_of}
use Rattle.sq_laws.proofs.LedgerLists.{KeepsNumber, found_number, found_of_all, some_same}
use Rattle.sq_laws.proofs.LedgerLaws.{ledger_holds}
use Rattle.sq_laws.proofs.LedgerSteps.{step_keeps}

-- ---- a task that is found, in lists that change

abbrev changed_if : ℕ → (Task → Task) → Task → Task
changed_if k f t = if is_task k t then f t else t

number_kept : (k : ℕ) (f : Task → Task) (t : Task) → KeepsNumber f → (changed_if k f t).number ≡ t.number
number_kept k f t n = elim (is_task k t) as (λ b. (if b then f t else t).number ≡ t.number) [ true ↦ n t | false ↦ refl ]

find_changed : (number k : ℕ) (f : Task → Task) (tasks : List Task) (task : Task) → KeepsNumber f → find (is_task number) tasks ≡ Some task → find (is_task number) (changed_task k f tasks) ≡ Some (changed_if k f task)
find_changed number k f [] task n e = absurd cc
find_changed number k f (x ∷ tasks) task n e =
    elim (is_task number x) as (λ b. is_task number x ≡ b → cond b (Some x) (find (is_task number) tasks) ≡ Some task → find (is_task number) (changed_if k f x ∷ changed_task k f tasks) ≡ Some (changed_if k f task)) [
      | true ↦ (λ at g. let same : x ≡ task = some_same x task g in rw (number_kept k f x n, at) (ap (λ (t : Task). Some (changed_if k f t)) same))
      | false ↦ (λ at g. rw (number_kept k f x n, at) (find_changed number k f tasks task n g))
    ] refl e

none_changed : (number k : ℕ) (f : Task → Task) (tasks : List Task) → KeepsNumber f → find (is_task number) tasks ≡ None → find (is_task number) (changed_task k f tasks) ≡ None
none_changed number k f [] n e = refl
none_changed number k f (x ∷ tasks) n e =
    elim (is_task number x) as (λ b. is_task number x ≡ b → cond b (Some x) (find (is_task number) tasks) ≡ None → find (is_task number) (changed_if k f x ∷ changed_task k f tasks) ≡ None) [
      | true ↦ (λ at g. absurd cc)
      | false ↦ (λ at g. rw (number_kept k f x n, at) (none_changed number k f tasks n g))
    ] refl e

find_append : (number : ℕ) (tasks : List Task) (new task : Task) → find (is_task number) tasks ≡ Some task → find (is_task number) (tasks ++ new ∷ []) ≡ Some task
find_append number [] new task e = absurd cc
find_append number (x ∷ tasks) new task e =
    elim (is_task number x) as (λ b. cond b (Some x) (find (is_task number) tasks) ≡ Some task → cond b (Some x) (find (is_task number) (tasks ++ new ∷ [])) ≡ Some task) [
      | true ↦ (λ g. g)
      | false ↦ (λ g. find_append number tasks new task g)
    ] e

none_append : (number : ℕ) (tasks : List Task) (new : Task) → find (is_task number) tasks ≡ None → find (is_task number) (tasks ++ new ∷ []) ≡ cond (is_task number new) (Some new) None
none_append number [] new e = refl
none_append number (x ∷ tasks) new e =
    elim (is_task number x) as (λ b. cond b (Some x) (find (is_task number) tasks) ≡ None → cond b (Some x) (find (is_task number) (tasks ++ new ∷ [])) ≡ cond (is_task number new) (Some new) None) [
      | true ↦ (λ g. absurd cc)
      | false ↦ (λ g. none_append number tasks new g)
    ] e

-- ---- the pace of a task: its rate, and what left in its last second

record SamePace (t u : Task) : Type 0 where
  pub rate : rate_of u ≡ rate_of t
  pub second : u.second ≡ t.second
  pub in_second : u.in_second ≡ t.in_second

same_pace : (t : Task) → SamePace t t
same_pace t = record { rate = refl; second = refl; in_second = refl }

-- after a step it is found again: one left for it, or its pace is the same
record Paced (number m : ℕ) (task : Task) (reply : LedgerReply) (after : Ledger) : Type 0 where
  pub later : Task
  pub found : task_of number after ≡ Some later
  pub pace : ((leaves_for number reply ≡ true) × (may_leave m task ≡ true) × SamePace (with_left m task) later) ⊎ ((leaves_for number reply ≡ false) × SamePace task later)

-- a change that leaves number and pace
record KeepsPace (f : Task → Task) : Type 0 where
  pub number : KeepsNumber f
  pub pace : (t : Task) → SamePace t (f t)

changed_pace : (k : ℕ) (f : Task → Task) (t : Task) → KeepsPace f → SamePace t (changed_if k f t)
changed_pace k f t p = elim (is_task k t) as (λ b. SamePace t (if b then f t else t)) [ true ↦ p.pace t | false ↦ same_pace t ]

status_pace : (change : TaskStatus → TaskStatus) → KeepsPace (with_status change)
status_pace change = record { number = λ t. refl; pace = λ t. record { rate = refl; second = refl; in_second = refl } }

moved_pace : KeepsPace with_moved
moved_pace = record { number = λ t. refl; pace = λ t. record { rate = refl; second = refl; in_second = refl } }

back_pace : KeepsPace with_back
back_pace = record { number = λ t. refl; pace = λ t. record { rate = refl; second = refl; in_second = refl } }

dropped_pace : KeepsPace with_dropped
dropped_pace = record { number = λ t. refl; pace = λ t. record { rate = refl; second = refl; in_second = refl } }

-- the tasks are as they were
paced_still : (number m : ℕ) (task : Task) (reply : LedgerReply) (l after : Ledger) → task_of number l ≡ Some task → leaves_for number reply ≡ false → after.tasks ≡ l.tasks → Paced number m task reply after
paced_still number m task reply l after e none same = record { later = task; found = rw same e; pace = inr (none, same_pace task) }

-- the tasks of a number were changed
paced_by : (number m k : ℕ) (f : Task → Task) (task : Task) (reply : LedgerReply) (l after : Ledger) → KeepsPace f → task_of number l ≡ Some task → leaves_for number reply ≡ false → after.tasks ≡ changed_task k f l.tasks
    → Paced number m task reply after
paced_by number m k f task reply l after p e none same =
    record { later = changed_if k f task; found = rw same (find_changed number k f l.tasks task p.number e); pace = inr (none, changed_pace k f task p) }

paced_for : (number m : ℕ) (reason : Reason) (f : Task → Task) (task : Task) (reply : LedgerReply) (l after : Ledger) → KeepsPace f → task_of number l ≡ Some task → leaves_for number reply ≡ false → after.tasks ≡ changed_for reason f l.tasks
    → Paced number m task reply after
paced_for number m DeadLetter f task reply l after p e none same = paced_still number m task reply l after e none same
paced_for number m Drain f task reply l after p e none same = paced_still number m task reply l after e none same
paced_for number m (ForTask k) f task reply l after p e none same = paced_by number m k f task reply l after p e none same

left_number : (m : ℕ) → KeepsNumber (with_left m)
left_number m t = refl

one_task : (number k : ℕ) (l : Ledger) (task taking : Task) → (k == number) ≡ true → task_of k l ≡ Some taking → task_of number l ≡ Some task → taking ≡ task
one_task number k l task taking e taken found = some_same taking task (sym taken ∙ (ap (λ (n : ℕ). task_of n l) (eqb-true k number e) ∙ found))

own_is : (number k : ℕ) (task : Task) → (k == number) ≡ true → task.number ≡ number → is_task k task ≡ true
own_is number k task e f = grind (arith, common_steps)

other_is : (number k : ℕ) (task : Task) → (k == number) ≡ false → task.number ≡ number → is_task k task ≡ false
other_is number k task e f = grind (arith, common_steps)

-- one left for the task of k
paced_leave : (number m k : ℕ) (item : Item) (task taking : Task) (l after : Ledger) → item.reason ≡ ForTask k → task_of k l ≡ Some taking → may_leave m taking ≡ true → task_of number l ≡ Some task → after.tasks ≡ changed_task k (with_left m) l.tasks
    → Paced number m task (answers.AtHome (Left item)) after
paced_leave number m k item task taking l after because taken may e same =
    let found : task_of number after ≡ Some (changed_if k (with_left m) task) = rw same (find_changed number k (with_left m) l.tasks task (left_number m) e) in
    let is = found_number (λ t. t.number) number l.tasks task e in
    elim (k == number) as (λ b. (k == number) ≡ b → Paced number m task (answers.AtHome (Left item)) after) [
      | true ↦ (λ own. record {
        later = with_left m task;
        found = found ∙ ap (λ (b : Bool). Some (if b then with_left m task else task)) (own_is number k task own is);
        pace = inl (ap (is_for number) because ∙ own, ap (may_leave m) (sym (one_task number k l task taking own taken e)) ∙ may, same_pace (with_left m task));
      })
      | false ↦ (λ other. record {
        later = task;
        found = found ∙ ap (λ (b : Bool). Some (if b then with_left m task else task)) (other_is number k task other is);
        pace = inr (ap (is_for number) because ∙ other, same_pace task);
      })
    ] refl

tasks_same : (l after : Ledger) → after ≡ l → after.tasks ≡ l.tasks
tasks_same l after e = ap (λ (x : Ledger). x.tasks) e

step_paced : (number : ℕ) (task : Task) (l : Ledger) (m : ℕ) (call : LedgerCall) (reply : LedgerReply) (after : Ledger) → task_of number l ≡ Some task → LedgerStep l m call reply after → Paced number m task reply after
unfolding LedgerStep
step_paced number task l m (asks.AtHome home LeaveDead) (answers.AtHome (Left item)) after e s =
    paced_still number m task _ l after e (ap (is_for number) s.0.because) (ap (λ (x : Ledger). x.tasks) s.1.2)
step_paced number task l m (asks.AtHome home LeaveDrain) (answers.AtHome (Left item)) after e s =
    paced_still number m task _ l after e (ap (is_for number) s.0.because) (ap (λ (x : Ledger). x.tasks) s.2.2)
step_paced number task l m (asks.AtHome home (LeaveTask k)) (answers.AtHome (Left item)) after e s =
    paced_leave number m k item task s.1.0 l after s.0.because s.1.1.found s.1.2 e (ap (λ (x : Ledger). x.tasks) s.2.2)
step_paced number task l m (asks.AtHome home (LeaveTask k)) (answers.AtHome NoLiveRow) after e s = paced_still number m task _ l after e refl (tasks_same l after s.1)
step_paced number task l m (asks.AtHome home (LeaveTask k)) (answers.AtHome (NoOrigin serial)) after e s =
    paced_by number m k (with_status (failed_as because.NoOrigin)) task _ l after (status_pace _) e refl (ap (λ (x : Ledger). x.tasks) s.2)
step_paced number task l m (asks.AtHome home (LeaveTask k)) (answers.AtHome SourceClosed) after e s =
    paced_by number m k (with_status (failed_as because.SourceClosed)) task _ l after (status_pace _) e refl (ap (λ (x : Ledger). x.tasks) s.1)
step_paced number task l m (asks.AtHome home (Enter item)) (answers.AtHome (Entered entered)) after e s =
    paced_for number m item.reason with_moved task _ l after moved_pace e refl (ap (λ (x : Ledger). x.tasks) s.1.1)
step_paced number task l m (asks.AtHome home (TurnBack item)) (answers.AtHome Done) after e s =
    paced_for number m item.reason (with_status (failed_as because.DestinationClosed)) task _ l after (status_pace _) e refl (ap (λ (x : Ledger). x.tasks) s.2)
step_paced number task l m (asks.AtHome home (GiveBack item)) (answers.AtHome (Entered entered)) after e s =
    paced_for number m item.reason with_back task _ l after back_pace e refl (ap (λ (x : Ledger). x.tasks) s.1.1)
step_paced number task l m (asks.AtHome home (Drop item)) (answers.AtHome Done) after e s =
    paced_for number m item.reason with_dropped task _ l after dropped_pace e refl (ap (λ (x : Ledger). x.tasks) s.1.1)
step_paced number task l m (asks.StartTask source destination rate) (answers.Started k) after e s =
    record { later = task; found = rw s.4 (find_append number l.tasks (new_task k source destination rate m) task e); pace = inr (refl, same_pace task) }
step_paced number task l m (asks.CancelTask k) (answers.Cancelled moved) after e s =
    paced_by number m k (with_status cancelled_as) task _ l after (status_pace _) e refl (ap (λ (x : Ledger). x.tasks) s.1)
step_paced number task l m (asks.ListTasks source most) (answers.Listed listed) after e s = paced_still number m task _ l after e refl (tasks_same l after s.1)
step_paced number task l m (asks.FinishTask k) answers.Finished after e s =
    paced_by number m k (with_status finished_as) task _ l after (status_pace _) e refl (ap (λ (x : Ledger). x.tasks) s.2)
step_paced number task l m call reply after e s = elim s [ ]

-- ---- a whole history

second_rises : (a b : ℕ) → a ≤ b → second_of a ≤ second_of b
second_rises a b h = omega (arith, h)

not_now : (a b : ℕ) → b < a → (a == b) ≡ false
not_now a b h = grind (arith, common_steps)

and_false : (b c : Bool) → c ≡ false → (b && c) ≡ false
and_false true c h = h
and_false false c h = refl

-- of a second that is over none leave
none_before : (number second low : ℕ) (events : List LedgerEvent) → second < second_of low → NoMomentFalls low events → leaves_in number second events ≡ 0
none_before number second low [] lt h = refl
none_before number second low (e ∷ es) lt h =
    let later : second < second_of e.stamp.moment = let k = second_rises low e.stamp.moment h.0 in omega (arith, lt, k) in
    let r = none_before number second e.stamp.moment es later h.1 in
    rw (sum_by-cons (λ (x : LedgerEvent). cond (leaves_for number x.reply && (second_of x.stamp.moment == second)) 1 0) e es, not_now (second_of e.stamp.moment) second later, and_false (leaves_for number e.reply) false refl) (omega (arith, r))

one_event : (number second : ℕ) (e : LedgerEvent) (es : List LedgerEvent) → leaves_in number second (e ∷ es) ≡ cond (leaves_for number e.reply && (second_of e.stamp.moment == second)) 1 0 + leaves_in number second es
one_event number second e es = sum_by-cons (λ (x : LedgerEvent). cond (leaves_for number x.reply && (second_of x.stamp.moment == second)) 1 0) e es

left_within : (second : ℕ) (task : Task) → task.in_second ≤ rate_of task → left_in second task ≤ rate_of task
left_within second task h = elim (task.second == second) as (λ b. (if b then task.in_second else 0) ≤ rate_of task) [ true ↦ h | false ↦ omega arith ]

left_same : (second : ℕ) (t u : Task) → SamePace t u → left_in second u ≡ left_in second t
left_same second t u p = ap (λ (k : ℕ). if k == second then u.in_second else 0) p.second ∙ ap (λ (k : ℕ). if t.second == second then k else 0) p.in_second

-- of an earlier second than this one, where the task's last one is not after it
past : (m second : ℕ) (task : Task) → task.second ≤ second_of m → (task.second == second) ≡ true → (second_of m == second) ≡ false → second < second_of m
past m second task le e f = grind (arith, common_steps, eqb-true task.second second e)

none_left : (second : ℕ) (task : Task) → (task.second == second) ≡ false → left_in second task ≡ 0
none_left second task e = rw e refl

-- one that left in this second counts, and else the second is over or none left in it before
one_leave : (number second m rest : ℕ) (task : Task) → task.in_second ≤ rate_of task → task.second ≤ second_of m → rest + left_in second (with_left m task) ≤ rate_of task → (second < second_of m → rest ≡ 0)
    → (b : Bool) → (second_of m == second) ≡ b → cond b 1 0 + rest + left_in second task ≤ rate_of task
one_leave number second m rest task within le h over true e =
    let now : left_in second (with_left m task) ≡ left_in (second_of m) task + 1 = ap (λ (b : Bool). if b then left_in (second_of m) task + 1 else 0) e in
    let here : left_in (second_of m) task ≡ left_in second task = ap (λ (k : ℕ). left_in k task) (eqb-true (second_of m) second e) in
    omega (arith, h, now, here)
one_leave number second m rest task within le h over false e =
    elim (task.second == second) as (λ b. (task.second == second) ≡ b → 0 + rest + left_in second task ≤ rate_of task) [
      | true ↦ (λ last. let none = over (past m second task le last e) in let k = left_within second task within in omega (arith, none, k))
      | false ↦ (λ other. let none = none_left second task other in omega (arith, h, none))
    ] refl

pub record KeepsRate (number second : ℕ) (events : List LedgerEvent) (task final : Task) : Type 0 where
  pub same : rate_of final ≡ rate_of task
  pub within : leaves_in number second events + left_in second task ≤ rate_of task

task_rate : (number : ℕ) (l : Ledger) (task : Task) → IsLedger l → task_of number l ≡ Some task → task.in_second ≤ rate_of task
task_rate number l task h e = (found_of_all (IsTask l.items) (is_task number) l.tasks task h.each e).rate

pub from_task : (number second : ℕ) (events : List LedgerEvent) (l : Ledger) (low : ℕ) (after : Ledger) (task final : Task) → IsLedger l → task_of number l ≡ Some task → Replays LedgerStep l events after
    → NoMomentFalls low events → task.second ≤ second_of low → task_of number after ≡ Some final → KeepsRate number second events task final
from_task number second [] l low after task final h e r moments le f =
    let same : final ≡ task = some_same final task (sym f ∙ (ap (task_of number) r ∙ e)) in
    let k = left_within second task (task_rate number l task h e) in
    record { same = ap rate_of same; within = omega (arith, k) }
from_task number second (x ∷ es) l low after task final h e r moments le f =
    let m = x.stamp.moment in
    let mid = r.0 in
    let p = step_paced number task l m x.call x.reply mid e r.1 in
    let now : task.second ≤ second_of m = let k = second_rises low m moments.0 in omega (arith, le, k) in
    let goes : (p.later.second ≤ second_of m) → KeepsRate number second es p.later final
    = λ k. from_task number second es mid m after p.later final (step_keeps l m x.call x.reply mid r.1 h) p.found r.2 moments.1 k f in
    elim p.pace as (λ _. KeepsRate number second (x ∷ es) task final) [
      | inl leaves ↦
          let later = p.later in
          let at = leaves.2 in
          let rest = goes (omega (arith, at.second)) in
          let left : left_in second later ≡ left_in second (with_left m task) = left_same second (with_left m task) later at in
          let sum = one_leave number second m (leaves_in number second es) task (task_rate number l task h e) now (omega (arith, rest.within, left, at.rate))
          (λ lt. none_before number second m es lt moments.1) (second_of m == second) refl in
          let count = one_event number second x es ∙ ap (λ (b : Bool). cond (b && (second_of m == second)) 1 0 + leaves_in number second es) leaves.0 in
          record { same = rest.same ∙ at.rate; within = omega (arith, sum, count) }
      | inr stays ↦
          let at = stays.1 in
          let rest = goes (omega (arith, at.second, now)) in
          let left = left_same second task p.later at in
          let count = one_event number second x es ∙ ap (λ (b : Bool). cond (b && (second_of m == second)) 1 0 + leaves_in number second es) stays.0 in
          record { same = rest.same ∙ at.rate; within = omega (arith, rest.within, left, at.rate, count) }
    ]

-- a task that was not started: no message leaves for it, and it is new once it is
record StaysNew (number : ℕ) (reply : LedgerReply) (after : Ledger) : Type 0 where
  pub none_leaves : leaves_for number reply ≡ false
  pub later : (task_of number after ≡ None) ⊎ ((new : Task) × (task_of number after ≡ Some new) × (new.in_second ≡ 0) × (new.second ≡ 0))

new_still : (number : ℕ) (reply : LedgerReply) (l after : Ledger) → task_of number l ≡ None → leaves_for number reply ≡ false → after.tasks ≡ l.tasks → StaysNew number reply after
new_still number reply l after e none same = record { none_leaves = none; later = inl (rw same e) }

new_by : (number k : ℕ) (f : Task → Task) (reply : LedgerReply) (l after : Ledger) → KeepsNumber f → task_of number l ≡ None → leaves_for number reply ≡ false → after.tasks ≡ changed_task k f l.tasks → StaysNew number reply after
new_by number k f reply l after n e none same = record { none_leaves = none; later = inl (rw same (none_changed number k f l.tasks n e)) }

new_for : (number : ℕ) (reason : Reason) (f : Task → Task) (reply : LedgerReply) (l after : Ledger) → KeepsNumber f → task_of number l ≡ None → leaves_for number reply ≡ false → after.tasks ≡ changed_for reason f l.tasks → StaysNew number reply after
new_for number DeadLetter f reply l after n e none same = new_still number reply l after e none same
new_for number Drain f reply l after n e none same = new_still number reply l after e none same
new_for number (ForTask k) f reply l after n e none same = new_by number k f reply l after n e none same

not_its : (number k : ℕ) (l : Ledger) (taking : Task) → task_of number l ≡ None → task_of k l ≡ Some taking → (b : Bool) → (k == number) ≡ b → b ≡ false
not_its number k l taking none taken true e = let same : task_of number l ≡ Some taking = ap (λ (n : ℕ). task_of n l) (sym (eqb-true k number e)) ∙ taken in absurd cc
not_its number k l taking none taken false e = refl

new_started : (number : ℕ) (new : Task) (after : Ledger) → new.in_second ≡ 0 → new.second ≡ 0 → (b : Bool) → task_of number after ≡ cond b (Some new) None
    → (task_of number after ≡ None) ⊎ ((new : Task) × (task_of number after ≡ Some new) × (new.in_second ≡ 0) × (new.second ≡ 0))
new_started number new after i s true e = inr (new, e, i, s)
new_started number new after i s false e = inl e

step_new : (number : ℕ) (l : Ledger) (m : ℕ) (call : LedgerCall) (reply : LedgerReply) (after : Ledger) → task_of number l ≡ None → LedgerStep l m call reply after → StaysNew number reply after
unfolding LedgerStep
step_new number l m (asks.AtHome home LeaveDead) (answers.AtHome (Left item)) after e s = new_still number _ l after e (ap (is_for number) s.0.because) (ap (λ (x : Ledger). x.tasks) s.1.2)
step_new number l m (asks.AtHome home LeaveDrain) (answers.AtHome (Left item)) after e s = new_still number _ l after e (ap (is_for number) s.0.because) (ap (λ (x : Ledger). x.tasks) s.2.2)
step_new number l m (asks.AtHome home (LeaveTask k)) (answers.AtHome (Left item)) after e s =
    new_by number k (with_left m) _ l after (left_number m) e (ap (is_for number) s.0.because ∙ not_its number k l s.1.0 e s.1.1.found (k == number) refl) (ap (λ (x : Ledger). x.tasks) s.2.2)
step_new number l m (asks.AtHome home (LeaveTask k)) (answers.AtHome NoLiveRow) after e s = new_still number _ l after e refl (tasks_same l after s.1)
step_new number l m (asks.AtHome home (LeaveTask k)) (answers.AtHome (NoOrigin serial)) after e s = new_by number k (with_status (failed_as because.NoOrigin)) _ l after (λ t. refl) e refl (ap (λ (x : Ledger). x.tasks) s.2)
step_new number l m (asks.AtHome home (LeaveTask k)) (answers.AtHome SourceClosed) after e s = new_by number k (with_status (failed_as because.SourceClosed)) _ l after (λ t. refl) e refl (ap (λ (x : Ledger). x.tasks) s.1)
step_new number l m (asks.AtHome home (Enter item)) (answers.AtHome (Entered entered)) after e s = new_for number item.reason with_moved _ l after (λ t. refl) e refl (ap (λ (x : Ledger). x.tasks) s.1.1)
step_new number l m (asks.AtHome home (TurnBack item)) (answers.AtHome Done) after e s = new_for number item.reason (with_status (failed_as because.DestinationClosed)) _ l after (λ t. refl) e refl (ap (λ (x : Ledger). x.tasks) s.2)
step_new number l m (asks.AtHome home (GiveBack item)) (answers.AtHome (Entered entered)) after e s = new_for number item.reason with_back _ l after (λ t. refl) e refl (ap (λ (x : Ledger). x.tasks) s.1.1)
step_new number l m (asks.AtHome home (Drop item)) (answers.AtHome Done) after e s = new_for number item.reason with_dropped _ l after (λ t. refl) e refl (ap (λ (x : Ledger). x.tasks) s.1.1)
step_new number l m (asks.StartTask source destination rate) (answers.Started k) after e s =
    let new = new_task k source destination rate m in
    record { none_leaves = refl; later = new_started number new after refl refl (is_task number new) (ap (task_of number) s.4 ∙ none_append number l.tasks new e) }
step_new number l m (asks.CancelTask k) (answers.Cancelled moved) after e s = new_by number k (with_status cancelled_as) _ l after (λ t. refl) e refl (ap (λ (x : Ledger). x.tasks) s.1)
step_new number l m (asks.ListTasks source most) (answers.Listed listed) after e s = new_still number _ l after e refl (tasks_same l after s.1)
step_new number l m (asks.FinishTask k) answers.Finished after e s = new_by number k (with_status finished_as) _ l after (λ t. refl) e refl (ap (λ (x : Ledger). x.tasks) s.2)
step_new number l m call reply after e s = elim s [ ]

from_none : (number second : ℕ) (events : List LedgerEvent) (l : Ledger) (low : ℕ) (after : Ledger) (final : Task) → IsLedger l → task_of number l ≡ None → Replays LedgerStep l events after → NoMomentFalls low events
    → task_of number after ≡ Some final → leaves_in number second events ≤ rate_of final
from_none number second [] l low after final h e r moments f = let none : task_of number after ≡ None = ap (task_of number) r ∙ e in absurd cc
from_none number second (x ∷ es) l low after final h e r moments f =
    let m = x.stamp.moment in
    let mid = r.0 in
    let new = step_new number l m x.call x.reply mid e r.1 in
    let count = one_event number second x es ∙ ap (λ (b : Bool). cond (b && (second_of m == second)) 1 0 + leaves_in number second es) new.none_leaves in
    elim new.later as (λ _. leaves_in number second (x ∷ es) ≤ rate_of final) [
      | inl none ↦ let rest = from_none number second es mid m after final (step_keeps l m x.call x.reply mid r.1 h) none r.2 moments.1 f in omega (arith, rest, count)
      | inr task ↦ let rest = from_task number second es mid m after task.0 final (step_keeps l m x.call x.reply mid r.1 h) task.1 r.2 moments.1 (omega (arith, task.3)) f in omega (arith, rest.within, rest.same, count)
    ]

pub rate_is_kept : (number second limit : ℕ) (events : List LedgerEvent) (l : Ledger) (task : Task) → Replays LedgerStep (opening_ledger limit) events l → NoMomentFalls 0 events → task_of number l ≡ Some task
    → leaves_in number second events ≤ rate_of task
rate_is_kept number second limit events l task r moments f = from_none number second events (opening_ledger limit) 0 l task (ledger_holds limit [] (opening_ledger limit) refl) refl r moments f

-- the moments of a history do not fall, since its stamps rise
no_moment_falls : {K R : Type 0} (low : StampValue) (events : List (Event K R)) (last : StampValue) → StampsRise low events last → NoMomentFalls low.moment events
no_moment_falls low [] last rise = tt
no_moment_falls low (e ∷ es) last rise = (elim rise.0 [ inl later ↦ omega (arith, later) | inr same ↦ omega (arith, same.0) ], no_moment_falls e.stamp es last rise.1)

pub rate_of_history : (number second limit : ℕ) (events : List LedgerEvent) (last : StampValue) (l : Ledger) (task : Task) → Replays LedgerStep (opening_ledger limit) events l → StampsRise start events last → task_of number l ≡ Some task
    → leaves_in number second events ≤ rate_of task
rate_of_history number second limit events last l task r rise f = rate_is_kept number second limit events l task r (no_moment_falls start events last rise) f
