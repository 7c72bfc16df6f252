-- No more messages leave for a task in a second than its rate.
use Rattle.std.proofs.Common.{◌≡◌, ℕ, ◌+◌, ◌<◌, ◌≤◌, Bool, true, false, cond, List, [], ◌∷◌, refl, ap, ◌∙◌, subst, arith}
use Rattle.std.specs.Prelude.{◌==◌, if◌then◌else◌}
use Rattle.std.proofs.lemmas.Grind.{common_steps}
use Rattle.std.proofs.lemmas.Bool.{eqb-true}
use Rattle.std.proofs.lemmas.List.Sums.{sum_by-cons}
use Rattle.sq_model.specs.declared.task.Task.{Task}
use Rattle.sq_model.specs.Tasks.{cancelled_as, failed_as, finished_as, left_in, may_leave, rate_of, second_of, with_back, with_dropped, with_left, with_moved, with_status}
use Rattle.sq_task.specs.TaskSteps.{TaskCall, Left, CameIn, CameBack, Dropped, Cancel, Finish, Fail, NoLeaveFalls, TaskRun, is_left_in, lefts_in}

one_call : (second : ℕ) (call : TaskCall) (calls : List TaskCall) → lefts_in second (call ∷ calls) ≡ cond (is_left_in second call) 1 0 + lefts_in second calls
one_call second call calls = sum_by-cons (λ (x : TaskCall). cond (is_left_in second x) 1 0) call calls

-- ---- a second that is over

not_now : (a b : ℕ) → b < a → (a == b) ≡ false
not_now a b h = grind (arith, common_steps)

second_rises : (a b : ℕ) → a ≤ b → second_of a ≤ second_of b
second_rises a b h = omega (arith, h)

none_more : (second : ℕ) (call : TaskCall) (calls : List TaskCall) → is_left_in second call ≡ false → lefts_in second calls ≡ 0 → lefts_in second (call ∷ calls) ≡ 0
none_more second call calls e h = let count = one_call second call calls ∙ ap (λ (b : Bool). cond b 1 0 + lefts_in second calls) e in omega (arith, h, count)

-- none leave in it
none_before : (second low : ℕ) (calls : List TaskCall) → second < second_of low → NoLeaveFalls low calls → lefts_in second calls ≡ 0
none_before second low [] lt h = refl
none_before second low (Left m ∷ calls) lt h =
    let later : second < second_of m = let k = second_rises low m h.0 in omega (arith, lt, k) in
    none_more second (Left m) calls (not_now (second_of m) second later) (none_before second m calls later h.1)
none_before second low (CameIn ∷ calls) lt h = none_more second CameIn calls refl (none_before second low calls lt h)
none_before second low (CameBack ∷ calls) lt h = none_more second CameBack calls refl (none_before second low calls lt h)
none_before second low (Dropped ∷ calls) lt h = none_more second Dropped calls refl (none_before second low calls lt h)
none_before second low (Cancel ∷ calls) lt h = none_more second Cancel calls refl (none_before second low calls lt h)
none_before second low (Finish ∷ calls) lt h = none_more second Finish calls refl (none_before second low calls lt h)
none_before second low (Fail reason ∷ calls) lt h = none_more second (Fail reason) calls refl (none_before second low calls lt h)

-- ---- one call more

left_within : (second : ℕ) (task : Task) → task.in_second ≤ rate_of task → left_in second task ≤ rate_of task
left_within second task h = elim (task.second == second) as (λ b. (if b then task.in_second else 0) ≤ rate_of task) [ true ↦ h | false ↦ omega arith ]

left_allowed : (m : ℕ) (task : Task) → may_leave m task ≡ true → left_in (second_of m) task + 1 ≤ rate_of task
left_allowed m task h = grind (arith, common_steps, h)

none_left : (second : ℕ) (task : Task) → (task.second == second) ≡ false → left_in second task ≡ 0
none_left second task e = rw e refl

past : (second m : ℕ) (task : Task) → task.second ≤ second_of m → (task.second == second) ≡ true → (second_of m == second) ≡ false → second < second_of m
past second m task le e f = grind (arith, common_steps, eqb-true task.second second e)

-- one that leaves in this second counts; else the second is over, or none left in it before
one_leave : (second m rest : ℕ) (task : Task) → task.in_second ≤ rate_of task → task.second ≤ second_of m → rest + left_in second (with_left m task) ≤ rate_of task → (second < second_of m → rest ≡ 0)
    → (b : Bool) → (second_of m == second) ≡ b → cond b 1 0 + rest + left_in second task ≤ rate_of task
one_leave second m rest task within le h over true e =
    let now : left_in second (with_left m task) ≡ left_in (second_of m) task + 1 = ap (λ (b : Bool). if b then left_in (second_of m) task + 1 else 0) e in
    let here : left_in (second_of m) task ≡ left_in second task = ap (λ (k : ℕ). left_in k task) (eqb-true (second_of m) second e) in
    omega (arith, h, now, here)
one_leave second m rest task within le h over false e =
    elim (task.second == second) as (λ b. (task.second == second) ≡ b → 0 + rest + left_in second task ≤ rate_of task) [
      | true ↦ (λ last. let none = over (past second m task le last e) in let k = left_within second task within in omega (arith, none, k))
      | false ↦ (λ other. let none = none_left second task other in omega (arith, h, none))
    ] refl

-- ---- a whole run

-- what leaves in a second, with what left in it before
abbrev Keeps : ℕ → List TaskCall → Task → Type 0
Keeps second calls task = lefts_in second calls + left_in second task ≤ rate_of task

-- a call by which none leaves
still : (second : ℕ) (call : TaskCall) (calls : List TaskCall) (task : Task) → is_left_in second call ≡ false → Keeps second calls task → Keeps second (call ∷ calls) task
still second call calls task none h = let count = one_call second call calls ∙ ap (λ (b : Bool). cond b 1 0 + lefts_in second calls) none in omega (arith, h, count)

goes_on : (task mid after : Task) (calls : List TaskCall) → mid ≡ task → TaskRun mid calls after → TaskRun task calls after
goes_on task mid after calls e r = let P : Task → Type 0 = λ t. TaskRun t calls after in subst P e r

from_task : (second low : ℕ) (calls : List TaskCall) (task after : Task) → task.in_second ≤ rate_of task → task.second ≤ second_of low → TaskRun task calls after → NoLeaveFalls low calls → Keeps second calls task
from_task second low [] task after within le r h = let k = left_within second task within in omega (arith, k)
from_task second low (Left m ∷ calls) task after within le r h =
    let rest = from_task second m calls (with_left m task) after (left_allowed m task r.1.0) (omega arith) (goes_on (with_left m task) r.0 after calls r.1.1 r.2) h.1 in
    let now : task.second ≤ second_of m = let k = second_rises low m h.0 in omega (arith, le, k) in
    let sum = one_leave second m (lefts_in second calls) task within now rest (λ lt. none_before second m calls lt h.1) (second_of m == second) refl in
    let count = one_call second (Left m) calls in
    omega (arith, sum, count)
from_task second low (CameIn ∷ calls) task after within le r h =
    still second CameIn calls task refl (from_task second low calls (with_moved task) after within le (goes_on (with_moved task) r.0 after calls r.1.1 r.2) h)
from_task second low (CameBack ∷ calls) task after within le r h =
    still second CameBack calls task refl (from_task second low calls (with_back task) after within le (goes_on (with_back task) r.0 after calls r.1.1 r.2) h)
from_task second low (Dropped ∷ calls) task after within le r h =
    still second Dropped calls task refl (from_task second low calls (with_dropped task) after within le (goes_on (with_dropped task) r.0 after calls r.1.1 r.2) h)
from_task second low (Cancel ∷ calls) task after within le r h =
    let next = with_status cancelled_as task in
    still second Cancel calls task refl (from_task second low calls next after within le (goes_on next r.0 after calls r.1.1 r.2) h)
from_task second low (Finish ∷ calls) task after within le r h =
    let next = with_status finished_as task in
    still second Finish calls task refl (from_task second low calls next after within le (goes_on next r.0 after calls r.1.1 r.2) h)
from_task second low (Fail reason ∷ calls) task after within le r h =
    let next = with_status (failed_as reason) task in
    still second (Fail reason) calls task refl (from_task second low calls next after within le (goes_on next r.0 after calls r.1 r.2) h)

-- from one of which none left
pub rate_holds : (second : ℕ) (calls : List TaskCall) (task after : Task) → task.in_second ≡ 0 → task.second ≡ 0 → TaskRun task calls after → NoLeaveFalls 0 calls → lefts_in second calls ≤ rate_of task
rate_holds second calls task after none start r h = let k = from_task second 0 calls task after (omega (arith, none)) (omega (arith, start)) r h in omega (arith, k)
