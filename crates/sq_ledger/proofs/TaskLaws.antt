-- Tasks in order of their start: where one stands, what a change and a start leave, and how those of a source are found.
use Rattle.std.proofs.Common.{◌≡◌, ℕ, zero, suc, ◌+◌, ◌-◌, ◌<◌, ◌≤◌, Bool, true, false, not, cond, List, [], ◌∷◌, ◌++◌, length, map, take, Option, Some, None, refl, sym, ap, ◌∙◌, subst, inl, inr, arith}
use Rattle.std.specs.Prelude.{◌⊎◌, ◌==◌, ◌&&◌, if◌then◌else◌, find, filter, reverse, option_map, slice_get}
use Rattle.std.specs.Option.{option_or}
use Rattle.std.specs.List.{ItemBy, slice_set}
use Rattle.std.proofs.lemmas.Bool.{eqb-true}
use Rattle.std.proofs.lemmas.Grind.{common_steps}
use Rattle.std.proofs.lemmas.List.{append_assoc, map-append, reverse-append, take-append-le, append-nil}
use Rattle.std.proofs.lemmas.List.Elements.{filter-append}
use Rattle.std.proofs.lemmas.List.Sums.{sum_by-cons}
use Rattle.std.proofs.lemmas.Option.{slice_get-map, slice_get_past, slice_get_read}
use Rattle.std.proofs.Math.Seq.{take-append_seam}
use Rattle.sq_model.specs.declared.task.FailureReason.{FailureReason}
use Rattle.sq_model.specs.declared.task.Task.{Task}
use Rattle.sq_model.specs.declared.task.TaskStatus.{TaskStatus}
use Rattle.sq_model.specs.declared.task.TaskStatus.TheVariants.{Running, Completed, Cancelling, Cancelled, Failed}
use Rattle.sq_model.specs.Ledgers.{changed_task, is_of_source, is_task, TasksCount}
use Rattle.sq_model.specs.Tasks.{is_active, cancelled_as, failed_as, finished_as}
use Rattle.sq_laws.proofs.LedgerLists.{count_append, one_longer, some_same, tasks_append, tasks_changed}
use Rattle.sq_ledger.specs.declared.tasks.TaskChange.{TaskChange}
use Rattle.sq_ledger.specs.declared.tasks.TaskChange.TheVariants as to
use Rattle.sq_ledger.specs.declared.tasks.TaskRow.{TaskRow}
use Rattle.sq_ledger.specs.TaskIndexes.{AreTasks, MayChange, NamesBefore, changed_by, how_many_active, newest, task_number, task_in, tasks_from, tasks_in}

-- ---- where a task stands

is_same : (a b : ℕ) → a ≡ b → (a == b) ≡ true
is_same a b h = grind (arith, common_steps, h)

is_less : (a b : ℕ) → a < b → (a == b) ≡ false
is_less a b h = grind (arith, common_steps, h)

is_more : (a b : ℕ) → b < a → (a == b) ≡ false
is_more a b h = grind (arith, common_steps, h)

pub found_at : (number low : ℕ) (tasks : List Task) (index : ℕ) → TasksCount low tasks → low + index ≡ number → find (is_task number) tasks ≡ slice_get tasks index
found_at number low [] index count is = refl
found_at number low (x ∷ tasks) zero count is = rw (is_same x.number number (omega (arith, count.0, is))) refl
found_at number low (x ∷ tasks) (suc index) count is = rw (is_less x.number number (omega (arith, count.0, is))) (found_at number (low + 1) tasks index count.1 (omega (arith, is)))

pub number_at : (low : ℕ) (tasks : List Task) (index : ℕ) (task : Task) → TasksCount low tasks → slice_get tasks index ≡ Some task → task.number ≡ low + index
number_at low [] index task count there = absurd cc
number_at low (x ∷ tasks) zero task count there = subst (λ (t : Task). t.number ≡ low + 0) (some_same x task there) (omega (arith, count.0))
number_at low (x ∷ tasks) (suc index) task count there = let rest = number_at (low + 1) tasks index task count.1 there in omega (arith, rest)

-- ---- one task is changed

none_changed : (number low : ℕ) (f : Task → Task) (tasks : List Task) → number < low → TasksCount low tasks → changed_task number f tasks ≡ tasks
none_changed number low f [] lt count = refl
none_changed number low f (x ∷ tasks) lt count =
    rw (is_more x.number number (omega (arith, lt, count.0))) (ap (λ (r : List Task). x ∷ r) (none_changed number (low + 1) f tasks (omega (arith, lt)) count.1))

-- the row at a index, with another task
abbrev pub with_task : TaskRow → Task → TaskRow
with_task row task = record { task = task; before = row.before }

pub changed_at : (number low : ℕ) (f : Task → Task) (rows : List TaskRow) (index : ℕ) (row : TaskRow) → TasksCount low (tasks_in rows) → low + index ≡ number → slice_get rows index ≡ Some row
    → tasks_in (slice_set rows index (with_task row (f row.task))) ≡ changed_task number f (tasks_in rows)
changed_at number low f [] index row count is there = absurd cc
changed_at number low f (x ∷ rows) zero row count is there =
    let same : x ≡ row = some_same x row there in
    rw (is_same x.task.number number (omega (arith, count.0, is)), none_changed number (low + 1) f (tasks_in rows) (omega (arith, is)) count.1, same) refl
changed_at number low f (x ∷ rows) (suc index) row count is there =
    rw (is_less x.task.number number (omega (arith, count.0, is))) (ap (λ (r : List Task). x.task ∷ r) (changed_at number (low + 1) f rows index row count.1 (omega (arith, is)) there))

pub active_changed : (number low : ℕ) (f : Task → Task) (tasks : List Task) (index : ℕ) (task : Task) → TasksCount low tasks → low + index ≡ number → slice_get tasks index ≡ Some task
    → how_many_active (changed_task number f tasks) + cond (is_active task.status) 1 0 ≡ how_many_active tasks + cond (is_active (f task).status) 1 0
active_changed number low f [] index task count is there = absurd cc
active_changed number low f (x ∷ tasks) zero task count is there =
    let same : x ≡ task = some_same x task there in
    let a : Task → ℕ = λ t. cond (is_active t.status) 1 0 in
    rw (is_same x.number number (omega (arith, count.0, is)), none_changed number (low + 1) f tasks (omega (arith, is)) count.1, sum_by-cons a (f x) tasks, sum_by-cons a x tasks, same) (omega arith)
active_changed number low f (x ∷ tasks) (suc index) task count is there =
    let rest = active_changed number (low + 1) f tasks index task count.1 (omega (arith, is)) there in
    let a : Task → ℕ = λ t. cond (is_active t.status) 1 0 in
    rw (is_less x.number number (omega (arith, count.0, is)), sum_by-cons a x (changed_task number f tasks), sum_by-cons a x tasks) (omega (arith, rest))

over : (status : TaskStatus) → is_active status ≡ false → (is_active (cancelled_as status) ≡ false) × (is_active (finished_as status) ≡ false)
over Running h = (h, refl)
over Completed h = (refl, refl)
over Cancelling h = (h, refl)
over Cancelled h = (refl, refl)
over (Failed reason) h = (refl, refl)

over_failed : (reason : FailureReason) (status : TaskStatus) → is_active status ≡ false → is_active (failed_as reason status) ≡ false
over_failed reason Running h = refl
over_failed reason Completed h = refl
over_failed reason Cancelling h = refl
over_failed reason Cancelled h = refl
over_failed reason (Failed other) h = refl

-- one that is over stays so
pub stays_over : (change : TaskChange) (task : Task) → is_active task.status ≡ false → is_active (changed_by change task).status ≡ false
stays_over (to.Left m) task h = h
stays_over to.Entered task h = h
stays_over to.Back task h = h
stays_over to.Dropped task h = h
stays_over to.Cancelled task h = (over task.status h).0
stays_over to.Finished task h = (over task.status h).1
stays_over (to.Failed reason) task h = over_failed reason task.status h

-- and its number and its source stay
number_and_source : (change : TaskChange) (task : Task) → ((changed_by change task).number ≡ task.number) × ((changed_by change task).source ≡ task.source)
number_and_source (to.Left m) task = (refl, refl)
number_and_source to.Entered task = (refl, refl)
number_and_source to.Back task = (refl, refl)
number_and_source to.Dropped task = (refl, refl)
number_and_source to.Cancelled task = (refl, refl)
number_and_source to.Finished task = (refl, refl)
number_and_source (to.Failed reason) task = (refl, refl)

-- ---- the most recent task of a source

first_append : (ys : List Task) (t : Task) → option_map task_number (slice_get (ys ++ t ∷ []) 0) ≡ option_or (option_map task_number (slice_get ys 0)) (Some t.number)
first_append [] t = refl
first_append (y ∷ ys) t = refl

reversed : (t : Task) (ts : List Task) → reverse (t ∷ ts) ≡ reverse ts ++ t ∷ []
reversed t ts = reverse-append (t ∷ []) ts

first_reversed : (t : Task) (ts : List Task) → option_map task_number (slice_get (reverse (t ∷ ts)) 0) ≡ option_or (option_map task_number (slice_get (reverse ts) 0)) (Some t.number)
first_reversed t ts = ap (λ (l : List Task). option_map task_number (slice_get l 0)) (reversed t ts) ∙ first_append (reverse ts) t

or_none : (o : Option ℕ) → option_or o None ≡ o
or_none None = refl
or_none (Some n) = refl

newest_cons : (source : ℕ) (t : Task) (ts : List Task) → newest source (t ∷ ts) ≡ option_or (newest source ts) (if is_of_source source t then Some t.number else None)
newest_cons source t ts =
    elim (is_of_source source t) as (λ b. option_map task_number (slice_get (reverse (cond b (t ∷ filter (is_of_source source) ts) (filter (is_of_source source) ts))) 0) ≡ option_or (newest source ts) (if b then Some t.number else None)) [
      | true ↦ first_reversed t (filter (is_of_source source) ts)
      | false ↦ sym (or_none (newest source ts))
    ]

if_or : (b : Bool) (n : ℕ) (o z : Option ℕ) → option_or (if b then Some n else o) z ≡ (if b then Some n else option_or o z)
if_or true n o z = refl
if_or false n o z = refl

pub newest_push : (source : ℕ) (ts : List Task) (t : Task) → newest source (ts ++ t ∷ []) ≡ (if is_of_source source t then Some t.number else newest source ts)
newest_push source [] t = newest_cons source t []
newest_push source (x ∷ ts) t =
    let z : Option ℕ = if is_of_source source x then Some x.number else None in
    newest_cons source x (ts ++ t ∷ []) ∙ ap (λ (o : Option ℕ). option_or o z) (newest_push source ts t) ∙ if_or (is_of_source source t) t.number (newest source ts) z
    ∙ ap (λ (o : Option ℕ). if is_of_source source t then Some t.number else o) (sym (newest_cons source x ts))

pub newest_changed : (source number : ℕ) (change : TaskChange) (ts : List Task) → newest source (changed_task number (changed_by change) ts) ≡ newest source ts
newest_changed source number change [] = refl
newest_changed source number change (x ∷ ts) =
    let y : Task = if is_task number x then changed_by change x else x in
    let same : (if is_of_source source y then Some y.number else None) ≡ (if is_of_source source x then Some x.number else None) =
    elim (is_task number x) as (λ b. (if is_of_source source (if b then changed_by change x else x) then Some (if b then changed_by change x else x).number else None) ≡ (if is_of_source source x then Some x.number else None)) [
      | true ↦ rw ((number_and_source change x).0, (number_and_source change x).1) refl
      | false ↦ refl
    ] in
    newest_cons source y (changed_task number (changed_by change) ts) ∙ ap (λ (o : Option ℕ). option_or o (if is_of_source source y then Some y.number else None)) (newest_changed source number change ts)
    ∙ ap (λ (o : Option ℕ). option_or (newest source ts) o) same ∙ sym (newest_cons source x ts)

pub from_push : (source : ℕ) (ts : List Task) (t : Task) → tasks_from source (ts ++ t ∷ []) ≡ (if is_of_source source t then t ∷ tasks_from source ts else tasks_from source ts)
from_push source ts t =
    ap (λ (l : List Task). reverse l) (filter-append (is_of_source source) ts (t ∷ []))
    ∙ elim (is_of_source source t) as (λ b. reverse (filter (is_of_source source) ts ++ cond b (t ∷ []) []) ≡ (if b then t ∷ tasks_from source ts else tasks_from source ts)) [
      | true ↦ reverse-append (filter (is_of_source source) ts) (t ∷ [])
      | false ↦ ap (λ (l : List Task). reverse l) (append-nil (filter (is_of_source source) ts))
    ]

-- ---- from a task to the one before it

more : (k : ℕ) (ts : List Task) → k < length ts → (t : Task) × (slice_get ts k ≡ Some t) × (take (suc k) ts ≡ take k ts ++ t ∷ [])
more k [] lt = absurd (omega (arith, lt))
more zero (x ∷ ts) lt = (x, refl, refl)
more (suc k) (x ∷ ts) lt = let rest = more k ts (omega (arith, lt)) in (rest.0, rest.1, ap (λ (r : List Task). x ∷ r) rest.2)

-- the most recent one of the first tasks stands at its index, and those before it come after it
pub record IsFirstOf (source number : ℕ) (tasks first : List Task) : Type 0 where
  pub index : ℕ
  pub task : Task
  pub is : index + 1 ≡ number
  pub there : slice_get tasks index ≡ Some task
  pub within : index < length tasks
  pub of_source : task.source.number ≡ source
  pub rest : tasks_from source first ≡ task ∷ tasks_from source (take index tasks)

pub chain : (source : ℕ) (tasks : List Task) (k number : ℕ) → TasksCount 1 tasks → k ≤ length tasks → newest source (take k tasks) ≡ Some number → IsFirstOf source number tasks (take k tasks)
chain source tasks zero number count le is = absurd cc
chain source tasks (suc k) number count le is =
    let next = more k tasks (omega (arith, le)) in
    let t : Task = next.0 in
    let newer : (if is_of_source source t then Some t.number else newest source (take k tasks)) ≡ Some number = sym (newest_push source (take k tasks) t) ∙ ap (λ (l : List Task). newest source l) (sym next.2) ∙ is in
    let all : tasks_from source (take (suc k) tasks) ≡ (if is_of_source source t then t ∷ tasks_from source (take k tasks) else tasks_from source (take k tasks)) = ap (λ (l : List Task). tasks_from source l) next.2 ∙ from_push source (take k tasks) t in
    elim (is_of_source source t) as (λ b. is_of_source source t ≡ b → (if b then Some t.number else newest source (take k tasks)) ≡ Some number
    → tasks_from source (take (suc k) tasks) ≡ (if b then t ∷ tasks_from source (take k tasks) else tasks_from source (take k tasks)) → IsFirstOf source number tasks (take (suc k) tasks)) [
      | true ↦ (λ e n a. let at = number_at 1 tasks k t count next.1 in let same : t.number ≡ number = cc in
          record { index = k; task = t; is = omega (arith, at, same); there = next.1; within = omega (arith, le); of_source = eqb-true t.source.number source e; rest = a })
      | false ↦ (λ e n a. let r = chain source tasks k number count (omega (arith, le)) n in
          record { index = r.index; task = r.task; is = r.is; there = r.there; within = r.within; of_source = r.of_source; rest = a ∙ r.rest })
    ] refl newer all

-- where there is none, there are no tasks of the source
pub none_left : (tasks : List Task) → option_map task_number (slice_get tasks 0) ≡ None → tasks ≡ []
none_left [] h = refl
none_left (x ∷ tasks) h = absurd cc

-- ---- what is kept

pub get_map : (rows : List TaskRow) (index : ℕ) (row : TaskRow) → slice_get rows index ≡ Some row → slice_get (tasks_in rows) index ≡ Some row.task
get_map [] index row h = absurd cc
get_map (x ∷ rows) zero row h = ap (λ (r : TaskRow). Some r.task) (some_same x row h)
get_map (x ∷ rows) (suc index) row h = get_map rows index row h

get_set : (rows : List TaskRow) (index k : ℕ) (row old z : TaskRow) → slice_get rows index ≡ Some old → slice_get (slice_set rows index row) k ≡ Some z → (slice_get rows k ≡ Some z) ⊎ ((k ≡ index) × (row ≡ z))
get_set [] index k row old z h g = absurd cc
get_set (x ∷ rows) zero zero row old z h g = inr (refl, some_same row z g)
get_set (x ∷ rows) zero (suc k) row old z h g = inl g
get_set (x ∷ rows) (suc index) zero row old z h g = inl g
get_set (x ∷ rows) (suc index) (suc k) row old z h g = elim (get_set rows index k row old z h g) [ inl p ↦ inl p | inr p ↦ inr (ap suc p.0, p.1) ]

take_map : (g : Task → Task) (n : ℕ) (xs : List Task) → take n (map g xs) ≡ map g (take n xs)
take_map g zero xs = refl
take_map g (suc n) [] = refl
take_map g (suc n) (x ∷ xs) = ap (λ (r : List Task). g x ∷ r) (take_map g n xs)

before_changed : (number : ℕ) (change : TaskChange) (rows : List TaskRow) (index : ℕ) (row : TaskRow) → TasksCount 1 (tasks_in rows) → 1 + index ≡ number → slice_get rows index ≡ Some row → NamesBefore rows
    → NamesBefore (slice_set rows index (with_task row (changed_by change row.task)))
before_changed number change rows index row count is there before k z g =
    let all : tasks_in (slice_set rows index (with_task row (changed_by change row.task))) ≡ changed_task number (changed_by change) (tasks_in rows) = changed_at number 1 (changed_by change) rows index row count is there in
    let same : (source : ℕ) → newest source (take k (tasks_in (slice_set rows index (with_task row (changed_by change row.task))))) ≡ newest source (take k (tasks_in rows)) =
    λ source. ap (λ (l : List Task). newest source (take k l)) all ∙ ap (λ (l : List Task). newest source l) (take_map _ k (tasks_in rows)) ∙ newest_changed source number change (take k (tasks_in rows)) in
    elim (get_set rows index k (with_task row (changed_by change row.task)) row z there g) [
      | inl p ↦ before k z p ∙ sym (same z.task.source.number)
      | inr p ↦
          let old : row.before ≡ newest row.task.source.number (take k (tasks_in rows)) = before k row (subst (λ (n : ℕ). slice_get rows n ≡ Some row) (sym p.0) there) in
          let source : z.task.source.number ≡ row.task.source.number = ap (λ (r : TaskRow). r.task.source.number) (sym p.1) ∙ ap (λ s. s.number) (number_and_source change row.task).1 in
          ap (λ (r : TaskRow). r.before) (sym p.1) ∙ old ∙ ap (λ (n : ℕ). newest n (take k (tasks_in rows))) (sym source) ∙ sym (same z.task.source.number)
    ]

falls : (a b : Bool) → (a ≡ false → b ≡ false) → (m n : ℕ) → m + cond a 1 0 ≡ n + cond b 1 0 → m + cond (a && not b) 1 0 ≡ n
falls true true o m n e = omega (arith, e)
falls true false o m n e = omega (arith, e)
falls false b o m n e = let none = o refl in omega (arith, (rw none at e))

-- there is one fewer that is active, where the task was and is not any more
pub fell : (number : ℕ) (change : TaskChange) (rows : List TaskRow) (index : ℕ) (row : TaskRow) (last : ℕ → Option ℕ) (old : ℕ) → AreTasks rows last old → index + 1 ≡ number → slice_get rows index ≡ Some row
    → how_many_active (changed_task number (changed_by change) (tasks_in rows)) + cond (is_active row.task.status && not (is_active (changed_by change row.task).status)) 1 0 ≡ old
fell number change rows index row last old kept is there =
    let count = active_changed number 1 (changed_by change) (tasks_in rows) index row.task kept.count (omega (arith, is)) (get_map rows index row there) in
    falls _ _ (stays_over change row.task) _ _ count ∙ sym kept.active

pub tasks_kept : (number : ℕ) (change : TaskChange) (rows : List TaskRow) (index : ℕ) (row : TaskRow) (last : ℕ → Option ℕ) (old new : ℕ) → AreTasks rows last old → index + 1 ≡ number → slice_get rows index ≡ Some row
    → new + cond (is_active row.task.status && not (is_active (changed_by change row.task).status)) 1 0 ≡ old
    → AreTasks (slice_set rows index (with_task row (changed_by change row.task))) last new
tasks_kept number change rows index row last old new kept is there how =
    let all : tasks_in (slice_set rows index (with_task row (changed_by change row.task))) ≡ changed_task number (changed_by change) (tasks_in rows) = changed_at number 1 (changed_by change) rows index row kept.count (omega (arith, is)) there in
    let fewer = fell number change rows index row last old kept is there in
    record {
      count = rw all (tasks_changed number 1 (changed_by change) (tasks_in rows) (λ task. (number_and_source change task).0) kept.count);
      before = before_changed number change rows index row kept.count (omega (arith, is)) there kept.before;
      last = λ source. kept.last source ∙ sym (ap (λ (l : List Task). newest source l) all ∙ newest_changed source number change (tasks_in rows));
      active = rw all (omega (arith, how, fewer));
    }

one_of : (m n : ℕ) (b : Bool) → true ≡ b → m + cond b 1 0 ≡ n → 1 ≤ n
one_of m n true e h = omega (arith, h)
one_of m n false e h = absurd cc

pub one_less : (n : ℕ) (b : Bool) → true ≡ b → 1 ≤ n → (n - 1) + cond b 1 0 ≡ n
one_less n true e h = omega (arith, h)
one_less n false e h = absurd cc

pub as_many : (n : ℕ) (b : Bool) → false ≡ b → n + cond b 1 0 ≡ n
as_many n true e = absurd cc
as_many n false e = omega arith

pub one_active : (number : ℕ) (change : TaskChange) (rows : List TaskRow) (index : ℕ) (row : TaskRow) (last : ℕ → Option ℕ) (old : ℕ) → AreTasks rows last old → index + 1 ≡ number → slice_get rows index ≡ Some row
    → true ≡ (is_active row.task.status && not (is_active (changed_by change row.task).status)) → 1 ≤ old
one_active number change rows index row last old kept is there ends =
    let fewer = fell number change rows index row last old kept is there in
    one_of _ old (is_active row.task.status && not (is_active (changed_by change row.task).status)) ends fewer

-- what is lent of a index is the row that stands there
pub read_row : {R : Type 0} (now : R → TaskRow) (rows : List TaskRow) (index : ℕ) (lent : Option R) → ItemBy now rows index index lent → option_map now lent ≡ slice_get rows index
read_row {R} now rows index None h = sym (slice_get_past rows index h.3)
read_row {R} now rows index (Some x) h = sym (slice_get_read rows (length rows) index (now x) refl h.3.0 h.1)

-- ---- one more

get_push : (rows : List TaskRow) (row : TaskRow) (k : ℕ) (z : TaskRow) → slice_get (rows ++ row ∷ []) k ≡ Some z → ((k ≤ length (tasks_in rows)) × (slice_get rows k ≡ Some z)) ⊎ ((k ≡ length (tasks_in rows)) × (row ≡ z))
get_push [] row zero z g = inr (refl, some_same row z g)
get_push [] row (suc k) z g = absurd cc
get_push (x ∷ rows) row zero z g = inl (omega arith, g)
get_push (x ∷ rows) row (suc k) z g = elim (get_push rows row k z g) [ inl p ↦ inl (omega (arith, p.0), p.1) | inr p ↦ inr (ap suc p.0, p.1) ]

pub tasks_push : (rows : List TaskRow) (row : TaskRow) → tasks_in (rows ++ row ∷ []) ≡ tasks_in rows ++ row.task ∷ []
tasks_push rows row = map-append task_in rows (row ∷ [])

before_push : (rows : List TaskRow) (row : TaskRow) → row.before ≡ newest row.task.source.number (tasks_in rows) → NamesBefore rows → NamesBefore (rows ++ row ∷ [])
before_push rows row is before k z g =
    let all = tasks_push rows row in
    elim (get_push rows row k z g) [
      | inl p ↦ before k z p.1 ∙ ap (λ (l : List Task). newest z.task.source.number l) (sym (ap (λ (l : List Task). take k l) all ∙ take-append-le k (tasks_in rows) (row.task ∷ []) p.0))
      | inr p ↦
          let first : take k (tasks_in (rows ++ row ∷ [])) ≡ tasks_in rows = ap (λ (l : List Task). take k l) all ∙ ap (λ (n : ℕ). take n (tasks_in rows ++ row.task ∷ [])) p.0 ∙ take-append_seam (tasks_in rows) (row.task ∷ []) in
          subst (λ (r : TaskRow). r.before ≡ newest r.task.source.number (take k (tasks_in (rows ++ row ∷ [])))) p.1 (is ∙ ap (λ (l : List Task). newest row.task.source.number l) (sym first))
    ]

-- ---- the row of a number

pub found_row : (number : ℕ) (rows : List TaskRow) (index : ℕ) (row : TaskRow) → TasksCount 1 (tasks_in rows) → index + 1 ≡ number → slice_get rows index ≡ Some row → find (is_task number) (tasks_in rows) ≡ Some row.task
found_row number rows index row count is there = found_at number 1 (tasks_in rows) index count (omega (arith, is)) ∙ get_map rows index row there

pub no_row : (number : ℕ) (rows : List TaskRow) (index : ℕ) → TasksCount 1 (tasks_in rows) → index + 1 ≡ number → length rows ≤ index → find (is_task number) (tasks_in rows) ≡ None
no_row number rows index count is past =
    found_at number 1 (tasks_in rows) index count (omega (arith, is)) ∙ slice_get-map task_in rows index ∙ ap (λ (o : Option TaskRow). option_map task_in o) (slice_get_past rows index past)

-- ---- a task starts

pub started : (rows : List TaskRow) (row : TaskRow) (last new : ℕ → Option ℕ) (active number : ℕ) → AreTasks rows last active → row.task.number ≡ number → number ≡ length (tasks_in rows) + 1
    → row.before ≡ newest row.task.source.number (tasks_in rows) → is_active row.task.status ≡ true → ((source : ℕ) → new source ≡ cond (row.task.source.number == source) (Some number) (last source)) → AreTasks (rows ++ row ∷ []) new (active + 1)
started rows row last new active number kept is next before starts updates =
    let all = tasks_push rows row in
    record {
      count = rw all (tasks_append 1 (tasks_in rows) row.task kept.count (omega (arith, is, next)));
      before = before_push rows row before kept.before;
      last = λ source. updates source ∙ rw (kept.last source, ← is) refl ∙ sym (ap (λ (l : List Task). newest source l) all ∙ newest_push source (tasks_in rows) row.task);
      active = let count = count_append (λ (t : Task). is_active t.status) (tasks_in rows) row.task in let was = kept.active in rw (all, count, starts) (omega (arith, was));
    }

-- the task of a number may be changed as it was asked
pub may_change : (number : ℕ) (change : TaskChange) (rows : List TaskRow) (index : ℕ) (row : TaskRow) → TasksCount 1 (tasks_in rows) → index + 1 ≡ number → slice_get rows index ≡ Some row
    → (task : Task) × (find (is_task number) (tasks_in rows) ≡ Some task) × MayChange change task → MayChange change row.task
may_change number change rows index row count is there may =
    let same : may.0 ≡ row.task = some_same may.0 row.task (sym may.1 ∙ found_row number rows index row count is there) in
    subst (λ (t : Task). MayChange change t) same may.2

pub no_task : (number : ℕ) (rows : List TaskRow) (index : ℕ) → TasksCount 1 (tasks_in rows) → index + 1 ≡ number → slice_get rows index ≡ None → find (is_task number) (tasks_in rows) ≡ None
no_task number rows index count is none =
    found_at number 1 (tasks_in rows) index count (omega (arith, is)) ∙ slice_get-map task_in rows index ∙ ap (λ (o : Option TaskRow). option_map task_in o) none

-- ---- the tasks of a source are listed

take_whole : (n : ℕ) (xs : List Task) → length xs ≤ n → take n xs ≡ xs
take_whole zero [] le = refl
take_whole zero (x ∷ xs) le = absurd (omega (arith, le))
take_whole (suc n) [] le = refl
take_whole (suc n) (x ∷ xs) le = ap (λ (r : List Task). x ∷ r) (take_whole n xs (omega (arith, le)))

-- all are listed where none is next
pub listed_all : (source first most : ℕ) (tasks listed : List Task) → newest source (take first tasks) ≡ None → tasks_from source tasks ≡ listed ++ tasks_from source (take first tasks) → length listed ≤ most
    → listed ≡ take most (tasks_from source tasks)
listed_all source first most tasks listed none all le =
    let whole : tasks_from source tasks ≡ listed = all ∙ ap (λ (r : List Task). listed ++ r) (none_left (tasks_from source (take first tasks)) none) ∙ append-nil listed in
    sym (ap (λ (l : List Task). take most l) whole ∙ take_whole most listed le)

-- and else as many as were asked for
pub listed_most : (source most : ℕ) (tasks listed rest : List Task) → tasks_from source tasks ≡ listed ++ rest → length listed ≡ most → listed ≡ take most (tasks_from source tasks)
listed_most source most tasks listed rest all is =
    sym (ap (λ (l : List Task). take most l) all ∙ ap (λ (n : ℕ). take n (listed ++ rest)) (sym is) ∙ take-append_seam listed rest)

as_many_rows : (rows : List TaskRow) → length (tasks_in rows) ≡ length rows
as_many_rows [] = refl
as_many_rows (x ∷ rows) = ap suc (as_many_rows rows)

pub is_next : (source first number index : ℕ) (rows : List TaskRow) → TasksCount 1 (tasks_in rows) → index + 1 ≡ number → first ≤ length (tasks_in rows) → newest source (take first (tasks_in rows)) ≡ Some number → index < length rows
is_next source first number index rows count is le next =
    let r = chain source (tasks_in rows) first number count le next in
    let a = r.is in let b = r.within in let c = as_many_rows rows in omega (arith, is, a, b, c)

-- one more is listed, and the one before it is next
pub goes_on : (source first number index : ℕ) (rows : List TaskRow) (row : TaskRow) (last : ℕ → Option ℕ) (active : ℕ) (listed new : List Task) → AreTasks rows last active → index + 1 ≡ number → first ≤ length (tasks_in rows)
    → newest source (take first (tasks_in rows)) ≡ Some number → slice_get rows index ≡ Some row → tasks_from source (tasks_in rows) ≡ listed ++ tasks_from source (take first (tasks_in rows)) → new ≡ listed ++ row.task ∷ []
    → (index ≤ length (tasks_in rows)) × (row.before ≡ newest source (take index (tasks_in rows))) × (tasks_from source (tasks_in rows) ≡ new ++ tasks_from source (take index (tasks_in rows)))
goes_on source first number index rows row last active listed new kept is le next there all pushed =
    let tasks = tasks_in rows in
    let r = chain source tasks first number kept.count le next in
    let a = r.is in
    let at : r.index ≡ index = omega (arith, is, a) in
    let same : r.task ≡ row.task = some_same r.task row.task (sym r.there ∙ ap (λ (n : ℕ). slice_get tasks n) at ∙ get_map rows index row there) in
    let of_source : row.task.source.number ≡ source = ap (λ (t : Task). t.source.number) (sym same) ∙ r.of_source in
    let within = r.within in
    let rest : tasks_from source (take first tasks) ≡ row.task ∷ tasks_from source (take index tasks) = r.rest ∙ ap (λ (t : Task). t ∷ tasks_from source (take r.index tasks)) same ∙ ap (λ (n : ℕ). row.task ∷ tasks_from source (take n tasks)) at in (
      omega (arith, within, at),
      kept.before index row there ∙ ap (λ (n : ℕ). newest n (take index tasks)) of_source,
      all ∙ ap (λ (l : List Task). listed ++ l) rest ∙ sym (append_assoc listed (row.task ∷ []) (tasks_from source (take index tasks))) ∙ ap (λ (l : List Task). l ++ tasks_from source (take index tasks)) (sym pushed),
    )

pub pushed_length : (listed new : List Task) (task : Task) (n : ℕ) → length listed ≡ n → new ≡ listed ++ task ∷ [] → length new ≡ n + 1
pushed_length listed new task n is pushed = ap (λ (l : List Task). length l) pushed ∙ one_longer listed task ∙ ap (λ (k : ℕ). k + 1) is

-- ---- the most recent task of a source

pub last_found : (source number : ℕ) (tasks : List Task) → TasksCount 1 tasks → newest source tasks ≡ Some number → find (is_task number) tasks ≡ slice_get (tasks_from source tasks) 0
last_found source number tasks count is =
    let whole : take (length tasks) tasks ≡ tasks = take_whole (length tasks) tasks (omega arith) in
    let r = chain source tasks (length tasks) number count (omega arith) (ap (λ (l : List Task). newest source l) whole ∙ is) in
    let index = r.is in
    found_at number 1 tasks r.index count (omega (arith, index)) ∙ r.there
    ∙ sym (ap (λ (l : List Task). slice_get (tasks_from source l) 0) (sym whole) ∙ ap (λ (l : List Task). slice_get l 0) r.rest)
