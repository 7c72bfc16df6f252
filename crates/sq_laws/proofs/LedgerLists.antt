-- Lists of items and of tasks, as one of a number is put in, changed or taken out.
use Rattle.std.proofs.Common.{◌≡◌, ℕ, zero, suc, ◌+◌, ◌<◌, ◌≤◌, Bool, true, false, not, cond, List, [], ◌∷◌, ◌++◌, length, map, refl, sym, ap, ◌∙◌, subst, arith, Some, slice_get, slice_set}
use Rattle.std.specs.Prelude.{◌==◌, count_by, filter, find, if◌then◌else◌}
use Rattle.std.specs.List.{AllByRecursion}
use Rattle.std.proofs.lemmas.Grind.{common_steps}
use Rattle.std.proofs.lemmas.Bool.{eqb-true}
use Rattle.std.proofs.lemmas.List.Sums.{sum_by-cons, sum_by_push}
use Rattle.sq_model.specs.declared.item.Item.{Item}
use Rattle.sq_model.specs.declared.item.Reason.{Reason}
use Rattle.sq_model.specs.declared.item.Reason.TheVariants.{DeadLetter, Task as ForTask, Drain}
use Rattle.sq_model.specs.declared.task.Task.{Task}
use Rattle.sq_model.specs.Ledgers.{has_number, items_without, is_task, is_for, in_transit, changed_task, turned_if, turned, ItemsRise, TasksCount}

pub not_same : (a b : ℕ) → a < b → (b == a) ≡ false
not_same a b h = grind (arith, common_steps)

not_it : (a b : ℕ) → a < b → (a == b) ≡ false
not_it a b h = grind (arith, common_steps)

not_low : (a b : ℕ) → (a == b) ≡ false → a ≤ b → a < b
not_low a b e h = grind (arith, common_steps)

pub some_same : {X : Type 0} (a b : X) → Some a ≡ Some b → a ≡ b
some_same {X} a b e = cc

-- ---- lists of any kind

module _ {X : Type 0} where
  pub all_append : (P : X → Type 0) (xs : List X) (y : X) → AllByRecursion P xs → P y → AllByRecursion P (xs ++ y ∷ [])
  all_append P [] y h p = (p, tt)
  all_append P (x ∷ xs) y h p = (h.0, all_append P xs y h.1 p)

  pub all_with : (P Q : X → Type 0) (xs : List X) → ((x : X) → P x → Q x) → AllByRecursion P xs → AllByRecursion Q xs
  all_with P Q [] f h = tt
  all_with P Q (x ∷ xs) f h = (f x h.0, all_with P Q xs f h.1)

  pub all_filtered : (P : X → Type 0) (keep : X → Bool) (xs : List X) → AllByRecursion P xs → AllByRecursion P (filter keep xs)
  all_filtered P keep [] h = tt
  all_filtered P keep (x ∷ xs) h = elim (keep x) as (λ b. AllByRecursion P (cond b (x ∷ filter keep xs) (filter keep xs))) [ true ↦ (h.0, all_filtered P keep xs h.1) | false ↦ all_filtered P keep xs h.1 ]

  pub all_mapped : (P Q : X → Type 0) (f : X → X) (xs : List X) → ((x : X) → P x → Q (f x)) → AllByRecursion P xs → AllByRecursion Q (map f xs)
  all_mapped P Q f [] g h = tt
  all_mapped P Q f (x ∷ xs) g h = (g x h.0, all_mapped P Q f xs g h.1)

  -- one that is found holds what all do
  pub found_of_all : (P : X → Type 0) (test : X → Bool) (xs : List X) (x : X) → AllByRecursion P xs → find test xs ≡ Some x → P x
  found_of_all P test [] x h e = absurd cc
  found_of_all P test (y ∷ xs) x h e =
      elim (test y) as (λ b. cond b (Some y) (find test xs) ≡ Some x → P x) [
        | true ↦ (λ f. subst P (some_same y x f) h.0)
        | false ↦ (λ f. found_of_all P test xs x h.1 f)
      ] e

  -- one at an index, and one that is put there
  pub all_get : (P : X → Type 0) (xs : List X) (i : ℕ) (x : X) → slice_get xs i ≡ Some x → AllByRecursion P xs → P x
  all_get P [] i x e h = absurd cc
  all_get P (y ∷ xs) zero x e h = subst P (some_same y x e) h.0
  all_get P (y ∷ xs) (suc i) x e h = all_get P xs i x e h.1

  pub all_set : (P : X → Type 0) (xs : List X) (i : ℕ) (new : X) → P new → AllByRecursion P xs → AllByRecursion P (slice_set xs i new)
  all_set P [] i new p h = tt
  all_set P (x ∷ xs) zero new p h = (p, h.1)
  all_set P (x ∷ xs) (suc i) new p h = (h.0, all_set P xs i new p h.1)

  pub filtered_length : (keep : X → Bool) (xs : List X) → length (filter keep xs) ≤ length xs
  filtered_length keep [] = omega arith
  filtered_length keep (x ∷ xs) = let r = filtered_length keep xs in elim (keep x) as (λ b. length (cond b (x ∷ filter keep xs) (filter keep xs)) ≤ suc (length xs)) [ true ↦ omega (arith, r) | false ↦ omega (arith, r) ]

  pub mapped_length : (f : X → X) (xs : List X) → length (map f xs) ≡ length xs
  mapped_length f [] = refl
  mapped_length f (x ∷ xs) = ap suc (mapped_length f xs)

  pub one_longer : (xs : List X) (y : X) → length (xs ++ y ∷ []) ≡ length xs + 1
  one_longer [] y = refl
  one_longer (x ∷ xs) y = let r = one_longer xs y in omega (arith, r)

  pub count_append : (p : X → Bool) (xs : List X) (y : X) → count_by p (xs ++ y ∷ []) ≡ count_by p xs + cond (p y) 1 0
  count_append p xs y = sum_by_push (λ x. cond (p x) 1 0) xs y

-- ---- items

pub rise_append : (low : ℕ) (items : List Item) (item : Item) (next : ℕ) → ItemsRise low items next → item.number ≡ next → ItemsRise low (items ++ item ∷ []) (next + 1)
rise_append low [] item next h e = (omega (arith, h, e), omega (arith, e))
rise_append low (x ∷ items) item next h e = (h.0, rise_append (x.number + 1) items item next h.1 e)

rise_from : (low lower : ℕ) (items : List Item) (next : ℕ) → lower ≤ low → ItemsRise low items next → ItemsRise lower items next
rise_from low lower [] next le h = omega (arith, le, h)
rise_from low lower (x ∷ items) next le h = (omega (arith, le, h.0), h.1)

pub items_low : (low : ℕ) (items : List Item) (next : ℕ) → ItemsRise low items next → low ≤ next
items_low low [] next h = h
items_low low (x ∷ items) next h = let r = items_low (x.number + 1) items next h.1 in omega (arith, r, h.0)

pub rise_without : (number low : ℕ) (items : List Item) (next : ℕ) → ItemsRise low items next → ItemsRise low (items_without number items) next
rise_without number low [] next h = h
rise_without number low (x ∷ items) next h =
    elim (has_number number x) as (λ b. ItemsRise low (cond (not b) (x ∷ items_without number items) (items_without number items)) next) [
      | true ↦ rise_from (x.number + 1) low (items_without number items) next (omega (arith, h.0)) (rise_without number (x.number + 1) items next h.1)
      | false ↦ (h.0, rise_without number (x.number + 1) items next h.1)
    ]

turned_number : (number : ℕ) (item : Item) → (turned_if number item).number ≡ item.number
turned_number number item = elim (has_number number item) as (λ b. (if b then turned item else item).number ≡ item.number) [ true ↦ refl | false ↦ refl ]

pub turned_reason : (number : ℕ) (item : Item) → (turned_if number item).reason ≡ item.reason
turned_reason number item = elim (has_number number item) as (λ b. (if b then turned item else item).reason ≡ item.reason) [ true ↦ refl | false ↦ refl ]

pub turned_row : (number : ℕ) (item : Item) → (turned_if number item).row ≡ item.row
turned_row number item = elim (has_number number item) as (λ b. (if b then turned item else item).row ≡ item.row) [ true ↦ refl | false ↦ refl ]

pub rise_turned : (number low : ℕ) (items : List Item) (next : ℕ) → ItemsRise low items next → ItemsRise low (map (turned_if number) items) next
rise_turned number low [] next h = h
rise_turned number low (x ∷ items) next h = rw (turned_number number x) (h.0, rise_turned number (x.number + 1) items next h.1)

-- no item from a higher number on has a lower one
rise_above : (number low : ℕ) (items : List Item) (next : ℕ) → number < low → ItemsRise low items next → items_without number items ≡ items
rise_above number low [] next lt h = refl
rise_above number low (x ∷ items) next lt h =
    rw (not_same number x.number (omega (arith, lt, h.0))) (ap (λ (r : List Item). x ∷ r) (rise_above number (x.number + 1) items next (omega (arith, lt, h.0)) h.1))

-- of a kind there is one less, where the item that goes is of it
pub count_without : (p : Item → Bool) (low : ℕ) (items : List Item) (next : ℕ) (item : Item) → ItemsRise low items next → find (has_number item.number) items ≡ Some item
    → count_by p (items_without item.number items) + cond (p item) 1 0 ≡ count_by p items
count_without p low [] next item h e = absurd cc
count_without p low (x ∷ items) next item h e =
    elim (has_number item.number x) as (λ b. has_number item.number x ≡ b → cond b (Some x) (find (has_number item.number) items) ≡ Some item
    → count_by p (cond (not b) (x ∷ items_without item.number items) (items_without item.number items)) + cond (p item) 1 0 ≡ count_by p (x ∷ items)) [
      | true ↦ (λ n f. let same : x ≡ item = some_same x item f in
          let rest : items_without item.number items ≡ items = rise_above item.number (x.number + 1) items next (subst (λ (y : Item). item.number < y.number + 1) (sym same) (omega arith)) h.1 in
          rw (rest, sum_by-cons (λ y. cond (p y) 1 0) x items, same) (omega arith))
      | false ↦ (λ n f. let r = count_without p (x.number + 1) items next item h.1 f in
          rw (sum_by-cons (λ y. cond (p y) 1 0) x (items_without item.number items), sum_by-cons (λ y. cond (p y) 1 0) x items) (omega (arith, r)))
    ] refl e

-- of a kind that turning leaves there are as many, where an item is turned
pub count_turned : (p : Item → Bool) (number : ℕ) (items : List Item) → ((item : Item) → p (turned_if number item) ≡ p item) → count_by p (map (turned_if number) items) ≡ count_by p items
count_turned p number [] k = refl
count_turned p number (x ∷ items) k =
    rw (sum_by-cons (λ y. cond (p y) 1 0) (turned_if number x) (map (turned_if number) items), sum_by-cons (λ y. cond (p y) 1 0) x items, k x, count_turned p number items k) refl

-- the task of an item is one of those below the next one
abbrev pub HasStarted : ℕ → Item → Type 0
HasStarted next item = (number : ℕ) → item.reason ≡ ForTask number → (1 ≤ number) × (number < next)

none_for : (task : ℕ) (reason : Reason) → ((number : ℕ) → reason ≡ ForTask number → (1 ≤ number) × (number < task)) → is_for task reason ≡ false
none_for task DeadLetter h = refl
none_for task Drain h = refl
none_for task (ForTask number) h = not_it number task (h number refl).1

-- none of a task that was not started yet
pub none_started : (task : ℕ) (items : List Item) → AllByRecursion (HasStarted task) items → in_transit task items ≡ 0
none_started task [] h = refl
none_started task (x ∷ items) h =
    let f : Item → ℕ = λ y. cond (is_for task y.reason) 1 0 in
    rw (sum_by-cons f x items, none_for task x.reason h.0, none_started task items h.1) refl

-- ---- tasks

pub tasks_append : (low : ℕ) (tasks : List Task) (task : Task) → TasksCount low tasks → task.number ≡ low + length tasks → TasksCount low (tasks ++ task ∷ [])
tasks_append low [] task h e = (omega (arith, e), tt)
tasks_append low (x ∷ tasks) task h e = (h.0, tasks_append (low + 1) tasks task h.1 (omega (arith, e)))

-- a change that leaves the number
abbrev pub KeepsNumber : (Task → Task) → Type 0
KeepsNumber f = (task : Task) → (f task).number ≡ task.number

pub tasks_changed : (number low : ℕ) (f : Task → Task) (tasks : List Task) → KeepsNumber f → TasksCount low tasks → TasksCount low (changed_task number f tasks)
tasks_changed number low f [] k h = h
tasks_changed number low f (x ∷ tasks) k h =
    let rest = tasks_changed number (low + 1) f tasks k h.1 in
    elim (is_task number x) as (λ b. TasksCount low ((if b then f x else x) ∷ changed_task number f tasks)) [ true ↦ (k x ∙ h.0, rest) | false ↦ (h.0, rest) ]

-- what is found by a number has it
pub found_number : {X : Type 0} (number_of : X → ℕ) (number : ℕ) (xs : List X) (x : X) → find (λ y. number_of y == number) xs ≡ Some x → number_of x ≡ number
found_number {X} number_of number [] x e = absurd cc
found_number {X} number_of number (y ∷ xs) x e =
    elim (number_of y == number) as (λ b. (number_of y == number) ≡ b → cond b (Some y) (find (λ z. number_of z == number) xs) ≡ Some x → number_of x ≡ number) [
      | true ↦ (λ n f. ap number_of (sym (some_same y x f)) ∙ eqb-true (number_of y) number n)
      | false ↦ (λ n f. found_number number_of number xs x f)
    ] refl e

-- a task that is found is one of those that are counted
pub found_below : (number low : ℕ) (tasks : List Task) (task : Task) → TasksCount low tasks → find (is_task number) tasks ≡ Some task → (low ≤ number) × (number < low + length tasks)
found_below number low [] task h e = absurd cc
found_below number low (x ∷ tasks) task h e =
    elim (is_task number x) as (λ b. is_task number x ≡ b → cond b (Some x) (find (is_task number) tasks) ≡ Some task → (low ≤ number) × (number < low + suc (length tasks))) [
      | true ↦ (λ n f. let is = eqb-true x.number number n in (omega (arith, is, h.0), omega (arith, is, h.0)))
      | false ↦ (λ n f. let r = found_below number (low + 1) tasks task h.1 f in (omega (arith, r.0), omega (arith, r.1)))
    ] refl e

-- and each that is counted is found
pub is_there : (number low : ℕ) (tasks : List Task) → TasksCount low tasks → low ≤ number → number < low + length tasks → (task : Task) × (find (is_task number) tasks ≡ Some task)
is_there number low [] h from below = absurd (omega (arith, from, below))
is_there number low (x ∷ tasks) h from below =
    elim (is_task number x) as (λ b. is_task number x ≡ b → (task : Task) × (cond b (Some x) (find (is_task number) tasks) ≡ Some task)) [
      | true ↦ (λ n. (x, refl))
      | false ↦ (λ n. let above = not_low x.number number n (omega (arith, from, h.0)) in is_there number (low + 1) tasks h.1 (omega (arith, above, h.0)) (omega (arith, below)))
    ] refl

-- all tasks are of another kind after a change of the tasks of a number, and the others are as they are
pub all_changed : (P Q : Task → Type 0) (number : ℕ) (f : Task → Task) (tasks : List Task) → ((t : Task) → is_task number t ≡ true → P t → Q (f t)) → ((t : Task) → is_task number t ≡ false → P t → Q t)
    → AllByRecursion P tasks → AllByRecursion Q (changed_task number f tasks)
all_changed P Q number f [] here other h = tt
all_changed P Q number f (x ∷ tasks) here other h = (
  elim (is_task number x) as (λ b. is_task number x ≡ b → Q (if b then f x else x)) [ true ↦ (λ e. here x e h.0) | false ↦ (λ e. other x e h.0) ] refl,
  all_changed P Q number f tasks here other h.1,
)

none_of : (number low : ℕ) (tasks : List Task) → number < low → TasksCount low tasks → AllByRecursion (λ t. is_task number t ≡ false) tasks
none_of number low [] lt h = tt
none_of number low (x ∷ tasks) lt h = (not_same number x.number (omega (arith, lt, h.0)), none_of number (low + 1) tasks (omega (arith, lt)) h.1)

pub none_true : (b : Bool) → b ≡ false → b ≡ true → ⊥
none_true true e f = absurd cc
none_true false e f = absurd cc

-- a task of the number is the one that is found
pub only_found : (number low : ℕ) (tasks : List Task) (task : Task) → TasksCount low tasks → find (is_task number) tasks ≡ Some task
    → AllByRecursion (λ t. is_task number t ≡ true → t ≡ task) tasks
only_found number low [] task h e = tt
only_found number low (x ∷ tasks) task h e =
    elim (is_task number x) as (λ b. is_task number x ≡ b → cond b (Some x) (find (is_task number) tasks) ≡ Some task → (is_task number x ≡ true → x ≡ task) × AllByRecursion (λ t. is_task number t ≡ true → t ≡ task) tasks) [
      | true ↦ (λ n f. (
        λ _. some_same x task f,
        all_with (λ t. is_task number t ≡ false) (λ t. is_task number t ≡ true → t ≡ task) tasks (λ t none yes. absurd (none_true _ none yes))
            (none_of number (low + 1) tasks (let is = eqb-true x.number number n in omega (arith, is, h.0)) h.1),
      ))
      | false ↦ (λ n f. (λ yes. absurd (none_true _ n yes), only_found number (low + 1) tasks task h.1 f))
    ] refl e

le_of : (a b : Bool) → (a ≡ true → b ≡ true) → cond a 1 0 ≤ cond b 1 0
le_of false b h = omega arith
le_of true b h = rw (h refl) (omega arith)

-- how many are of a kind does not rise by a change that makes none one of it
pub count_changed : (p : Task → Bool) (number : ℕ) (f : Task → Task) (tasks : List Task) → ((t : Task) → p (f t) ≡ true → p t ≡ true) → count_by p (changed_task number f tasks) ≤ count_by p tasks
count_changed p number f [] k = omega arith
count_changed p number f (x ∷ tasks) k =
    let r = count_changed p number f tasks k in
    let y : Task = if is_task number x then f x else x in
    let first : cond (p y) 1 0 ≤ cond (p x) 1 0 = elim (is_task number x) as (λ b. cond (p (if b then f x else x)) 1 0 ≤ cond (p x) 1 0) [ true ↦ le_of (p (f x)) (p x) (k x) | false ↦ omega arith ] in
    rw (sum_by-cons (λ t. cond (p t) 1 0) y (changed_task number f tasks), sum_by-cons (λ t. cond (p t) 1 0) x tasks) (omega (arith, r, first))
