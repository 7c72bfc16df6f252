-- What holds of a ledger after any history, and which of its own steps can be done.
use Rattle.std.proofs.Common.{◌≡◌, ℕ, ◌+◌, true, false, not, List, [], ◌∷◌, ◌++◌, refl, sym, subst, ◌∙◌, ap, arith, Option, Some, None, ◌<◌, ◌≤◌, inl, inr, cond, Bool}
use Rattle.std.specs.Prelude.{nat_lt, ◌||◌, ◌&&◌, take, find, filter, reverse, slice_get}
use Rattle.std.specs.List.{AllByRecursion, Contains, list_any}
use Rattle.std.specs.Option.{option_or}
use Rattle.std.proofs.Math.Bool.{and-false, and-true, or-false}
use Rattle.std.proofs.lemmas.Bool.{eqb-true}
use Rattle.std.proofs.lemmas.List.{reverse-append}
use Rattle.std.proofs.lemmas.List.Elements.{Contains-append_right}
use Rattle.std.proofs.lemmas.Grind.{common_steps}
use Rattle.sq_model.specs.declared.calls.HomeCall.TheVariants.{LeaveDead, LeaveDrain, LeaveTask, Enter, TurnBack, GiveBack, Drop}
use Rattle.sq_model.specs.declared.item.Item.{Item}
use Rattle.sq_model.specs.declared.ledger.LedgerCall.{LedgerCall}
use Rattle.sq_model.specs.declared.ledger.LedgerCall.TheVariants as asks
use Rattle.sq_model.specs.declared.ledger.LedgerReply.{LedgerReply}
use Rattle.sq_model.specs.declared.ledger.LedgerReply.TheVariants as answers
use Rattle.sq_model.specs.declared.replies.HomeReply.TheVariants.{Done, Left, NoLiveRow, NoOrigin, SourceClosed, Entered}
use Rattle.sq_model.specs.declared.task.Task.{Task}
use Rattle.sq_model.specs.Replays.{Replays}
use Rattle.sq_model.specs.Tasks.{is_active, is_running}
use Rattle.sq_model.specs.Ledgers.{Ledger, LedgerEvent, LedgerStep, IsAbove, IsAfter, IsLastTask, IsLedger, IsNextItem, IsLatest, ItemsRise, NumbersRise, OnlyLastActive, TasksCount, all_given, cancel_refusal, finish_refusal, in_transit, is_active_at, is_of_source, is_own, is_still_active, item_given, last_task, ledger_refusal, opening_ledger, peek, task_given, task_of, tasks_of}
use Rattle.sq_laws.proofs.LedgerLists.{all_with, none_true, some_same}
use Rattle.sq_laws.proofs.LedgerSteps.{step_keeps}
use Rattle.sq_laws.proofs.Progress.{above, neither, no_more, passed}
use Rattle.sq_laws.proofs.Refusals.{below}
use Rattle.sq_model.proofs.SlotLaws.{not_false}

pub opens : (limit : ℕ) → IsLedger (opening_ledger limit)
opens limit = record { items_rise = omega arith; items_end = omega arith; within = omega arith; each_item = tt; tasks_count = tt; next_task = refl; tasks_end = omega arith; each = tt; left_below = tt; one_active = λ source. omega arith; last_active = tt; few_active = omega arith }

pub goes_on : (l : Ledger) (events : List LedgerEvent) (after : Ledger) → IsLedger l → Replays LedgerStep l events after → IsLedger after
goes_on l [] after h r = rw r h
goes_on l (e ∷ es) after h r = goes_on r.0 es after (step_keeps l e.stamp.moment e.call e.reply r.0 r.1 h) r.2

pub ledger_holds : (limit : ℕ) (events : List LedgerEvent) (l : Ledger) → Replays LedgerStep (opening_ledger limit) events l → IsLedger l
ledger_holds limit events l r = goes_on (opening_ledger limit) events l (opens limit) r

-- ---- a step is given only where no check fails

cancels : (found : Option Task) (task : Task) → found ≡ Some task → is_running task.status ≡ true → cancel_refusal found ≡ None
cancels found task e running = rw (e, running) refl

finishes : (found : Option Task) (waiting : ℕ) (task : Task) → found ≡ Some task → is_active task.status ≡ true → waiting ≡ 0 → finish_refusal waiting found ≡ None
finishes found waiting task e active none = rw (e, active, none) refl

pub ledger_allowed : (l : Ledger) (m : ℕ) (call : LedgerCall) (reply : LedgerReply) (after : Ledger) → LedgerStep l m call reply after → ledger_refusal l m call ≡ None
unfolding LedgerStep ledger_refusal
ledger_allowed l m (asks.AtHome home call) reply after s = refl
ledger_allowed l m (asks.StartTask source destination rate) (answers.Started number) after s = rw (below _ _ s.0, s.1, below _ _ s.2) refl
ledger_allowed l m (asks.CancelTask number) (answers.Cancelled moved) after s = cancels (task_of number l) s.0.0 s.0.1 s.0.2
ledger_allowed l m (asks.ListTasks source most) (answers.Listed listed) after s = refl
ledger_allowed l m (asks.FinishTask number) answers.Finished after s = finishes (task_of number l) (in_transit number l.items) s.0.0 s.0.1 s.0.2 s.1
ledger_allowed l m call reply after s = elim s [ ]

-- ---- and where none does one can be done

abbrev Possible : Ledger → ℕ → LedgerCall → Type 0
Possible l m call = (reply : LedgerReply) × (after : Ledger) × LedgerStep l m call reply after

can_cancel : (l : Ledger) (m number : ℕ) (found : Option Task) → task_of number l ≡ found → cancel_refusal found ≡ None → Possible l m (asks.CancelTask number)
unfolding LedgerStep
can_cancel l m number None e h = absurd cc
can_cancel l m number (Some task) e h = let p = passed (not (is_running task.status)) _ _ h in (answers.Cancelled task.moved, _, ((task, e, not_false _ p.0, refl), refl))

can_finish : (l : Ledger) (m number : ℕ) (found : Option Task) → task_of number l ≡ found → finish_refusal (in_transit number l.items) found ≡ None → Possible l m (asks.FinishTask number)
unfolding LedgerStep
can_finish l m number None e h = absurd cc
can_finish l m number (Some task) e h =
    let p = passed (not (is_active task.status) || nat_lt 0 (in_transit number l.items)) _ _ h in
    let q = neither _ _ p.0 in
    (answers.Finished, _, ((task, e, not_false _ q.0), no_more _ q.1, refl))

pub ledger_possible : (l : Ledger) (m : ℕ) (call : LedgerCall) → is_own call ≡ true → ledger_refusal l m call ≡ None → Possible l m call
unfolding LedgerStep ledger_refusal
ledger_possible l m (asks.AtHome home call) own h = absurd cc
ledger_possible l m (asks.StartTask source destination rate) own h =
    let worn = passed _ _ _ h in
    let busy = passed _ _ _ worn.1 in
    let full = passed _ _ _ busy.1 in
    (answers.Started l.next_task, _, (above _ _ worn.0, busy.0, above _ _ full.0, refl, refl))
ledger_possible l m (asks.CancelTask number) own h = can_cancel l m number (task_of number l) refl h
ledger_possible l m (asks.ListTasks source most) own h = (answers.Listed (take most (tasks_of source l)), _, (refl, refl))
ledger_possible l m (asks.FinishTask number) own h = can_finish l m number (task_of number l) refl h

-- ---- no number is given twice

-- what a step gives is the next number, and the next one is above it
record GivesNext (given : List ℕ) (next later : ℕ) : Type 0 where
  pub rise : NumbersRise next given
  pub more : (ns : List ℕ) → NumbersRise later ns → NumbersRise next (given ++ ns)

gives_none : (next later : ℕ) → later ≡ next → GivesNext [] next later
gives_none next later e = record { rise = tt; more = λ ns h. rw e at h }

gives_one : (number next later : ℕ) → number ≡ next → later ≡ next + 1 → GivesNext (number ∷ []) next later
gives_one number next later e f = record { rise = (omega (arith, e), tt); more = λ ns h. (omega (arith, e), subst (λ (k : ℕ). NumbersRise k ns) (f ∙ ap (λ (k : ℕ). k + 1) (sym e)) h) }

record Gives (l : Ledger) (reply : LedgerReply) (after : Ledger) : Type 0 where
  item : GivesNext (item_given reply) l.next_item after.next_item
  task : GivesNext (task_given reply) l.next_task after.next_task

gives : (l : Ledger) (m : ℕ) (call : LedgerCall) (reply : LedgerReply) (after : Ledger) → LedgerStep l m call reply after → Gives l reply after
unfolding LedgerStep
gives l m (asks.AtHome home LeaveDead) (answers.AtHome (Left item)) after s = record { item = gives_one _ _ _ s.1.1 (ap (λ (x : Ledger). x.next_item) s.1.2); task = gives_none _ _ (ap (λ (x : Ledger). x.next_task) s.1.2) }
gives l m (asks.AtHome home LeaveDrain) (answers.AtHome (Left item)) after s = record { item = gives_one _ _ _ s.2.1 (ap (λ (x : Ledger). x.next_item) s.2.2); task = gives_none _ _ (ap (λ (x : Ledger). x.next_task) s.2.2) }
gives l m (asks.AtHome home (LeaveTask number)) (answers.AtHome (Left item)) after s = record { item = gives_one _ _ _ s.2.1 (ap (λ (x : Ledger). x.next_item) s.2.2); task = gives_none _ _ (ap (λ (x : Ledger). x.next_task) s.2.2) }
gives l m (asks.AtHome home (LeaveTask number)) (answers.AtHome NoLiveRow) after s = record { item = gives_none _ _ (ap (λ (x : Ledger). x.next_item) s.1); task = gives_none _ _ (ap (λ (x : Ledger). x.next_task) s.1) }
gives l m (asks.AtHome home (LeaveTask number)) (answers.AtHome (NoOrigin serial)) after s = record { item = gives_none _ _ (ap (λ (x : Ledger). x.next_item) s.2); task = gives_none _ _ (ap (λ (x : Ledger). x.next_task) s.2) }
gives l m (asks.AtHome home (LeaveTask number)) (answers.AtHome SourceClosed) after s = record { item = gives_none _ _ (ap (λ (x : Ledger). x.next_item) s.1); task = gives_none _ _ (ap (λ (x : Ledger). x.next_task) s.1) }
gives l m (asks.AtHome home (Enter item)) (answers.AtHome (Entered entered)) after s = record { item = gives_none _ _ (ap (λ (x : Ledger). x.next_item) s.1.1); task = gives_none _ _ (ap (λ (x : Ledger). x.next_task) s.1.1) }
gives l m (asks.AtHome home (TurnBack item)) (answers.AtHome Done) after s = record { item = gives_none _ _ (ap (λ (x : Ledger). x.next_item) s.2); task = gives_none _ _ (ap (λ (x : Ledger). x.next_task) s.2) }
gives l m (asks.AtHome home (GiveBack item)) (answers.AtHome (Entered entered)) after s = record { item = gives_none _ _ (ap (λ (x : Ledger). x.next_item) s.1.1); task = gives_none _ _ (ap (λ (x : Ledger). x.next_task) s.1.1) }
gives l m (asks.AtHome home (Drop item)) (answers.AtHome Done) after s = record { item = gives_none _ _ (ap (λ (x : Ledger). x.next_item) s.1.1); task = gives_none _ _ (ap (λ (x : Ledger). x.next_task) s.1.1) }
gives l m (asks.StartTask source destination rate) (answers.Started number) after s = record { item = gives_none _ _ (ap (λ (x : Ledger). x.next_item) s.4); task = gives_one _ _ _ s.3 (ap (λ (x : Ledger). x.next_task) s.4) }
gives l m (asks.CancelTask number) (answers.Cancelled moved) after s = record { item = gives_none _ _ (ap (λ (x : Ledger). x.next_item) s.1); task = gives_none _ _ (ap (λ (x : Ledger). x.next_task) s.1) }
gives l m (asks.ListTasks source most) (answers.Listed listed) after s = record { item = gives_none _ _ (ap (λ (x : Ledger). x.next_item) s.1); task = gives_none _ _ (ap (λ (x : Ledger). x.next_task) s.1) }
gives l m (asks.FinishTask number) answers.Finished after s = record { item = gives_none _ _ (ap (λ (x : Ledger). x.next_item) s.2); task = gives_none _ _ (ap (λ (x : Ledger). x.next_task) s.2) }
gives l m call reply after s = elim s [ ]

pub items_rise : (l : Ledger) (events : List LedgerEvent) (after : Ledger) → Replays LedgerStep l events after → NumbersRise l.next_item (all_given item_given events)
items_rise l [] after r = tt
items_rise l (e ∷ es) after r = (gives l e.stamp.moment e.call e.reply r.0 r.1).item.more (all_given item_given es) (items_rise r.0 es after r.2)

pub tasks_rise : (l : Ledger) (events : List LedgerEvent) (after : Ledger) → Replays LedgerStep l events after → NumbersRise l.next_task (all_given task_given events)
tasks_rise l [] after r = tt
tasks_rise l (e ∷ es) after r = (gives l e.stamp.moment e.call e.reply r.0 r.1).task.more (all_given task_given es) (tasks_rise r.0 es after r.2)

-- ---- the item after a number

not_lower : (a b : ℕ) → nat_lt a b ≡ false → b ≤ a
not_lower a b h = grind (arith, common_steps)

is_lower : (a b : ℕ) → nat_lt a b ≡ true → a < b
is_lower a b h = grind (arith, common_steps)

all_from : (low : ℕ) (items : List Item) (next : ℕ) → ItemsRise low items next → AllByRecursion (λ other. low ≤ other.number) items
all_from low [] next h = tt
all_from low (x ∷ items) next h = (h.0, all_with (λ other. x.number + 1 ≤ other.number) (λ other. low ≤ other.number) items (λ other k. omega (arith, k, h.0)) (all_from (x.number + 1) items next h.1))

first_is_least : (low : ℕ) (x : Item) (items : List Item) (next : ℕ) → ItemsRise low (x ∷ items) next → AllByRecursion (λ other. x.number ≤ other.number) (x ∷ items)
first_is_least low x items next h = (omega arith, all_with (λ other. x.number + 1 ≤ other.number) (λ other. x.number ≤ other.number) items (λ other k. omega (arith, k)) (all_from (x.number + 1) items next h.1))

is_first : (x : Item) (items : List Item) → Contains (x ∷ items) x
is_first x items = (0, omega arith, refl)

least_above : (number low : ℕ) (items : List Item) (next : ℕ) (item : Item) → ItemsRise low items next → find (λ i. nat_lt number i.number) items ≡ Some item → Contains items item × IsAbove number items item
least_above number low [] next item h e = absurd cc
least_above number low (x ∷ items) next item h e =
    elim (nat_lt number x.number) as (λ b. nat_lt number x.number ≡ b → cond b (Some x) (find (λ i. nat_lt number i.number) items) ≡ Some item → Contains (x ∷ items) item × IsAbove number (x ∷ items) item) [
      | true ↦ (λ n f. subst (λ (i : Item). Contains (x ∷ items) i × IsAbove number (x ∷ items) i) (some_same x item f) (
        is_first x items,
        record {
          above = is_lower number x.number n;
          least = all_with (λ other. x.number ≤ other.number) (λ other. number < other.number → x.number ≤ other.number) (x ∷ items) (λ other k lt. k) (first_is_least low x items next h);
        },
      ))
      | false ↦ (λ n f. let r = least_above number (x.number + 1) items next item h.1 f in
          (Contains-append_right (x ∷ []) items item r.0, record { above = r.1.above; least = (λ lt. let k = not_lower number x.number n in absurd (omega (arith, k, lt)), r.1.least) }))
    ] refl e

none_is_above : (number : ℕ) (items : List Item) → find (λ i. nat_lt number i.number) items ≡ None → AllByRecursion (λ other. other.number ≤ number) items
none_is_above number [] e = tt
none_is_above number (x ∷ items) e =
    elim (nat_lt number x.number) as (λ b. nat_lt number x.number ≡ b → cond b (Some x) (find (λ i. nat_lt number i.number) items) ≡ None → (x.number ≤ number) × AllByRecursion (λ other. other.number ≤ number) items) [
      | true ↦ (λ n f. absurd cc)
      | false ↦ (λ n f. (not_lower number x.number n, none_is_above number items f))
    ] refl e

first_of_all : (number low : ℕ) (items : List Item) (next : ℕ) (item : Item) → ItemsRise low items next → find (λ i. nat_lt number i.number) items ≡ None → slice_get items 0 ≡ Some item → IsNextItem number items item
first_of_all number low [] next item h none e = absurd cc
first_of_all number low (x ∷ items) next item h none e =
    subst (IsNextItem number (x ∷ items)) (some_same x item e) (is_first x items, inr (record { none_above = none_is_above number (x ∷ items) none; least = first_is_least low x items next h }))

next_of : (number low : ℕ) (items : List Item) (next : ℕ) (item : Item) (found : Option Item) → ItemsRise low items next → find (λ i. nat_lt number i.number) items ≡ found → option_or found (slice_get items 0) ≡ Some item
    → IsNextItem number items item
next_of number low items next item None h e f = first_of_all number low items next item h e f
next_of number low items next item (Some first) h e f = let r = least_above number low items next item h (e ∙ f) in (r.0, inl r.1)

pub peek_is_next : (number : ℕ) (l : Ledger) (item : Item) → IsLedger l → peek number l ≡ Some item → IsNextItem number l.items item
peek_is_next number l item h e = next_of number 1 l.items l.next_item item (find (λ i. nat_lt number i.number) l.items) h.items_rise refl e

none_next : (items : List Item) (found : Option Item) → option_or found (slice_get items 0) ≡ None → items ≡ []
none_next [] found e = refl
none_next (x ∷ items) None e = absurd cc
none_next (x ∷ items) (Some first) e = absurd cc

pub peek_is_none : (number : ℕ) (l : Ledger) → peek number l ≡ None → l.items ≡ []
peek_is_none number l e = none_next l.items (find (λ i. nat_lt number i.number) l.items) e

pub items_after : (number : ℕ) (l : Ledger) → IsLedger l → IsAfter number l.items (peek number l)
items_after number l h = elim (peek number l) as (λ p. peek number l ≡ p → IsAfter number l.items p) [ None ↦ (λ e. peek_is_none number l e) | Some item ↦ (λ e. peek_is_next number l item h e) ] refl

-- ---- the last task of a source

first_or : {X : Type 0} (xs : List X) (x : X) → slice_get (xs ++ x ∷ []) 0 ≡ option_or (slice_get xs 0) (Some x)
first_or {X} [] x = refl
first_or {X} (y ∷ xs) x = refl

first_reversed : {X : Type 0} (x : X) (xs : List X) → slice_get (reverse (x ∷ xs)) 0 ≡ option_or (slice_get (reverse xs) 0) (Some x)
first_reversed {X} x xs = ap (λ (ys : List X). slice_get ys 0) (reverse-append (x ∷ []) xs) ∙ first_or (reverse xs) x

never_none : {X : Type 0} (found : Option X) (x : X) → option_or found (Some x) ≡ None → ⊥
never_none {X} None x e = absurd cc
never_none {X} (Some y) x e = absurd cc

-- the last task that passes
abbrev last_of : (Task → Bool) → List Task → Option Task
last_of p tasks = slice_get (reverse (filter p tasks)) 0

one_before : (p : Task → Bool) (x : Task) (tasks : List Task) (b : Bool) → p x ≡ b → last_of p (x ∷ tasks) ≡ cond b (option_or (last_of p tasks) (Some x)) (last_of p tasks)
one_before p x tasks true e = ap (λ (c : Bool). slice_get (reverse (cond c (x ∷ filter p tasks) (filter p tasks))) 0) e ∙ first_reversed x (filter p tasks)
one_before p x tasks false e = ap (λ (c : Bool). slice_get (reverse (cond c (x ∷ filter p tasks) (filter p tasks))) 0) e

none_passes : (p : Task → Bool) (tasks : List Task) → last_of p tasks ≡ None → AllByRecursion (λ t. p t ≡ false) tasks
none_passes p [] e = tt
none_passes p (x ∷ tasks) e =
    elim (p x) as (λ b. p x ≡ b → (p x ≡ false) × AllByRecursion (λ t. p t ≡ false) tasks) [
      | true ↦ (λ at. absurd (never_none (last_of p tasks) x (sym (one_before p x tasks true at) ∙ e)))
      | false ↦ (λ at. (at, none_passes p tasks (sym (one_before p x tasks false at) ∙ e)))
    ] refl

none_is_last : (p : Task → Bool) (tasks : List Task) → AllByRecursion (λ t. p t ≡ false) tasks → last_of p tasks ≡ None
none_is_last p [] h = refl
none_is_last p (x ∷ tasks) h = one_before p x tasks false h.0 ∙ none_is_last p tasks h.1

record IsLastOf (p : Task → Bool) (low : ℕ) (tasks : List Task) (task : Task) : Type 0 where
  pub from : low ≤ task.number
  pub there : Contains tasks task
  pub passes : p task ≡ true
  pub latest : AllByRecursion (λ other. p other ≡ true → other.number ≤ task.number) tasks

last_by : (p : Task → Bool) (low : ℕ) (x : Task) (tasks : List Task) (task : Task) (b : Bool) (found : Option Task) → x.number ≡ low → p x ≡ b → last_of p tasks ≡ found
    → ((t : Task) → last_of p tasks ≡ Some t → IsLastOf p (low + 1) tasks t) → cond b (option_or found (Some x)) found ≡ Some task → IsLastOf p low (x ∷ tasks) task
last_by p low x tasks task true None n e f rest h = subst (IsLastOf p low (x ∷ tasks)) (some_same x task h) (record {
  from = omega (arith, n);
  there = (0, omega arith, refl);
  passes = e;
  latest = (λ at. omega arith, all_with (λ t. p t ≡ false) (λ t. p t ≡ true → t.number ≤ x.number) tasks (λ t none at. absurd (none_true (p t) none at)) (none_passes p tasks f));
})
last_by p low x tasks task true (Some later) n e f rest h =
    let r = rest task (f ∙ h) in
    record { from = let k = r.from in omega (arith, k); there = Contains-append_right (x ∷ []) tasks task r.there; passes = r.passes; latest = (λ at. let k = r.from in omega (arith, n, k), r.latest) }
last_by p low x tasks task false found n e f rest h =
    let r = rest task (f ∙ h) in
    record { from = let k = r.from in omega (arith, k); there = Contains-append_right (x ∷ []) tasks task r.there; passes = r.passes; latest = (λ at. absurd (none_true (p x) e at), r.latest) }

is_last_of : (p : Task → Bool) (low : ℕ) (tasks : List Task) (task : Task) → TasksCount low tasks → last_of p tasks ≡ Some task → IsLastOf p low tasks task
is_last_of p low [] task h e = absurd cc
is_last_of p low (x ∷ tasks) task h e =
    last_by p low x tasks task (p x) (last_of p tasks) h.0 refl refl (λ t f. is_last_of p (low + 1) tasks t h.1 f) (sym (one_before p x tasks (p x) refl) ∙ e)

pub last_is_latest : (source : ℕ) (l : Ledger) (task : Task) → IsLedger l → last_task source l ≡ Some task → IsLatest source l.tasks task
last_is_latest source l task h e = let r = is_last_of (is_of_source source) 1 l.tasks task h.tasks_count e in record { there = r.there; of_source = r.passes; latest = r.latest }

pub last_is_none : (source : ℕ) (l : Ledger) → last_task source l ≡ None → AllByRecursion (λ task. is_of_source source task ≡ false) l.tasks
last_is_none source l e = none_passes (is_of_source source) l.tasks e

pub last_of_source : (source : ℕ) (l : Ledger) → IsLedger l → IsLastTask source l.tasks (last_task source l)
last_of_source source l h = elim (last_task source l) as (λ p. last_task source l ≡ p → IsLastTask source l.tasks p) [ None ↦ (λ e. last_is_none source l e) | Some task ↦ (λ e. last_is_latest source l task h e) ] refl

-- a task is active for a source only where its last one is
-- x is before the others, and is active or not, and of the source or not
active_by : (source : ℕ) (x : Task) (tasks : List Task) (active own : Bool) (found : Option Task) → is_active x.status ≡ active → is_of_source source x ≡ own → last_of (is_of_source source) tasks ≡ found
    → (active ≡ true → own ≡ true → found ≡ None) → list_any (is_active_at source) tasks ≡ is_still_active found
    → ((active && own) || list_any (is_active_at source) tasks) ≡ is_still_active (cond own (option_or found (Some x)) found)
active_by source x tasks active false found a o f only rest = ap (λ (b : Bool). b || list_any (is_active_at source) tasks) (and-false active) ∙ rest
active_by source x tasks true true (Some later) a o f only rest = let none : Some later ≡ None = only refl refl in absurd cc
active_by source x tasks false true (Some later) a o f only rest = rest
active_by source x tasks active true None a o f only rest = ap (λ (b : Bool). (active && true) || b) rest ∙ (or-false (active && true) ∙ (and-true active ∙ sym a))

none_after : (source : ℕ) (x : Task) (tasks : List Task) → (is_active x.status ≡ true → AllByRecursion (λ other. is_of_source x.source.number other ≡ false) tasks) → is_active x.status ≡ true → is_of_source source x ≡ true
    → last_of (is_of_source source) tasks ≡ None
none_after source x tasks h active own =
    none_is_last (is_of_source source) tasks (subst (λ (n : ℕ). AllByRecursion (λ other. is_of_source n other ≡ false) tasks) (eqb-true x.source.number source own) (h active))

active_is_last : (source : ℕ) (tasks : List Task) → OnlyLastActive tasks → list_any (is_active_at source) tasks ≡ is_still_active (last_of (is_of_source source) tasks)
active_is_last source [] h = refl
active_is_last source (x ∷ tasks) h =
    active_by source x tasks (is_active x.status) (is_of_source source x) (last_of (is_of_source source) tasks) refl refl refl (none_after source x tasks h.0) (active_is_last source tasks h.1)
    ∙ ap is_still_active (sym (one_before (is_of_source source) x tasks (is_of_source source x) refl))

pub last_is_active : (source : ℕ) (l : Ledger) → IsLedger l → list_any (is_active_at source) l.tasks ≡ is_still_active (last_task source l)
last_is_active source l h = active_is_last source l.tasks h.last_active
