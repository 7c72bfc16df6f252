-- A leave for a task: what the ledger is told, and why neither half is done.
use Rattle.std.proofs.Common.{◌≡◌, ◌⊎◌, ℕ, Bool, true, false, not, List, Option, Some, None, Result, Ok, Err, refl, sym, ◌∙◌, ap, subst, inl, inr}
use Rattle.std.specs.Prelude.{◌<◌, IfErr, IfOk, OnOk, ◌&&◌}
use Rattle.sq_base.specs.StampValue.{StampValue}
use Rattle.sq_base.specs.declared.ids.HomeId.{HomeId}
use Rattle.sq_base.specs.declared.refusal.Refusal.{Refusal}
use Rattle.sq_base.specs.declared.refusal.Refusal.TheVariants.{NoMemory, UnsupportedOperation}
use Rattle.sq_model.specs.declared.calls.HomeCall.{HomeCall}
use Rattle.sq_model.specs.declared.calls.HomeCall.TheVariants as call
use Rattle.sq_model.specs.declared.event.Actor.{Actor}
use Rattle.sq_model.specs.declared.item.Item.{Item}
use Rattle.sq_model.specs.declared.item.Reason.TheVariants.{Task as ForTask}
use Rattle.sq_model.specs.declared.place.Site.{Site}
use Rattle.sq_model.specs.declared.replies.HomeReply.{HomeReply}
use Rattle.sq_model.specs.declared.replies.HomeReply.TheVariants.{Left, NoLiveRow, NoOrigin, SourceClosed}
use Rattle.sq_model.specs.declared.shared.SharedAct.TheVariants as asks
use Rattle.sq_model.specs.declared.task.Task.{Task}
use Rattle.sq_model.specs.Homes.{Home, Unopened, Serving, Closed, HomeStep, IsFrom, home_refusal, refused_if}
use Rattle.sq_model.specs.Ledgers.{TakesOneMore, Ledger, MayTake, is_of_source, transit_refusal, task_of}
use Rattle.sq_model.specs.RecordValues.{HomeRecordValue}
use Rattle.sq_model.specs.Shared.{IsUnrecorded, is_throttled, shared_refusal, task_refusal}
use Rattle.sq_model.specs.Tasks.{is_running, may_leave}
use Rattle.sq_history.specs.Halves.{has_live_row, DoesHalf, IsHalfRefused, IsTaker, IsTaskAnswer, IsTaskRefused, IsThrottled}
use Rattle.sq_history.specs.HistoryValue.{HistoryValue}
use Rattle.sq_history.specs.declared.shared.HomeHalf.{HomeHalf}
use Rattle.sq_task.specs.declared.leave.TaskLeave.{TaskLeave}
use Rattle.sq_history.proofs.TaskLaws.{one_live}
use Rattle.sq_ledger.specs.LedgerHistories.{IsLeaving}
use Rattle.sq_steps.specs.SharedSteps.{IsPairRefused}
use Rattle.sq_steps.specs.inside.SharedSteps.{IsToldLeft}
use Rattle.sq_steps.proofs.SharedLaws.{half_out}

-- what the ledger said of the task at m, with memory for so many items before and after
pub record IsSaid (l : Ledger) (old reserved m : ℕ) (home : HomeId) (number : ℕ) (said : TaskLeave) : Type 0 where
  pub of_number : said.number ≡ number
  pub task : IfOk said.task (λ task. MayTake l home.queue number task)
  pub no_task : IfErr said.task (λ e. task_refusal home (task_of number l) None ≡ Some e)
  pub allowed : said.allowed ≡ not (is_throttled m (task_of number l))
  pub item : IfOk said.item (λ item. item ≡ l.next_item)
  pub takes_one_more : OnOk said.item (TakesOneMore l)
  pub passes : OnOk said.item (transit_refusal l ≡ None)
  pub ready : OnOk said.item (0 < reserved)
  pub no_place : IfErr said.item (λ e. (transit_refusal l ≡ Some e) ⊎ ((transit_refusal l ≡ None) × (e ≡ NoMemory) × (old ≡ 0)))

not_not : (b : Bool) → not (not b) ≡ b
not_not true = refl
not_not false = refl

-- where the task is there, it is allowed as its rate says
allowed_as : (l : Ledger) (old reserved m : ℕ) (home : HomeId) (number : ℕ) (said : TaskLeave) (task : Task) → IsSaid l old reserved m home number said → task_of number l ≡ Some task → may_leave m task ≡ said.allowed
allowed_as l old reserved m home number said task is found = sym (is.allowed ∙ ap (λ (o : Option Task). not (is_throttled m o)) found ∙ not_not (may_leave m task))

takes : (l : Ledger) (old reserved m : ℕ) (home : HomeId) (number : ℕ) (said : TaskLeave) (task : Task) → IsSaid l old reserved m home number said → IsTaker said task → MayTake l home.queue number task
takes l old reserved m home number said task is taker = subst (λ (r : Result Task Refusal). IfOk r (λ t. MayTake l home.queue number t)) taker is.task

takes_one_more : (l : Ledger) (old reserved m : ℕ) (home : HomeId) (number n : ℕ) (said : TaskLeave) → IsSaid l old reserved m home number said → said.item ≡ Ok n → TakesOneMore l
takes_one_more l old reserved m home number n said is ok = subst (λ (r : Result ℕ Refusal). OnOk r (TakesOneMore l)) ok is.takes_one_more

next_is : (l : Ledger) (old reserved m : ℕ) (home : HomeId) (number n : ℕ) (said : TaskLeave) → IsSaid l old reserved m home number said → said.item ≡ Ok n → n ≡ l.next_item
next_is l old reserved m home number n said is ok = subst (λ (r : Result ℕ Refusal). IfOk r (λ item. item ≡ l.next_item)) ok is.item

transit_passes : (l : Ledger) (old reserved m : ℕ) (home : HomeId) (number n : ℕ) (said : TaskLeave) → IsSaid l old reserved m home number said → said.item ≡ Ok n → transit_refusal l ≡ None
transit_passes l old reserved m home number n said is ok = subst (λ (r : Result ℕ Refusal). OnOk r (transit_refusal l ≡ None)) ok is.passes

transit_refuses : (l : Ledger) (old reserved m : ℕ) (home : HomeId) (number : ℕ) (e : Refusal) (said : TaskLeave) → IsSaid l old reserved m home number said → said.item ≡ Err e → (transit_refusal l ≡ Some e) ⊎ ((transit_refusal l ≡ None) × (e ≡ NoMemory) × (old ≡ 0))
transit_refuses l old reserved m home number e said is err = subst (λ (r : Result ℕ Refusal). IfErr r (λ x. (transit_refusal l ≡ Some x) ⊎ ((transit_refusal l ≡ None) × (x ≡ NoMemory) × (old ≡ 0)))) err is.no_place

task_refuses : (l : Ledger) (old reserved m : ℕ) (home : HomeId) (number : ℕ) (e : Refusal) (said : TaskLeave) → IsSaid l old reserved m home number said → said.task ≡ Err e → task_refusal home (task_of number l) None ≡ Some e
task_refuses l old reserved m home number e said is err = subst (λ (r : Result Task Refusal). IfErr r (λ x. task_refusal home (task_of number l) None ≡ Some x)) err is.no_task

-- ---- what the ledger is told

from_home : (site : Site) (home : Home) (m number : ℕ) (item : Item) (after : Home) → HomeStep site home m (call.LeaveTask number) (Left item) after → IsFrom site.home (ForTask number) item
unfolding HomeStep
from_home site (Serving its) m number item after h = h.0
from_home site home m number item after h = elim h [ ]

pub told_left : (l : Ledger) (old reserved m : ℕ) (site : Site) (home after : Home) (number : ℕ) (said : TaskLeave) (task : Task) (reply : HomeReply) (left : Option Item) → IsSaid l old reserved m site.home number said
    → HomeStep site home m (call.LeaveTask number) reply after → IsTaker said task → IsTaskAnswer said task reply left → IsToldLeft l m site.home number (call.LeaveTask number) reply left
told_left l old reserved m site home after number said task (Left item) left is step taker a =
    let may = takes l old reserved m site.home number said task is taker in
    let leaving : IsLeaving l m site.home (call.LeaveTask number) item
    = (from_home site home m number item after step, (task, may, allowed_as l old reserved m site.home number said task is may.found ∙ a.0.0, a.1)) in
    rw a.2 (takes_one_more l old reserved m site.home number item.number said is a.0.1, next_is l old reserved m site.home number item.number said is a.0.1, leaving, refl)
told_left l old reserved m site home after number said task NoLiveRow left is step taker a =
    let may = takes l old reserved m site.home number said task is taker in
    rw a.1 (refl, (task, may, allowed_as l old reserved m site.home number said task is may.found ∙ a.0))
told_left l old reserved m site home after number said task (NoOrigin serial) left is step taker a =
    let may = takes l old reserved m site.home number said task is taker in
    rw a.2 (refl, (task, may, allowed_as l old reserved m site.home number said task is may.found ∙ a.0.1.0, a.1), takes_one_more l old reserved m site.home number a.0.0 said is a.0.1.1)
told_left l old reserved m site home after number said task SourceClosed left is step taker a =
    rw a (refl, (task, takes l old reserved m site.home number said task is taker))
told_left l old reserved m site home after number said task reply left is step taker a = elim a [ ]

-- what the home's half says to it
pub half_told : (old new : HistoryValue) (l : Ledger) (had reserved : ℕ) (by : Actor) (given : Result StampValue Refusal) (name : Option (List ℕ)) (number : ℕ) (said : TaskLeave) (task : Task) (half : HomeHalf) (left : Option Item)
    → IsSaid l had reserved half.its_record.stamp.moment old.site.home number said → DoesHalf old new by given name (call.LeaveTask said.number) half → IsTaker said task → IsTaskAnswer said task half.its_record.reply left
    → IsToldLeft l half.its_record.stamp.moment half.its_record.home number half.for_ledger.0 half.for_ledger.1 left
half_told old new l had reserved by given name number said task half left is does taker a =
    let m = half.its_record.stamp.moment in
    let told = told_left l had reserved m old.site old.home new.home number said task half.its_record.reply left is
    (subst (λ (n : ℕ). HomeStep old.site old.home m (call.LeaveTask n) half.its_record.reply new.home) is.of_number does.does.step) taker a in
    subst (λ (h : HomeId). IsToldLeft l m h number half.for_ledger.0 half.for_ledger.1 left) (sym (ap (λ (r : HomeRecordValue). r.home) does.does.record_is))
    (subst (λ (c : HomeCall). IsToldLeft l m old.site.home number c half.for_ledger.1 left) (sym (does.ledger_call ∙ ap call.LeaveTask is.of_number))
    (subst (λ (r : HomeReply). IsToldLeft l m old.site.home number (call.LeaveTask number) r left) (sym does.ledger_reply) told))

-- ---- why neither half is done

passed_task : (home : HomeId) (found : Option Task) (task : Task) (later : Option Refusal) → found ≡ Some task → is_running task.status ≡ true → is_of_source home.queue task ≡ true → task_refusal home found later ≡ later
passed_task home found task later is running own = rw (is, running, own) refl

refused_first : (b : Bool) (r e : Refusal) (later : Option Refusal) → refused_if b r None ≡ Some e → refused_if b r later ≡ Some e
refused_first true r e later h = h
refused_first false r e later h = absurd cc

task_first : (home : HomeId) (found : Option Task) (later : Option Refusal) (e : Refusal) → task_refusal home found None ≡ Some e → task_refusal home found later ≡ Some e
task_first home None later e h = h
task_first home (Some task) later e h = refused_first (not (is_running task.status && is_of_source home.queue task)) UnsupportedOperation e later h

home_first : (site : Site) (home : Home) (l : Ledger) (m number : ℕ) (e : Refusal) → home_refusal site home m (call.LeaveTask number) ≡ Some e → shared_refusal site home l m (asks.LeaveTask number) ≡ Some e
unfolding shared_refusal home_refusal
home_first site Unopened l m number e h = h
home_first site Closed l m number e h = absurd cc
home_first site (Serving its) l m number e h = absurd cc

then_task : (site : Site) (home : Home) (l : Ledger) (m number : ℕ) (e : Refusal) → home_refusal site home m (call.LeaveTask number) ≡ None → task_refusal site.home (task_of number l) None ≡ Some e
    → shared_refusal site home l m (asks.LeaveTask number) ≡ Some e
unfolding shared_refusal home_refusal
then_task site Unopened l m number e none h = absurd cc
then_task site Closed l m number e none h = h
then_task site (Serving its) l m number e none h = task_first site.home (task_of number l) _ e h

-- where a live message may leave for the task, only the ledger's room is left to check
then_spare : (site : Site) (home : Home) (l : Ledger) (old reserved m number : ℕ) (said : TaskLeave) (task : Task) → IsSaid l old reserved m site.home number said → IsTaker said task → said.allowed ≡ true → has_live_row home m ≡ true
    → shared_refusal site home l m (asks.LeaveTask number) ≡ transit_refusal l
unfolding shared_refusal
then_spare site Unopened l old reserved m number said task is taker ok live = absurd cc
then_spare site Closed l old reserved m number said task is taker ok live = absurd cc
then_spare site (Serving its) l old reserved m number said task is taker ok live =
    let may = takes l old reserved m site.home number said task is taker in
    let allowed : not (is_throttled m (task_of number l)) ≡ true = sym is.allowed ∙ ok in
    passed_task site.home (task_of number l) task _ may.found may.running may.of_source ∙ rw (allowed, live) refl

is_recorded : (site : Site) (home : Home) (l : Ledger) (old reserved m number : ℕ) (said : TaskLeave) → IsSaid l old reserved m site.home number said → said.allowed ≡ true → IsUnrecorded site home l m (asks.LeaveTask number) → ⊥
is_recorded site Unopened l old reserved m number said is ok h = h
is_recorded site Closed l old reserved m number said is ok h = h
is_recorded site (Serving its) l old reserved m number said is ok h =
    let k : true ≡ false = sym ok ∙ sym (allowed_as l old reserved m site.home number said h.0 is h.1.found) ∙ h.2 in cc

task_out : (old : HistoryValue) (l : Ledger) (had reserved m number : ℕ) (said : TaskLeave) (e : Refusal) → IsSaid l had reserved m old.site.home number said
    → IsTaskRefused old.site old.home m said e → IsPairRefused old l m (asks.LeaveTask number) e
task_out old l had reserved m number said e is (inl (out, leaving)) =
    let ok = leaving.6.0 in
    let live = one_live old.home m leaving.1 leaving.5 in
    inl (out, (then_spare old.site old.home l had reserved m number said leaving.0 is leaving.4 ok live ∙ transit_passes l had reserved m old.site.home number leaving.2 said is leaving.6.1, is_recorded old.site old.home l had reserved m number said is ok, live))
task_out old l had reserved m number said e is (inr (inl h)) = inr (home_first old.site old.home l m number e (subst (λ (n : ℕ). home_refusal old.site old.home m (call.LeaveTask n) ≡ Some e) is.of_number h))
task_out old l had reserved m number said e is (inr (inr (inl (none, err)))) =
    inr (then_task old.site old.home l m number e (subst (λ (n : ℕ). home_refusal old.site old.home m (call.LeaveTask n) ≡ None) is.of_number none) (task_refuses l had reserved m old.site.home number e said is err))
task_out old l had reserved m number said e is (inr (inr (inr (taker, ok, live, err)))) =
    let passes = then_spare old.site old.home l had reserved m number said taker.0 is taker.1 ok live in
    elim (transit_refuses l had reserved m old.site.home number e said is err) [
      | inl full ↦ inr (passes ∙ full)
      | inr out ↦ inl (out.1, (passes ∙ out.0, is_recorded old.site old.home l had reserved m number said is ok, live))
    ]

pub task_refused : (old : HistoryValue) (l : Ledger) (given : Result StampValue Refusal) (had reserved number : ℕ) (said : TaskLeave) (e : Refusal)
    → ((stamp : StampValue) → given ≡ Ok stamp → IsSaid l had reserved stamp.moment old.site.home number said)
    → IsHalfRefused old ⊥ given (λ m x. IsTaskRefused old.site old.home m said x) e → IsHalfRefused old ⊥ given (λ m x. IsPairRefused old l m (asks.LeaveTask number) x) e
task_refused old l given had reserved number said e is h =
    half_out old given (λ m x. IsTaskRefused old.site old.home m said x) (λ m x. IsPairRefused old l m (asks.LeaveTask number) x) e
    (λ k. k) (λ stamp at not. task_out old l had reserved stamp.moment number said e (is stamp at) not) h

-- ---- a task at its rate

pub at_its_rate : (site : Site) (home : Home) (l : Ledger) (old reserved m number : ℕ) (said : TaskLeave) → IsSaid l old reserved m site.home number said → IsThrottled home said → IsUnrecorded site home l m (asks.LeaveTask number)
at_its_rate site Unopened l old reserved m number said is h = h.0
at_its_rate site Closed l old reserved m number said is h = h.0
at_its_rate site (Serving its) l old reserved m number said is h =
    let may = takes l old reserved m site.home number said h.1.0 is h.1.1 in
    (h.1.0, may, allowed_as l old reserved m site.home number said h.1.0 is may.found ∙ h.2)
