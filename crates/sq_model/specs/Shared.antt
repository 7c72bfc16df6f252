-- The steps that a home and the ledger do together: what is asked, which call of both it is, and why it is refused.
use Rattle.std.specs.Prelude.{◌≡◌, ℕ, Bool, true, false, not, ◌&&◌, Option, Some, None, Result, Ok, Err, if◌then◌else◌}
use Rattle.std.specs.List.{list_any}
use Rattle.sq_base.specs.StampValue.{StampValue}
use Rattle.sq_base.specs.Stamps.{after as stamp_after}
use Rattle.sq_base.specs.declared.ids.HomeId.{HomeId}
use Rattle.sq_base.specs.declared.refusal.Refusal.{Refusal}
use Rattle.sq_base.specs.declared.refusal.Refusal.TheVariants.{QueueDoesNotExist, ResourceNotFoundException, UnsupportedOperation}
use Rattle.sq_model.specs.declared.calls.HomeCall.{HomeCall}
use Rattle.sq_model.specs.declared.calls.HomeCall.TheVariants as asks
use Rattle.sq_model.specs.declared.item.Item.{Item}
use Rattle.sq_model.specs.declared.ledger.LedgerCall.TheVariants.{AtHome as CallAtHome}
use Rattle.sq_model.specs.declared.ledger.LedgerReply.TheVariants.{AtHome as ReplyAtHome}
use Rattle.sq_model.specs.declared.place.Site.{Site}
use Rattle.sq_model.specs.declared.replies.HomeReply.{HomeReply}
use Rattle.sq_model.specs.declared.shared.SharedAct.{SharedAct}
use Rattle.sq_model.specs.declared.shared.SharedAct.TheVariants.{LeaveDead, LeaveDrain, LeaveTask, Enter, TurnBack, GiveBack, Drop}
use Rattle.sq_model.specs.declared.task.Task.{Task}
use Rattle.sq_model.specs.Rows.{is_at_rest, is_dead, is_live}
use Rattle.sq_model.specs.Homes.{Home, Unopened, Serving, Closed, HasSlot, HomeStep, is_draining, may_enter, may_return, full_refusal, refused_if, unexpired_rows}
use Rattle.sq_model.specs.Tasks.{is_running, may_leave}
use Rattle.sq_model.specs.Ledgers.{Ledger, LedgerStep, MayTake, is_of_source, item_of, transit_refusal, task_of}

-- the call that is recorded: an item is handed over as it stands in the ledger
abbrev pub IsCallOf : Ledger → SharedAct → HomeCall → Type 0
IsCallOf l LeaveDead call = call ≡ asks.LeaveDead
IsCallOf l LeaveDrain call = call ≡ asks.LeaveDrain
IsCallOf l (LeaveTask number) call = call ≡ asks.LeaveTask number
IsCallOf l (Enter number) call = (item : Item) × (item_of number l ≡ Some item) × (call ≡ asks.Enter item)
IsCallOf l (TurnBack number) call = (item : Item) × (item_of number l ≡ Some item) × (call ≡ asks.TurnBack item)
IsCallOf l (GiveBack number) call = (item : Item) × (item_of number l ≡ Some item) × (call ≡ asks.GiveBack item)
IsCallOf l (Drop number) call = (item : Item) × (item_of number l ≡ Some item) × (call ≡ asks.Drop item)

-- From a home and a ledger, at m, both may give this reply to the call, and go on to these. It is one step: one event that stands in both histories.
pub record SharedStep (site : Site) (home : Home) (l : Ledger) (m : ℕ) (call : HomeCall) (reply : HomeReply) (after : Home) (l_after : Ledger) : Type 0 where
  pub at_home : HomeStep site home m call reply after
  pub in_ledger : LedgerStep l m (CallAtHome site.home call) (ReplyAtHome reply) l_after

-- an item that is there, and may come in at the home, or back to it
abbrev pub is_entering : HomeId → Option Item → Bool
is_entering home None = false
is_entering home (Some item) = may_enter home item

abbrev pub is_returning : HomeId → Option Item → Bool
is_returning home None = false
is_returning home (Some item) = may_return home item

-- a task that takes messages of this home; what else is wrong comes later
abbrev pub task_refusal : HomeId → Option Task → Option Refusal → Option Refusal
task_refusal home None later = Some ResourceNotFoundException
task_refusal home (Some task) later = refused_if (not (is_running task.status && is_of_source home.queue task)) UnsupportedOperation later

-- a task at its rate for this second
abbrev pub is_throttled : ℕ → Option Task → Bool
is_throttled m None = false
is_throttled m (Some task) = not (may_leave m task)

-- the first check that fails. A dead letter's leave without a dead row, a drain's that finds no row at rest, and a task's that is throttled or finds no live row, ask for no place in the ledger.
unfoldable pub shared_refusal : Site → Home → Ledger → ℕ → SharedAct → Option Refusal
shared_refusal site Unopened l m act = Some QueueDoesNotExist
shared_refusal site (Serving its) l m LeaveDead = if list_any (is_dead its.settings m) (unexpired_rows its m) then transit_refusal l else None
shared_refusal site (Serving its) l m LeaveDrain =
    refused_if (not (is_draining its.mode)) UnsupportedOperation (if list_any (is_at_rest m) (unexpired_rows its m) then transit_refusal l else None)
shared_refusal site (Serving its) l m (LeaveTask number) =
    task_refusal site.home (task_of number l) (if not (is_throttled m (task_of number l)) && list_any (is_live its.settings m) (unexpired_rows its m) then transit_refusal l else None)
shared_refusal site (Serving its) l m (Enter number) =
    full_refusal site.limits its.mode its.next (unexpired_rows its m) (refused_if (not (is_entering site.home (item_of number l))) UnsupportedOperation None)
shared_refusal site (Serving its) l m (TurnBack number) = Some UnsupportedOperation
shared_refusal site (Serving its) l m (GiveBack number) =
    full_refusal site.limits its.mode its.next (unexpired_rows its m) (refused_if (not (is_returning site.home (item_of number l))) UnsupportedOperation None)
shared_refusal site (Serving its) l m (Drop number) = Some UnsupportedOperation
shared_refusal site Closed l m LeaveDead = Some QueueDoesNotExist
shared_refusal site Closed l m LeaveDrain = Some QueueDoesNotExist
shared_refusal site Closed l m (LeaveTask number) = task_refusal site.home (task_of number l) None
shared_refusal site Closed l m (Enter number) = Some QueueDoesNotExist
shared_refusal site Closed l m (TurnBack number) = refused_if (not (is_entering site.home (item_of number l))) UnsupportedOperation None
shared_refusal site Closed l m (GiveBack number) = Some QueueDoesNotExist
shared_refusal site Closed l m (Drop number) = refused_if (not (is_returning site.home (item_of number l))) UnsupportedOperation None

-- An answer that is no step and changes nothing: no dead row is there, no row of a home that drains is at rest, or a task that may take messages of this home is at its rate.
abbrev pub IsUnrecorded : Site → Home → Ledger → ℕ → SharedAct → Type 0
IsUnrecorded site (Serving its) l m LeaveDead = list_any (is_dead its.settings m) (unexpired_rows its m) ≡ false
IsUnrecorded site (Serving its) l m LeaveDrain = (is_draining its.mode ≡ true) × (list_any (is_at_rest m) (unexpired_rows its m) ≡ false)
IsUnrecorded site (Serving its) l m (LeaveTask number) = (task : Task) × MayTake l site.home.queue number task × (may_leave m task ≡ false)
IsUnrecorded site (Serving its) l m act = ⊥
IsUnrecorded site Unopened l m act = ⊥
IsUnrecorded site Closed l m act = ⊥

-- the stamp after one that was just given, if it was
abbrev pub after_given : Result StampValue Refusal → StampValue → ℕ → Result StampValue Refusal
after_given (Ok given) seen now = stamp_after given seen now
after_given (Err refusal) seen now = Err refusal

-- The stamp of a step of a home and the ledger: above the last one of each, then above the last one that the actor has seen, and not before the clock reading.
abbrev pub shared_stamp : StampValue → StampValue → StampValue → ℕ → Result StampValue Refusal
shared_stamp home ledger seen now = after_given (stamp_after home ledger now) seen now

-- a step that is asked can be done
pub record HasSharedStep (site : Site) (home : Home) (l : Ledger) (m : ℕ) (act : SharedAct) : Type 0 where
  pub call : HomeCall
  pub reply : HomeReply
  pub after : Home
  pub l_after : Ledger
  pub is_asked : IsCallOf l act call
  pub slot : HasSlot reply
  pub step : SharedStep site home l m call reply after l_after
