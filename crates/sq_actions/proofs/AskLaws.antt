-- What the steps of a call get for a reply, and why they are refused, whatever the parts that they are done on lie in.
use Rattle.std.proofs.Common.{◌≡◌, ◌⊎◌, ℕ, ◌+◌, Bool, true, false, not, ◌&&◌, ◌||◌, List, length, Option, Some, None, Result, Ok, Err, subst, inl, inr}
use Rattle.std.specs.Prelude.{max, nat_le, nat_lt, if◌then◌else◌}
use Rattle.sq_base.specs.Stamps.{stamp_end, next_at, after, stamped}
use Rattle.sq_base.specs.StampValue.{StampValue}
use Rattle.sq_base.specs.declared.ids.HomeId.{HomeId}
use Rattle.sq_base.specs.declared.refusal.Refusal.{Refusal}
use Rattle.sq_base.specs.declared.refusal.Refusal.TheVariants.{NoMemory, ClockRange, Worn, InvalidAttributeValue, InvalidParameterValue, PurgeQueueInProgress, QueueDoesNotExist, OverLimit, ReceiptHandleIsInvalid, ResourceNotFoundException, MessageNotInflight, UnsupportedOperation, HomeDraining}
use Rattle.std.specs.List.{list_any}
use Rattle.sq_base.specs.declared.row.Row.{Row}
use Rattle.sq_model.specs.Directories.{Directory, DirectoryStep, MoveEnds, agrees, create_refusal, deleted_recently, directory_refusal, last_version, may_have, can_redrive, move_between, move_from, move_to, purged_recently, queue_of, refused_at}
use Rattle.sq_model.specs.declared.task.NamedQueue.{NamedQueue}
use Rattle.sq_model.specs.declared.ledger.LedgerReply.{LedgerReply}
use Rattle.sq_model.specs.declared.ledger.LedgerReply.TheVariants as ledger
use Rattle.sq_steps.specs.declared.act.TaskAct.{TaskAct}
use Rattle.sq_steps.specs.declared.act.TaskAct.TheVariants as task
use Rattle.sq_steps.specs.TaskActs.{task_call}
use Rattle.sq_model.specs.declared.directory.Attributes.{Attributes}
use Rattle.sq_model.specs.declared.directory.DirectoryCall.{DirectoryCall}
use Rattle.sq_model.specs.declared.directory.DirectoryCall.TheVariants as asks
use Rattle.sq_model.specs.declared.directory.DirectoryReply.{DirectoryReply}
use Rattle.sq_model.specs.declared.directory.DirectoryReply.TheVariants as answers
use Rattle.sq_model.specs.declared.directory.Queue.{Queue}
use Rattle.sq_model.specs.Rows.{ms, is_at_rest, is_dead, is_held, is_late, is_live}
use Rattle.sq_model.specs.declared.task.Task.{Task}
use Rattle.sq_model.specs.Tasks.{is_running}
use Rattle.sq_model.specs.Ledgers.{Ledger, LedgerStep, cancel_refusal, finish_refusal, in_transit, is_of_source, item_of, last_number, ledger_refusal, transit_refusal, task_of}
use Rattle.sq_model.specs.Shared.{after_given, is_entering, is_returning, is_throttled, shared_refusal, task_refusal}
use Rattle.sq_model.specs.declared.shared.SharedAct.{SharedAct}
use Rattle.sq_model.specs.declared.shared.SharedAct.TheVariants as move
use Rattle.sq_model.specs.Homes.{Home, Unopened, Serving, Closed, last_serial, slots, HomeStep, accepts, home_refusal, full_refusal, is_draining, refused_if, unexpired_rows}
use Rattle.sq_model.specs.declared.home_mode.HomeMode.{HomeMode}
use Rattle.sq_model.specs.declared.place.Site.{Site}
use Rattle.sq_model.specs.declared.replies.HomeReply.{HomeReply}
use Rattle.sq_model.specs.declared.replies.HomeReply.TheVariants as reply
use Rattle.sq_history.specs.declared.act.HomeAct.{HomeAct}
use Rattle.sq_history.specs.declared.act.HomeAct.TheVariants as act
use Rattle.sq_history.specs.Acts.{call_of}
use Rattle.sq_history.specs.HistoryValue.{HistoryValue}
use Rattle.sq_actions.specs.Asks.{AskDirectory, AskHome, AskShared, Redriven, AskLedger, IsAnswerTo, IsReplyTo, IsToldTo, IsOfAnyStep, IsOfAct, IsOfMove, MayRefuseDirectory, IsOfTask, MayRefuse}
use Rattle.sq_model.specs.RecordValues.{Journal}
use Rattle.sq_actions.proofs.ReceivedLaws.{step_received}
use Rattle.sq_steps.specs.Journals.{worn_at, IsNotReady, HomeMoves, DirectoryMoves, LedgerMoves, IsHomeRefused, IsDirectoryStepRefused, IsLedgerStepRefused}
use Rattle.sq_steps.specs.SharedSteps.{IsSharedRefused}
use Rattle.sq_directory.specs.DirectoryHistory.{DirectoryHistory}
use Rattle.sq_ledger.specs.LedgerHistory.{LedgerHistory}

-- what a home replies to an act
reply_is : (site : Site) (home : Home) (m : ℕ) (a : HomeAct) (by : HomeReply) (after : Home) → HomeStep site home m (call_of a) by after → IsReplyTo a by
unfolding HomeStep
reply_is site home m (act.Configure settings version) reply.Done after h = tt
reply_is site home m act.Close reply.Done after h = tt
reply_is site home m (act.Send body delay) (reply.Sent sent) after h = tt
reply_is site home m (act.Look max timeout) (reply.Looked rows) after h = step_received site home m max timeout rows after h
reply_is site home m (act.Look max timeout) reply.Over after h = tt
reply_is site home m (act.Delete receipt) reply.Done after h = tt
reply_is site home m (act.Change receipt timeout) reply.Done after h = tt
reply_is site home m act.Purge reply.Done after h = tt
reply_is site home m act.Count (reply.Counted counts) after h = tt
reply_is site home m act.StartDrain reply.Done after h = tt
reply_is site home m act.FinishDrain reply.Done after h = tt
reply_is site Unopened m a by after h = elim h [ ]
reply_is site (Serving its) m a by after h = elim h [ ]
reply_is site Closed m a by after h = elim h [ ]

refused_cases : (test : Bool) (r : Refusal) (later : Option Refusal) (e : Refusal) → refused_if test r later ≡ Some e → (e ≡ r) ⊎ (later ≡ Some e)
refused_cases true r later e h = inl cc
refused_cases false r later e h = inr h

no_refusal : (e : Refusal) → None ≡ Some e → ⊥
no_refusal e h = absurd cc

one_case : (test : Bool) (r e : Refusal) → refused_if test r None ≡ Some e → e ≡ r
one_case test r e h = elim (refused_cases test r None e h) [ inl is ↦ is | inr none ↦ absurd (no_refusal e none) ]

two_cases : (a b : Bool) (x y e : Refusal) → refused_if a x (refused_if b y None) ≡ Some e → (e ≡ x) ⊎ (e ≡ y)
two_cases a b x y e h = elim (refused_cases a x (refused_if b y None) e h) [ inl is ↦ inl is | inr rest ↦ inr (one_case b y e rest) ]

three_cases : (a b c : Bool) (x y z e : Refusal) → refused_if a x (refused_if b y (refused_if c z None)) ≡ Some e → (e ≡ x) ⊎ (e ≡ y) ⊎ (e ≡ z)
three_cases a b c x y z e h = elim (refused_cases a x (refused_if b y (refused_if c z None)) e h) [
  | inl is ↦ inl is
  | inr rest ↦ elim (two_cases b c y z e rest) [ inl is ↦ inr (inl is) | inr is ↦ inr (inr is) ]
]

-- why a home refuses an act
refusal_is : (site : Site) (home : Home) (m : ℕ) (a : HomeAct) (e : Refusal) → home_refusal site home m (call_of a) ≡ Some e → IsOfAnyStep e ⊎ (e ≡ QueueDoesNotExist) ⊎ IsOfAct a e
unfolding home_refusal
refusal_is site (Serving its) m (act.Configure settings version) e h = absurd cc
refusal_is site Unopened m (act.Configure settings version) e h = absurd cc
refusal_is site Closed m (act.Configure settings version) e h = inr (inl cc)
refusal_is site (Serving its) m act.Close e h = absurd cc
refusal_is site Unopened m act.Close e h = absurd cc
refusal_is site Closed m act.Close e h = inr (inl cc)
refusal_is site (Serving its) m (act.Send body delay) e h =
    let kept : List Row = unexpired_rows its m in
    elim (three_cases (not (accepts its.mode)) (nat_le last_serial its.next || nat_le slots (length kept)) (nat_le site.limits.rows (length kept)) HomeDraining Worn OverLimit e h) [
      | inl draining ↦ inr (inr (inl draining))
      | inr rest ↦ elim rest [ inl worn ↦ inl (inr (inr worn)) | inr over ↦ inr (inr (inr over)) ]
    ]
refusal_is site Unopened m (act.Send body delay) e h = inr (inl cc)
refusal_is site Closed m (act.Send body delay) e h = inr (inl cc)
refusal_is site (Serving its) m (act.Look max timeout) e h = absurd cc
refusal_is site Unopened m (act.Look max timeout) e h = inr (inl cc)
refusal_is site Closed m (act.Look max timeout) e h = inr (inl cc)
refusal_is site (Serving its) m (act.Delete receipt) e h = inr (inr (one_case (nat_le its.next receipt.serial) ReceiptHandleIsInvalid e h))
refusal_is site Unopened m (act.Delete receipt) e h = inr (inl cc)
refusal_is site Closed m (act.Delete receipt) e h = inr (inl cc)
refusal_is site (Serving its) m (act.Change receipt timeout) e h =
    let kept : List Row = unexpired_rows its m in
    inr (inr (three_cases (nat_le its.next receipt.serial) (not (list_any (is_held m receipt) kept)) (list_any (λ row. is_held m receipt row && is_late (m + ms timeout) row.last_receive) kept) ReceiptHandleIsInvalid MessageNotInflight InvalidParameterValue e h))
refusal_is site Unopened m (act.Change receipt timeout) e h = inr (inl cc)
refusal_is site Closed m (act.Change receipt timeout) e h = inr (inl cc)
refusal_is site (Serving its) m act.Purge e h = absurd cc
refusal_is site Unopened m act.Purge e h = inr (inl cc)
refusal_is site Closed m act.Purge e h = inr (inl cc)
refusal_is site (Serving its) m act.Count e h = absurd cc
refusal_is site Unopened m act.Count e h = inr (inl cc)
refusal_is site Closed m act.Count e h = inr (inl cc)
refusal_is site (Serving its) m act.StartDrain e h = absurd cc
refusal_is site Unopened m act.StartDrain e h = inr (inl cc)
refusal_is site Closed m act.StartDrain e h = inr (inl cc)
refusal_is site (Serving its) m act.FinishDrain e h = inr (inr (one_case (not (is_draining its.mode) || nat_lt 0 (length (unexpired_rows its m))) UnsupportedOperation e h))
refusal_is site Unopened m act.FinishDrain e h = inr (inl cc)
refusal_is site Closed m act.FinishDrain e h = inr (inl cc)

-- why no stamp is given
if_err : {X : Type 0} (test : Bool) (r e : Refusal) (other : Result X Refusal) → (if test then Err r else other) ≡ Err e → (e ≡ r) ⊎ (other ≡ Err e)
if_err true r e other h = inl cc
if_err false r e other h = inr h

ok_is_no_err : {X : Type 0} (x : X) (e : Refusal) → Ok x ≡ Err e → ⊥
ok_is_no_err x e h = absurd cc

after_refused : (a b : StampValue) (now : ℕ) (e : Refusal) → after a b now ≡ Err e → IsOfAnyStep e
after_refused a b now e h =
    let moment : ℕ = max (max a.moment b.moment) now in
    let count : ℕ = max (next_at a moment) (next_at b moment) in
    elim (if_err (nat_le stamp_end now) ClockRange e (stamped moment count) h) [
      | inl clock ↦ inr (inl clock)
      | inr rest ↦ elim (if_err (nat_le stamp_end count) Worn e (Ok (record { moment = moment; count = count })) rest) [
        | inl worn ↦ inr (inr worn)
        | inr none ↦ absurd (ok_is_no_err {X = StampValue} (record { moment = moment; count = count }) e none)
      ]
    ]

worn_refused : (now : ℕ) (e : Refusal) → e ≡ worn_at now → IsOfAnyStep e
worn_refused now e h = elim (nat_le stamp_end now) as (λ v. e ≡ (if v then ClockRange else Worn) → IsOfAnyStep e) [ true ↦ (λ k. inr (inl k)) | false ↦ (λ k. inr (inr k)) ] h

-- why an actor does no step
not_ready : (journal : Journal) (now : ℕ) (e : Refusal) → IsNotReady journal now e → IsOfAnyStep e
not_ready journal now e h = elim h [ inl worn ↦ worn_refused now e worn.1 | inr full ↦ inl full.1 ]

-- why a step of a home and the ledger is refused
transit_cases : (l : Ledger) (e : Refusal) → transit_refusal l ≡ Some e → IsOfAnyStep e ⊎ (e ≡ OverLimit)
transit_cases l e h = elim (two_cases (nat_le last_number l.next_item) (nat_le l.limit (length l.items)) Worn OverLimit e h) [ inl worn ↦ inl (inr (inr worn)) | inr over ↦ inr over ]

dead_cases : (l : Ledger) (test : Bool) (e : Refusal) → (if test then transit_refusal l else None) ≡ Some e → IsOfAnyStep e ⊎ (e ≡ OverLimit)
dead_cases l true e h = transit_cases l e h
dead_cases l false e h = absurd (no_refusal e h)

-- why a leave for a task is refused, where its own checks come first
task_cases : (home : HomeId) (number : ℕ) (found : Option Task) (later : Option Refusal) (e : Refusal) → ((later ≡ Some e) → IsOfAnyStep e ⊎ (e ≡ OverLimit)) → task_refusal home found later ≡ Some e
    → IsOfAnyStep e ⊎ (e ≡ QueueDoesNotExist) ⊎ IsOfMove (move.LeaveTask number) e
task_cases home number None later e own h = inr (inr (inl cc))
task_cases home number (Some task) later e own h = elim (refused_cases (not (is_running task.status && is_of_source home.queue task)) UnsupportedOperation later e h) [
  | inl over ↦ inr (inr (inr (inl over)))
  | inr rest ↦ elim (own rest) [ inl any ↦ inl any | inr full ↦ inr (inr (inr (inr full))) ]
]

-- why an item does not come in at a home that serves, where it is not for this home or else
arrival_is : (site : Site) (mode : HomeMode) (n : ℕ) (rows : List Row) (other : Bool) (e : Refusal) → full_refusal site.limits mode n rows (refused_if other UnsupportedOperation None) ≡ Some e
    → IsOfAnyStep e ⊎ (e ≡ QueueDoesNotExist) ⊎ (e ≡ HomeDraining) ⊎ (e ≡ OverLimit) ⊎ (e ≡ UnsupportedOperation)
arrival_is site mode n rows other e h =
    elim (refused_cases (not (accepts mode)) HomeDraining _ e h) [
      | inl draining ↦ inr (inr (inl draining))
      | inr taking ↦ elim (three_cases (nat_le last_serial n || nat_le slots (length rows)) (nat_le site.limits.rows (length rows)) other Worn OverLimit UnsupportedOperation e taking) [ inl worn ↦ inl (inr (inr worn)) | inr rest ↦ inr (inr (inr rest)) ]
    ]

shared_is : (site : Site) (home : Home) (l : Ledger) (m : ℕ) (what : SharedAct) (e : Refusal) → shared_refusal site home l m what ≡ Some e → IsOfAnyStep e ⊎ (e ≡ QueueDoesNotExist) ⊎ IsOfMove what e
unfolding shared_refusal
shared_is site Unopened l m what e h = inr (inl cc)
shared_is site (Serving its) l m move.LeaveDead e h = elim (dead_cases l (list_any (is_dead its.settings m) (unexpired_rows its m)) e h) [ inl any ↦ inl any | inr over ↦ inr (inr over) ]
shared_is site (Serving its) l m move.LeaveDrain e h = elim (refused_cases (not (is_draining its.mode)) UnsupportedOperation _ e h) [
  | inl over ↦ inr (inr (inl over))
  | inr rest ↦ elim (dead_cases l (list_any (is_at_rest m) (unexpired_rows its m)) e rest) [ inl any ↦ inl any | inr full ↦ inr (inr (inr full)) ]
]
shared_is site (Serving its) l m (move.LeaveTask number) e h =
    task_cases site.home number (task_of number l) _ e (λ later. dead_cases l (not (is_throttled m (task_of number l)) && list_any (is_live its.settings m) (unexpired_rows its m)) e later) h
shared_is site (Serving its) l m (move.Enter number) e h = arrival_is site its.mode its.next (unexpired_rows its m) (not (is_entering site.home (item_of number l))) e h
shared_is site (Serving its) l m (move.TurnBack number) e h = inr (inr cc)
shared_is site (Serving its) l m (move.GiveBack number) e h = arrival_is site its.mode its.next (unexpired_rows its m) (not (is_returning site.home (item_of number l))) e h
shared_is site (Serving its) l m (move.Drop number) e h = inr (inr cc)
shared_is site Closed l m move.LeaveDead e h = inr (inl cc)
shared_is site Closed l m move.LeaveDrain e h = inr (inl cc)
shared_is site Closed l m (move.LeaveTask number) e h = task_cases site.home number (task_of number l) None e (λ later. absurd (no_refusal e later)) h
shared_is site Closed l m (move.Enter number) e h = inr (inl cc)
shared_is site Closed l m (move.TurnBack number) e h = inr (inr (one_case (not (is_entering site.home (item_of number l))) UnsupportedOperation e h))
shared_is site Closed l m (move.GiveBack number) e h = inr (inl cc)
shared_is site Closed l m (move.Drop number) e h = inr (inr (one_case (not (is_returning site.home (item_of number l))) UnsupportedOperation e h))

-- why no stamp of both is given
given_refused : (given : Result StampValue Refusal) (seen : StampValue) (now : ℕ) (e : Refusal) → ((x : Refusal) → given ≡ Err x → IsOfAnyStep x) → after_given given seen now ≡ Err e → IsOfAnyStep e
given_refused (Ok stamp) seen now e first h = after_refused stamp seen now e h
given_refused (Err x) seen now e first h = first e h

-- why a step is refused whose actor is ready: no memory, no stamp, or what else is said of it
step_may : {A C G P : Type 0} (e : Refusal) → ((e ≡ NoMemory) × A) ⊎ C ⊎ G → (C → IsOfAnyStep e) → (G → IsOfAnyStep e ⊎ P) → IsOfAnyStep e ⊎ P
step_may e h clock own = elim h [ inl memory ↦ inl (inl memory.0) | inr rest ↦ elim rest [ inl c ↦ inl (clock c) | inr g ↦ own g ] ]

create_cases : (d : Directory) (m : ℕ) (name : List ℕ) (given : Attributes) (found : Option Queue) (e : Refusal) → create_refusal d m name given found ≡ Some e → MayRefuseDirectory (asks.Create name given) e
create_cases d m name given None e h = inr (three_cases (deleted_recently m name d.deleted) (not (may_have d.queues name given.redrive)) (nat_le d.most d.made) _ _ _ e h)
create_cases d m name given (Some queue) e h = inl (one_case (not (agrees given queue)) _ e h)

-- a queue that is not there is told before what its own checks say
refused_there : (found : Option Queue) (later : Queue → Option Refusal) (e : Refusal) → refused_at found later ≡ Some e → (e ≡ QueueDoesNotExist) ⊎ ((queue : Queue) × (later queue ≡ Some e))
refused_there None later e h = inl cc
refused_there (Some queue) later e h = inr (queue, h)

-- and a call that has none is refused so alone
not_there : (found : Option Queue) (e : Refusal) → refused_at found (λ queue. None) ≡ Some e → e ≡ QueueDoesNotExist
not_there found e h = elim (refused_there found (λ queue. None) e h) [ inl none ↦ none | inr other ↦ absurd (no_refusal e other.1) ]

set_cases : (d : Directory) (name : List ℕ) (given : Attributes) (found : Option Queue) (e : Refusal)
    → refused_at found (λ queue. refused_if (nat_le last_version queue.version) Worn (refused_if (not (may_have d.queues name given.redrive)) InvalidAttributeValue None)) ≡ Some e → IsOfAnyStep e ⊎ MayRefuseDirectory (asks.Set name given) e
set_cases d name given found e h = elim (refused_there found _ e h) [
  | inl none ↦ inr (inl none)
  | inr own ↦ elim (two_cases (nat_le last_version own.0.version) (not (may_have d.queues name given.redrive)) Worn InvalidAttributeValue e own.1) [ inl worn ↦ inl (inr (inr worn)) | inr value ↦ inr (inr value) ]
]

purge_cases : (m : ℕ) (name : List ℕ) (found : Option Queue) (e : Refusal) → refused_at found (λ queue. refused_if (purged_recently m queue.last_purge) PurgeQueueInProgress None) ≡ Some e → MayRefuseDirectory (asks.PurgeTicket name) e
purge_cases m name found e h = elim (refused_there found _ e h) [ inl none ↦ inl none | inr own ↦ inr (one_case (purged_recently m own.0.last_purge) PurgeQueueInProgress e own.1) ]

directory_cases : (d : Directory) (m : ℕ) (call : DirectoryCall) (e : Refusal) → directory_refusal d m call ≡ Some e → IsOfAnyStep e ⊎ MayRefuseDirectory call e
unfolding directory_refusal
directory_cases d m (asks.Create name given) e h = inr (create_cases d m name given (queue_of name d.queues) e h)
directory_cases d m (asks.Set name given) e h = set_cases d name given (queue_of name d.queues) e h
directory_cases d m (asks.Remove name) e h = inr (not_there (queue_of name d.queues) e h)
directory_cases d m (asks.PurgeTicket name) e h = inr (purge_cases m name (queue_of name d.queues) e h)
directory_cases d m (asks.Url name) e h = inr (not_there (queue_of name d.queues) e h)
directory_cases d m (asks.List prefix) e h = absurd (no_refusal e h)
directory_cases d m (asks.Sources name) e h = inr (not_there (queue_of name d.queues) e h)
directory_cases d m (asks.Read name) e h = inr (not_there (queue_of name d.queues) e h)

-- what the directory answers to a call
directory_reply : (d : Directory) (m : ℕ) (call : DirectoryCall) (by : DirectoryReply) (after : Directory) → DirectoryStep d m call by after → IsAnswerTo call by
unfolding DirectoryStep
directory_reply d m (asks.Create name given) (answers.Made made) after h = tt
directory_reply d m (asks.Set name given) (answers.Changed changed) after h = tt
directory_reply d m (asks.Remove name) (answers.Removed number) after h = tt
directory_reply d m (asks.PurgeTicket name) (answers.Ticket number) after h = tt
directory_reply d m (asks.Url name) (answers.Found number) after h = tt
directory_reply d m (asks.List prefix) (answers.Listed names) after h = tt
directory_reply d m (asks.Sources name) (answers.Sources names) after h = tt
directory_reply d m (asks.Read name) (answers.Read attributes) after h = tt
directory_reply d m call by after h = elim h [ ]

cancel_cases : (found : Option Task) (e : Refusal) → cancel_refusal found ≡ Some e → (e ≡ ResourceNotFoundException) ⊎ (e ≡ UnsupportedOperation)
cancel_cases None e h = inl cc
cancel_cases (Some found) e h = inr (one_case _ UnsupportedOperation e h)

finish_cases : (waiting : ℕ) (found : Option Task) (e : Refusal) → finish_refusal waiting found ≡ Some e → (e ≡ ResourceNotFoundException) ⊎ (e ≡ UnsupportedOperation)
finish_cases waiting None e h = inl cc
finish_cases waiting (Some found) e h = inr (one_case _ UnsupportedOperation e h)

own_cases : (l : Ledger) (m : ℕ) (what : TaskAct) (e : Refusal) → ledger_refusal l m (task_call what) ≡ Some e → IsOfAnyStep e ⊎ IsOfTask what e
unfolding ledger_refusal
own_cases l m (task.Start asked) e h = elim (three_cases _ _ _ Worn UnsupportedOperation OverLimit e h) [ inl worn ↦ inl (inr (inr worn)) | inr rest ↦ inr rest ]
own_cases l m (task.Cancel number) e h = inr (cancel_cases (task_of number l) e h)
own_cases l m (task.List source most) e h = absurd (no_refusal e h)
own_cases l m (task.Finish number) e h = inr (finish_cases (in_transit number l.items) (task_of number l) e h)

-- what the ledger tells of a step of its own
told_is : (l : Ledger) (m : ℕ) (what : TaskAct) (by : LedgerReply) (after : Ledger) → LedgerStep l m (task_call what) by after → IsToldTo what by
unfolding LedgerStep
told_is l m (task.Start asked) (ledger.Started number) after h = tt
told_is l m (task.Cancel number) (ledger.Cancelled moved) after h = tt
told_is l m (task.List source most) (ledger.Listed tasks) after h = tt
told_is l m (task.Finish number) ledger.Finished after h = tt
told_is l m (task.Start asked) by after h = elim h [ ]
told_is l m (task.Cancel number) by after h = elim h [ ]
told_is l m (task.List source most) by after h = elim h [ ]
told_is l m (task.Finish number) by after h = elim h [ ]

-- between which queues messages may not be moved
chosen_err : {X : Type 0} (test : Bool) (x : X) (r e : Refusal) → (if test then Ok x else Err r) ≡ Err e → e ≡ r
chosen_err true x r e h = absurd (ok_is_no_err x e h)
chosen_err false x r e h = cc

from_cases : (d : Directory) (source : Queue) (destination : Option NamedQueue) (e : Refusal) → move_from d source destination ≡ Err e → e ≡ UnsupportedOperation
from_cases d source destination e h = chosen_err {X = MoveEnds} _ _ UnsupportedOperation e h

to_cases : (d : Directory) (source : Queue) (found : Option Queue) (e : Refusal) → move_to d source found ≡ Err e → (e ≡ ResourceNotFoundException) ⊎ (e ≡ UnsupportedOperation)
to_cases d source None e h = inl cc
to_cases d source (Some destination) e h = inr (from_cases d source _ e h)

between_cases : (d : Directory) (found : Option Queue) (destination : Option (List ℕ)) (e : Refusal) → move_between d found destination ≡ Err e → (e ≡ ResourceNotFoundException) ⊎ (e ≡ UnsupportedOperation)
between_cases d None destination e h = inl cc
between_cases d (Some source) None e h = inr (from_cases d source None e h)
between_cases d (Some source) (Some name) e h = to_cases d source (queue_of name d.queues) e h

-- why a step at a home is refused that is not there
pub nowhere_may : {P : Type 0} (now : ℕ) (e : Refusal) → e ≡ (if nat_le stamp_end now then ClockRange else QueueDoesNotExist) → IsOfAnyStep e ⊎ (e ≡ QueueDoesNotExist) ⊎ P
nowhere_may {P} now e is = elim (nat_le stamp_end now) as (λ v. e ≡ (if v then ClockRange else QueueDoesNotExist) → IsOfAnyStep e ⊎ (e ≡ QueueDoesNotExist) ⊎ P) [ true ↦ (λ k. inl (inr (inl k))) | false ↦ (λ k. inr (inl k)) ] is

-- why a step of a home is refused, of a home that is there
pub home_may : (h : HistoryValue) (b : Journal) (now : ℕ) (name : Option (List ℕ)) (id : HomeId) (a : HomeAct) (e : Refusal) → IsHomeRefused h b now (call_of a) e → MayRefuse (AskHome name id a) e
home_may h b now name id a e refused = elim refused [
  | inl unready ↦ inl (not_ready b now e unready)
  | inr step ↦ step_may e step.1 (λ clock. after_refused _ _ now e clock) (λ own. elim own.2 [ inl copied ↦ inl (inl copied.0) | inr not ↦ refusal_is _ _ _ a e not ])
]

pub shared_may : (h : HistoryValue) (l : LedgerHistory) (b : Journal) (now : ℕ) (name : Option (List ℕ)) (id : HomeId) (what : SharedAct) (e : Refusal) → IsSharedRefused h l b now what e → MayRefuse (AskShared name id what) e
shared_may h l b now name id what e refused = elim refused [
  | inl unready ↦ inl (not_ready b now e unready)
  | inr step ↦ step_may e step.1 (λ clock. given_refused _ _ now e (λ x given. after_refused _ _ now x given) clock) (λ own. elim own.2 [ inl copied ↦ inl (inl copied.0) | inr not ↦ shared_is _ _ _ _ what e not ])
]

pub directory_may : (d : DirectoryHistory) (b : Journal) (now : ℕ) (call : DirectoryCall) (e : Refusal) → IsDirectoryStepRefused d b now call e → MayRefuse (AskDirectory call) e
directory_may d b now call e refused = elim refused [
  | inl unready ↦ inl (not_ready b now e unready)
  | inr step ↦ step_may e step.1 (λ clock. after_refused _ _ now e clock) (λ own. directory_cases _ _ call e own.2)
]

pub ledger_may : (l : LedgerHistory) (b : Journal) (now : ℕ) (what : TaskAct) (e : Refusal) → IsLedgerStepRefused l b now (task_call what) e → MayRefuse (AskLedger what) e
ledger_may l b now what e refused = elim refused [
  | inl unready ↦ inl (not_ready b now e unready)
  | inr step ↦ step_may e step.1 (λ clock. after_refused _ _ now e clock) (λ own. own_cases _ _ what e own.2)
]

pub redriven_may : (d : Directory) (source : List ℕ) (destination : Option (List ℕ)) (e : Refusal) → can_redrive source destination d ≡ Err e → MayRefuse (Redriven source destination) e
redriven_may d source destination e refused =
    elim (between_cases d (queue_of source d.queues) destination e refused) [ inl none ↦ inl none | inr other ↦ inr (inl other) ]

-- and what they are replied
pub home_reply : (old new : HistoryValue) (a b : Journal) (now : ℕ) (name : Option (List ℕ)) (what : HomeAct) (by : HomeReply) → HomeMoves old new a b now name (call_of what) by → IsReplyTo what by
home_reply old new a b now name what by moves = subst (λ (r : HomeReply). IsReplyTo what r) moves.answered (reply_is _ _ _ what moves.its_record.reply _ moves.does.step)

pub directory_told : (old new : DirectoryHistory) (a b : Journal) (now : ℕ) (call : DirectoryCall) (by : DirectoryReply) → DirectoryMoves old new a b now call by → IsAnswerTo call by
directory_told old new a b now call by moves = subst (λ (r : DirectoryReply). IsAnswerTo call r) moves.answered (directory_reply _ _ call moves.its_record.reply _ moves.does.step)

pub ledger_told : (old new : LedgerHistory) (a b : Journal) (now : ℕ) (what : TaskAct) (by : LedgerReply) → LedgerMoves old new a b now (task_call what) by → IsToldTo what by
ledger_told old new a b now what by moves = subst (λ (r : LedgerReply). IsToldTo what r) moves.answered (told_is _ _ what moves.its_record.reply _ moves.does.step)
