-- Runs that are computed: each step is done where it can be, with the first message of those that it may take. What comes out is a run.
use Rattle.std.proofs.Common.{◌≡◌, ℕ, suc, ◌+◌, ◌<◌, ◌≤◌, Bool, true, false, not, cond, refl, List, [], ◌∷◌, ◌++◌, length, ap, sym, ◌∙◌, subst, arith, Option, Some, None}
use Rattle.std.specs.Prelude.{◌&&◌, nat_le, nat_lt, count_by, filter, find, map, min, take, unwrap_or, slice_get, slice_set}
use Rattle.std.specs.List.{list_any}
use Rattle.std.proofs.lemmas.Grind.{common_steps}
use Rattle.sq_base.specs.declared.row.Row.{Row}
use Rattle.sq_model.specs.declared.calls.HomeCall.{HomeCall}
use Rattle.sq_model.specs.declared.calls.HomeCall.TheVariants as asks
use Rattle.sq_model.specs.declared.directory.Attributes.{Attributes}
use Rattle.sq_model.specs.declared.directory.DirectoryCall.{DirectoryCall}
use Rattle.sq_model.specs.declared.directory.DirectoryCall.TheVariants as directory_asks
use Rattle.sq_model.specs.declared.directory.DirectoryReply.{DirectoryReply}
use Rattle.sq_model.specs.declared.directory.DirectoryReply.TheVariants as answers
use Rattle.sq_model.specs.declared.directory.Queue.{Queue}
use Rattle.sq_model.specs.declared.home_mode.HomeMode.{HomeMode}
use Rattle.sq_model.specs.declared.home_mode.HomeMode.TheVariants.{Accepting, Drained}
use Rattle.sq_model.specs.declared.item.Item.{Item}
use Rattle.sq_model.specs.declared.item.Reason.{Reason}
use Rattle.sq_model.specs.declared.item.Reason.TheVariants.{Task as ForTask}
use Rattle.sq_model.specs.declared.ledger.LedgerCall.{LedgerCall}
use Rattle.sq_model.specs.declared.ledger.LedgerCall.TheVariants.{AtHome as CallAtHome, CancelTask, FinishTask, ListTasks, StartTask}
use Rattle.sq_model.specs.declared.ledger.LedgerReply.{LedgerReply}
use Rattle.sq_model.specs.declared.ledger.LedgerReply.TheVariants.{Cancelled, Finished, Listed, Started}
use Rattle.sq_model.specs.declared.place.Component.TheVariants as part
use Rattle.sq_model.specs.declared.place.Limits.{Limits}
use Rattle.sq_model.specs.declared.place.Site.{Site}
use Rattle.sq_model.specs.declared.replies.HomeReply.{HomeReply}
use Rattle.sq_model.specs.declared.replies.HomeReply.TheVariants.{Counted, Done, Entered, Left, Looked, NoLiveRow, NoOrigin, Sent}
use Rattle.sq_model.specs.declared.shared.HomeLeave.{HomeLeave}
use Rattle.sq_model.specs.declared.shared.HomeLeave.TheVariants.{Dead, Drain}
use Rattle.sq_model.specs.declared.task.FailureReason.TheVariants as because
use Rattle.sq_model.specs.declared.task.NamedQueue.{NamedQueue}
use Rattle.sq_model.specs.declared.task.Task.{Task}
use Rattle.sq_model.specs.Directories.{Directory, DirectoryStep, agrees, attributes_at, changed_queue, deleted_recently, may_have, new_queue, purged_recently, queue_of, queues_without, settings_at}
use Rattle.sq_model.specs.HomeLeaves.{leave_call, leave_reason}
use Rattle.sq_model.specs.Homes.{Closed, Contents, MayHoldOneMore, Home, HomeStep, IsFrom, Serving, Unopened, accepts, counts_of, dead_target, entered_row, fresh_id, is_draining, last_serial, may_enter, may_return, once_draining, returned_row, sent_row, slots}
use Rattle.sq_model.specs.Ledgers.{TakesOneMore, Ledger, LedgerStep, MayTake, changed_for, changed_task, in_transit, is_active_at, is_of_source, is_own, item_of, items_without, last_number, most_active, task_of, tasks_of, turned_if}
use Rattle.sq_model.specs.Replays.{HomeEvent}
use Rattle.sq_model.specs.Rows.{RisesFrom, Takes, is_at_rest, is_dead, is_free, is_live, ms, received, received_if, flights_left, serials_of, unexpired, without}
use Rattle.sq_model.specs.Systems.{HomeAt, IsRun, IsStep, LedgerGoes, MomentsRise, OfDirectory, OfHome, OfLedger, RunFrom, System, Tag, is_alone, opening, stamp_of, Opening}
use Rattle.sq_model.specs.Tasks.{cancelled_as, destination_or, failed_as, finished_as, is_active, is_running, may_leave, new_task, target_of, with_back, with_dropped, with_left, with_moved, with_status}
use Rattle.sq_model.proofs.RowLaws.{first_is_look, rises_unexpired}
use Rattle.sq_laws.proofs.LedgerLists.{some_same}
use Rattle.sq_laws.proofs.SharedLaws.{and_both, by_its_number, is_false}

-- ---- tests

under : (a b : ℕ) → nat_lt a b ≡ true → a < b
under a b h = grind (arith, common_steps)

abbrev pub can_hold : Limits → HomeMode → ℕ → ℕ → List Row → Bool
can_hold l mode next slot rows = accepts mode && (nat_lt next last_serial && (nat_lt (length rows) slots && (nat_lt (length rows) l.rows && is_free slot rows)))

held_more : (l : Limits) (mode : HomeMode) (next slot : ℕ) (rows : List Row) → can_hold l mode next slot rows ≡ true → MayHoldOneMore l mode next slot rows
held_more l mode next slot rows h =
    let accepting = and_both _ _ h in
    let worn = and_both _ _ accepting.1 in
    let left = and_both _ _ worn.1 in
    let within = and_both _ _ left.1 in
    record { accepting = accepting.0; not_worn = under _ _ worn.0; slot_left = under _ _ left.0; within = under _ _ within.0; free = within.1 }

abbrev pub takes_one_more : Ledger → Bool
takes_one_more l = nat_lt l.next_item last_number && nat_lt (length l.items) l.limit

one_more_fits : (l : Ledger) → takes_one_more l ≡ true → TakesOneMore l
one_more_fits l h = let both = and_both _ _ h in record { not_worn = under _ _ both.0; within = under _ _ both.1 }

-- serials rise from low on, below the next one
abbrev pub is_risen : ℕ → List Row → ℕ → Bool
is_risen low [] next = nat_le low next
is_risen low (row ∷ rows) next = nat_le low row.serial && is_risen (row.serial + 1) rows next

least : (a b : ℕ) → nat_le a b ≡ true → a ≤ b
least a b h = grind (arith, common_steps)

risen : (low : ℕ) (rows : List Row) (next : ℕ) → is_risen low rows next ≡ true → RisesFrom low rows next
risen low [] next h = least _ _ h
risen low (row ∷ rows) next h = let both = and_both _ _ h in (least _ _ both.0, risen (row.serial + 1) rows next both.1)

-- the rows without the first one of a kind
abbrev pub rest_of : (Row → Bool) → List Row → List Row
rest_of p [] = []
rest_of p (row ∷ rows) = cond (p row) rows (row ∷ rest_of p rows)

first_taken : (p : Row → Bool) (rows : List Row) (row : Row) → find p rows ≡ Some row → Takes row rows (rest_of p rows) × (p row ≡ true)
first_taken p [] row e = absurd cc
first_taken p (x ∷ rows) row e =
    elim (p x) as (λ b. p x ≡ b → cond b (Some x) (find p rows) ≡ Some row → Takes row (x ∷ rows) (cond b rows (x ∷ rest_of p rows)) × (p row ≡ true)) [
      | true ↦ (λ n f. let same = some_same x row f in
          (record { before = []; after = rows; at = ap (λ (y : Row). y ∷ rows) same; left = refl }, subst (λ (y : Row). p y ≡ true) same n))
      | false ↦ (λ n f. let t = first_taken p rows row f in
          (record { before = x ∷ t.0.before; after = t.0.after; at = ap (λ xs. x ∷ xs) t.0.at; left = ap (λ xs. x ∷ xs) t.0.left }, t.1))
    ] refl e

-- ---- a step of a home, and of the ledger where they share it

-- whether it can be done, the call that is recorded, and what it answers and leaves
pub record Outcome : Type 0 where
  pub done : Bool
  pub call : HomeCall
  pub reply : HomeReply
  pub home : Home
  pub ledger : Ledger

-- it is a step of the home, and the ledger goes with it
pub record IsDone (site : Site) (home : Home) (l : Ledger) (e : HomeEvent) (o : Outcome) : Type 0 where
  pub step : HomeStep site home e.stamp.moment o.call o.reply o.home
  pub in_ledger : LedgerGoes (is_alone o.call) l site.home (record e { component = part.Home site.home; call = o.call; reply = o.reply }) o.ledger

-- the slot that a row was to have, where one comes in
abbrev pub slot_in : HomeReply → ℕ
slot_in (Sent sent) = sent.slot
slot_in (Entered entered) = entered.slot
slot_in reply = 0

abbrev pub not_done : HomeCall → Home → Ledger → Outcome
not_done call home l = record { done = false; call = call; reply = Done; home = home; ledger = l }

abbrev pub without_item : Ledger → Item → (Task → Task) → Ledger
without_item l item change = record l { items = items_without item.number l.items; tasks = changed_for item.reason change l.tasks }

-- at a home that serves
module _ (site : Site) (its : Contents) (l : Ledger) (e : HomeEvent) where
  abbrev pub kept : List Row
  kept = unexpired its.settings e.stamp.moment its.rows

  abbrev pub slot : ℕ
  slot = slot_in e.reply

  -- the home's alone
  abbrev pub alone : Bool → HomeCall → HomeReply → List Row → Outcome
  alone done call reply left = record { done = done; call = call; reply = reply; home = Serving (record its { rows = left }); ledger = l }

  abbrev pub sends : List ℕ → Option ℕ → Outcome
  sends body delay = record {
    done = can_hold site.limits its.mode its.next slot kept;
    call = asks.Send body delay;
    reply = Sent (record { id = fresh_id site.home its.next; slot = slot });
    home = Serving (record its { next = its.next + 1; rows = kept ++ sent_row site.home its.next slot e.stamp.moment (e.stamp.moment + ms (unwrap_or delay its.settings.delay)) body ∷ [] });
    ledger = l;
  }

  abbrev pub looks : ℕ → Option ℕ → Outcome
  looks max timeout =
      let until = e.stamp.moment + ms (unwrap_or timeout its.settings.timeout) in
      let picked = take (min max (flights_left site.limits.flights e.stamp.moment kept)) (map (received e.stamp.moment until) (filter (is_live its.settings e.stamp.moment) kept)) in
      alone (is_risen 0 its.rows its.next && nat_lt 0 (flights_left site.limits.flights e.stamp.moment kept)) (asks.Look max timeout) (Looked picked) (map (received_if its.settings (serials_of picked) e.stamp.moment until) kept)

  looked : (max : ℕ) (timeout : Option ℕ) → (looks max timeout).done ≡ true → IsDone site (Serving its) l e (looks max timeout)
  unfolding HomeStep
  looked max timeout h =
      let both = and_both _ _ h in
      let until = e.stamp.moment + ms (unwrap_or timeout its.settings.timeout) in
      let most = min max (flights_left site.limits.flights e.stamp.moment kept) in
      record { step = (λ live. under _ _ both.1, first_is_look its.settings e.stamp.moment until most kept its.next (rises_unexpired its.settings e.stamp.moment 0 its.rows its.next (risen 0 its.rows its.next both.0)), refl); in_ledger = refl }

  abbrev pub leaving : Row → ℕ → Reason → Item
  leaving row target reason = record { number = l.next_item; row = row; source = site.home.queue; target = target; reason = reason; homeward = false }

  abbrev pub with_item : Item → List Task → Ledger
  with_item item tasks = record l { items = l.items ++ item ∷ []; next_item = l.next_item + 1; tasks = tasks }

  -- a row for which no task asks, the first of those that may leave
  abbrev pub leaves_home : HomeLeave → (Row → Bool) → Bool → ℕ → Row → Outcome
  leaves_home why may ready target row = record {
    done = ready && takes_one_more l;
    call = leave_call why;
    reply = Left (leaving row target (leave_reason why));
    home = Serving (record its { rows = rest_of may kept });
    ledger = with_item (leaving row target (leave_reason why)) l.tasks;
  }

  from_home : (why : HomeLeave) (target : ℕ) (row : Row) → IsFrom site.home (leave_reason why) (leaving row target (leave_reason why))
  from_home why target row = record { from = refl; because = refl; forward = refl }

  abbrev pub dead_leaves : Option ℕ → Option Row → Outcome
  dead_leaves (Some target) (Some row) = leaves_home Dead (is_dead its.settings e.stamp.moment) true target row
  dead_leaves target found = not_done asks.LeaveDead (Serving its) l

  dead_left : (target : Option ℕ) (found : Option Row) → dead_target its.settings.redrive ≡ target → find (is_dead its.settings e.stamp.moment) kept ≡ found → (dead_leaves target found).done ≡ true → IsDone site (Serving its) l e (dead_leaves target found)
  unfolding HomeStep LedgerStep
  dead_left (Some target) (Some row) to is h =
      let t = first_taken (is_dead its.settings e.stamp.moment) kept row is in
      let from = from_home Dead target row in
      record { step = (from, sym to, t.1, (_, t.0, refl)); in_ledger = (from, (one_more_fits l h, refl, refl)) }
  dead_left (Some target) None to is h = absurd cc
  dead_left None found to is h = absurd cc

  abbrev pub drain_leaves : Option Row → Outcome
  drain_leaves None = not_done asks.LeaveDrain (Serving its) l
  drain_leaves (Some row) = leaves_home Drain (is_at_rest e.stamp.moment) (is_draining its.mode) site.home.queue row

  drain_left : (found : Option Row) → find (is_at_rest e.stamp.moment) kept ≡ found → (drain_leaves found).done ≡ true → IsDone site (Serving its) l e (drain_leaves found)
  unfolding HomeStep LedgerStep
  drain_left None is h = absurd cc
  drain_left (Some row) is h =
      let both = and_both _ _ h in
      let t = first_taken (is_at_rest e.stamp.moment) kept row is in
      let from = from_home Drain site.home.queue row in
      record { step = (from, refl, both.0, t.1, (_, t.0, refl)); in_ledger = (from, refl, (one_more_fits l both.1, refl, refl)) }

  -- ---- the drain itself

  abbrev pub starts_drain : Outcome
  starts_drain = record { done = true; call = asks.StartDrain; reply = Done; home = Serving (record its { mode = once_draining its.mode; rows = kept }); ledger = l }

  abbrev pub finishes_drain : List Row → Outcome
  finishes_drain [] = record { done = is_draining its.mode; call = asks.FinishDrain; reply = Done; home = Serving (record its { mode = Drained; rows = [] }); ledger = l }
  finishes_drain (row ∷ rows) = not_done asks.FinishDrain (Serving its) l

  drain_finished : (rows : List Row) → kept ≡ rows → (finishes_drain rows).done ≡ true → IsDone site (Serving its) l e (finishes_drain rows)
  unfolding HomeStep
  drain_finished [] is h = record { step = (h, is, refl); in_ledger = refl }
  drain_finished (row ∷ rows) is h = absurd cc

  -- ---- of a task

  abbrev pub takes : Task → Bool
  takes task = is_running task.status && (is_of_source site.home.queue task && may_leave e.stamp.moment task)

  may_take : (number : ℕ) (task : Task) → task_of number l ≡ Some task → takes task ≡ true → MayTake l site.home.queue number task × (may_leave e.stamp.moment task ≡ true)
  may_take number task there h =
      let running = and_both _ _ h in
      let of = and_both _ _ running.1 in
      (record { found = there; running = running.0; of_source = of.0 }, of.1)

  abbrev pub leaves_to : ℕ → Task → Row → ℕ → Outcome
  leaves_to number task row target = record {
    done = takes task && takes_one_more l;
    call = asks.LeaveTask number;
    reply = Left (leaving row target (ForTask number));
    home = Serving (record its { rows = rest_of (is_live its.settings e.stamp.moment) kept });
    ledger = with_item (leaving row target (ForTask number)) (changed_task number (with_left e.stamp.moment) l.tasks);
  }

  left_to : (number : ℕ) (task : Task) (row : Row) (target : ℕ) → task_of number l ≡ Some task → find (is_live its.settings e.stamp.moment) kept ≡ Some row → Some target ≡ target_of task row → (leaves_to number task row target).done ≡ true
      → IsDone site (Serving its) l e (leaves_to number task row target)
  unfolding HomeStep LedgerStep
  left_to number task row target there is to h =
      let both = and_both _ _ h in
      let may = may_take number task there both.0 in
      let t = first_taken (is_live its.settings e.stamp.moment) kept row is in
      let from : IsFrom site.home (ForTask number) (leaving row target (ForTask number)) = record { from = refl; because = refl; forward = refl } in
      record { step = (from, t.1, (_, t.0, refl)); in_ledger = (from, (task, may.0, may.1, to), (one_more_fits l both.1, refl, refl)) }

  abbrev pub row_leaves : ℕ → Task → Row → Option NamedQueue → Option ℕ → Outcome
  row_leaves number task row (Some queue) origin = leaves_to number task row queue.number
  row_leaves number task row None (Some queue) = leaves_to number task row queue
  row_leaves number task row None None = record {
    done = takes task && takes_one_more l;
    call = asks.LeaveTask number;
    reply = NoOrigin row.serial;
    home = Serving (record its { rows = kept });
    ledger = record l { tasks = changed_task number (with_status (failed_as because.NoOrigin)) l.tasks };
  }

  row_left : (number : ℕ) (task : Task) (row : Row) (destination : Option NamedQueue) (origin : Option ℕ) → task_of number l ≡ Some task → find (is_live its.settings e.stamp.moment) kept ≡ Some row → task.destination ≡ destination → row.origin ≡ origin
      → (row_leaves number task row destination origin).done ≡ true → IsDone site (Serving its) l e (row_leaves number task row destination origin)
  unfolding HomeStep LedgerStep
  row_left number task row (Some queue) origin there is d o h = left_to number task row queue.number there is (sym (ap (λ (x : Option NamedQueue). destination_or x row.origin) d)) h
  row_left number task row None (Some queue) there is d o h = left_to number task row queue there is (sym (ap (λ (x : Option NamedQueue). destination_or x row.origin) d ∙ o)) h
  row_left number task row None None there is d o h =
      let both = and_both _ _ h in
      let may = may_take number task there both.0 in
      let t = first_taken (is_live its.settings e.stamp.moment) kept row is in
      record { step = ((row, _, t.0, t.1, refl, o), refl); in_ledger = ((task, may.0, may.1, d), one_more_fits l both.1, refl) }

  abbrev pub task_leaves : ℕ → Option Task → Option Row → Outcome
  task_leaves number None found = not_done (asks.LeaveTask number) (Serving its) l
  task_leaves number (Some task) None = alone (takes task && not (list_any (is_live its.settings e.stamp.moment) kept)) (asks.LeaveTask number) NoLiveRow kept
  task_leaves number (Some task) (Some row) = row_leaves number task row task.destination row.origin

  task_left : (number : ℕ) (there : Option Task) (found : Option Row) → task_of number l ≡ there → find (is_live its.settings e.stamp.moment) kept ≡ found → (task_leaves number there found).done ≡ true → IsDone site (Serving its) l e (task_leaves number there found)
  unfolding HomeStep LedgerStep
  task_left number None found there is h = absurd cc
  task_left number (Some task) None there is h =
      let both = and_both _ _ h in
      let may = may_take number task there both.0 in
      record { step = (is_false _ both.1, refl); in_ledger = ((task, may.0, may.1), refl) }
  task_left number (Some task) (Some row) there is h = row_left number task row task.destination row.origin there is refl refl h

  -- ---- of an item

  abbrev pub comes_in : Bool → HomeCall → Row → Ledger → Outcome
  comes_in may call row after = record { done = may && can_hold site.limits its.mode its.next slot kept; call = call; reply = Entered (record { serial = its.next; slot = slot }); home = Serving (record its { next = its.next + 1; rows = kept ++ row ∷ [] }); ledger = after }

  abbrev pub item_comes : HomeCall → Option Item → Outcome
  item_comes (asks.Enter asked) (Some item) = comes_in (may_enter site.home item) (asks.Enter item) (entered_row site.home its.next slot e.stamp.moment item) (without_item l item with_moved)
  item_comes (asks.GiveBack asked) (Some item) = comes_in (may_return site.home item) (asks.GiveBack item) (returned_row its.next slot e.stamp.moment item) (without_item l item with_back)
  item_comes call found = not_done call (Serving its) l

  item_came : (call : HomeCall) (number : ℕ) (found : Option Item) → item_of number l ≡ found → (item_comes call found).done ≡ true → IsDone site (Serving its) l e (item_comes call found)
  unfolding HomeStep LedgerStep
  item_came (asks.Enter asked) number (Some item) is h = let both = and_both _ _ h in record { step = (both.0, held_more _ _ _ _ _ both.1, refl, refl); in_ledger = (both.0, (by_its_number number l item is, refl)) }
  item_came (asks.GiveBack asked) number (Some item) is h = let both = and_both _ _ h in record { step = (both.0, held_more _ _ _ _ _ both.1, refl, refl); in_ledger = (both.0, (by_its_number number l item is, refl)) }
  item_came call number found is h = absurd cc

-- at a home that is closed
module _ (site : Site) (l : Ledger) (e : HomeEvent) where
  abbrev pub goes_on : Bool → HomeCall → Ledger → Outcome
  goes_on may call after = record { done = may; call = call; reply = Done; home = Closed; ledger = after }

  abbrev pub item_goes_on : HomeCall → Option Item → Outcome
  item_goes_on (asks.TurnBack asked) (Some item) =
      goes_on (may_enter site.home item) (asks.TurnBack item) (record l { items = map (turned_if item.number) l.items; tasks = changed_for item.reason (with_status (failed_as because.DestinationClosed)) l.tasks })
  item_goes_on (asks.Drop asked) (Some item) = goes_on (may_return site.home item) (asks.Drop item) (without_item l item with_dropped)
  item_goes_on call found = not_done call Closed l

  item_went_on : (call : HomeCall) (number : ℕ) (found : Option Item) → item_of number l ≡ found → (item_goes_on call found).done ≡ true → IsDone site Closed l e (item_goes_on call found)
  unfolding HomeStep LedgerStep
  item_went_on (asks.TurnBack asked) number (Some item) is h = record { step = (h, refl); in_ledger = (h, by_its_number number l item is, refl) }
  item_went_on (asks.Drop asked) number (Some item) is h = record { step = (h, refl); in_ledger = (h, (by_its_number number l item is, refl)) }
  item_went_on call number found is h = absurd cc

abbrev pub at_home : Site → Home → Ledger → HomeEvent → HomeCall → Outcome
at_home site Unopened l e (asks.Configure t w) = record { done = true; call = asks.Configure t w; reply = Done; home = Serving (record { settings = t; version = w; mode = Accepting; next = 0; rows = [] }); ledger = l }
at_home site (Serving its) l e asks.Close = record { done = true; call = asks.Close; reply = Done; home = Closed; ledger = l }
at_home site (Serving its) l e (asks.Send body delay) = sends site its l e body delay
at_home site (Serving its) l e (asks.Look max timeout) = looks site its l e max timeout
at_home site (Serving its) l e (asks.Delete receipt) = alone site its l e (nat_lt receipt.serial its.next) (asks.Delete receipt) Done (without receipt (kept site its l e))
at_home site (Serving its) l e asks.Purge = alone site its l e true asks.Purge Done []
at_home site (Serving its) l e asks.Count = alone site its l e true asks.Count (Counted (counts_of e.stamp.moment (kept site its l e))) (kept site its l e)
at_home site (Serving its) l e asks.StartDrain = starts_drain site its l e
at_home site (Serving its) l e asks.FinishDrain = finishes_drain site its l e (kept site its l e)
at_home site (Serving its) l e asks.LeaveDrain = drain_leaves site its l e (find (is_at_rest e.stamp.moment) (kept site its l e))
at_home site (Serving its) l e asks.LeaveDead = dead_leaves site its l e (dead_target its.settings.redrive) (find (is_dead its.settings e.stamp.moment) (kept site its l e))
at_home site (Serving its) l e (asks.LeaveTask number) = task_leaves site its l e number (task_of number l) (find (is_live its.settings e.stamp.moment) (kept site its l e))
at_home site (Serving its) l e (asks.Enter item) = item_comes site its l e (asks.Enter item) (item_of item.number l)
at_home site (Serving its) l e (asks.GiveBack item) = item_comes site its l e (asks.GiveBack item) (item_of item.number l)
at_home site Closed l e (asks.TurnBack item) = item_goes_on site l e (asks.TurnBack item) (item_of item.number l)
at_home site Closed l e (asks.Drop item) = item_goes_on site l e (asks.Drop item) (item_of item.number l)
at_home site home l e call = not_done call home l

pub home_done : (site : Site) (home : Home) (l : Ledger) (e : HomeEvent) (call : HomeCall) → (at_home site home l e call).done ≡ true → IsDone site home l e (at_home site home l e call)
unfolding HomeStep
home_done site Unopened l e (asks.Configure t w) h = record { step = refl; in_ledger = refl }
home_done site (Serving its) l e asks.Close h = record { step = refl; in_ledger = refl }
home_done site (Serving its) l e (asks.Send body delay) h = record { step = (held_more _ _ _ _ _ h, refl, refl); in_ledger = refl }
home_done site (Serving its) l e (asks.Look max timeout) h = looked site its l e max timeout h
home_done site (Serving its) l e (asks.Delete receipt) h = record { step = (under _ _ h, refl); in_ledger = refl }
home_done site (Serving its) l e asks.Purge h = record { step = refl; in_ledger = refl }
home_done site (Serving its) l e asks.Count h = record { step = (refl, refl); in_ledger = refl }
home_done site (Serving its) l e asks.StartDrain h = record { step = refl; in_ledger = refl }
home_done site (Serving its) l e asks.FinishDrain h = drain_finished site its l e _ refl h
home_done site (Serving its) l e asks.LeaveDrain h = drain_left site its l e _ refl h
home_done site (Serving its) l e asks.LeaveDead h = dead_left site its l e (dead_target its.settings.redrive) _ refl refl h
home_done site (Serving its) l e (asks.LeaveTask number) h = task_left site its l e number (task_of number l) _ refl refl h
home_done site (Serving its) l e (asks.Enter item) h = item_came site its l e (asks.Enter item) item.number (item_of item.number l) refl h
home_done site (Serving its) l e (asks.GiveBack item) h = item_came site its l e (asks.GiveBack item) item.number (item_of item.number l) refl h
home_done site Closed l e (asks.TurnBack item) h = item_went_on site l e (asks.TurnBack item) item.number (item_of item.number l) refl h
home_done site Closed l e (asks.Drop item) h = item_went_on site l e (asks.Drop item) item.number (item_of item.number l) refl h
home_done site home l e call h = absurd cc

-- ---- a step of the directory

-- whether it can be done, and what it answers and leaves
pub record DirectoryOutcome : Type 0 where
  pub done : Bool
  pub reply : DirectoryReply
  pub after : Directory

abbrev pub no_outcome : Directory → DirectoryOutcome
no_outcome d = record { done = false; reply = answers.Listed []; after = d }

abbrev pub creates : Directory → ℕ → List ℕ → Attributes → Option Queue → DirectoryOutcome
creates d m name given (Some queue) = record { done = agrees given queue; reply = answers.Made (settings_at queue); after = d }
creates d m name given None =
    let queue = new_queue d name given in record {
      done = not (deleted_recently m name d.deleted) && (may_have d.queues name given.redrive && nat_lt d.made d.most);
      reply = answers.Made (settings_at queue);
      after = record d { queues = d.queues ++ queue ∷ []; made = suc d.made };
    }

abbrev pub of_found : Directory → ℕ → DirectoryCall → Option Queue → DirectoryOutcome
of_found d m (directory_asks.Remove name) (Some queue) = record { done = true; reply = answers.Removed queue.number; after = record d { queues = queues_without name d.queues; deleted = d.deleted ++ record { name = name; moment = m } ∷ [] } }
of_found d m (directory_asks.PurgeTicket name) (Some queue) =
    record { done = not (purged_recently m queue.last_purge); reply = answers.Ticket queue.number; after = record d { queues = changed_queue name (λ q. record q { last_purge = Some m }) d.queues } }
of_found d m (directory_asks.Read name) (Some queue) = record { done = true; reply = answers.Read (attributes_at queue); after = d }
of_found d m call found = no_outcome d

abbrev pub in_directory : Directory → ℕ → DirectoryCall → DirectoryOutcome
in_directory d m (directory_asks.Create name given) = creates d m name given (queue_of name d.queues)
in_directory d m (directory_asks.Remove name) = of_found d m (directory_asks.Remove name) (queue_of name d.queues)
in_directory d m (directory_asks.PurgeTicket name) = of_found d m (directory_asks.PurgeTicket name) (queue_of name d.queues)
in_directory d m (directory_asks.Read name) = of_found d m (directory_asks.Read name) (queue_of name d.queues)
in_directory d m call = no_outcome d

abbrev pub IsDirectoryDone : Directory → ℕ → DirectoryCall → DirectoryOutcome → Type 0
IsDirectoryDone d m call o = DirectoryStep d m call o.reply o.after

created : (d : Directory) (m : ℕ) (name : List ℕ) (given : Attributes) (found : Option Queue) → queue_of name d.queues ≡ found → (creates d m name given found).done ≡ true → IsDirectoryDone d m (directory_asks.Create name given) (creates d m name given found)
unfolding DirectoryStep
created d m name given (Some queue) is h = rw is (h, refl, refl)
created d m name given None is h =
    let fresh = and_both _ _ h in
    let both = and_both _ _ fresh.1 in
    rw is (record { name_free = is_false _ fresh.0; policy = both.0; not_full = under _ _ both.1 }, refl, refl)

removed : (d : Directory) (m : ℕ) (name : List ℕ) (found : Option Queue) → queue_of name d.queues ≡ found → (of_found d m (directory_asks.Remove name) found).done ≡ true → IsDirectoryDone d m (directory_asks.Remove name) (of_found d m (directory_asks.Remove name) found)
unfolding DirectoryStep
removed d m name None is h = absurd cc
removed d m name (Some queue) is h = (queue, is, refl, refl)

ticketed : (d : Directory) (m : ℕ) (name : List ℕ) (found : Option Queue) → queue_of name d.queues ≡ found → (of_found d m (directory_asks.PurgeTicket name) found).done ≡ true → IsDirectoryDone d m (directory_asks.PurgeTicket name) (of_found d m (directory_asks.PurgeTicket name) found)
unfolding DirectoryStep
ticketed d m name None is h = absurd cc
ticketed d m name (Some queue) is h = (queue, is, is_false _ h, refl, refl)

was_read : (d : Directory) (m : ℕ) (name : List ℕ) (found : Option Queue) → queue_of name d.queues ≡ found → (of_found d m (directory_asks.Read name) found).done ≡ true → IsDirectoryDone d m (directory_asks.Read name) (of_found d m (directory_asks.Read name) found)
unfolding DirectoryStep
was_read d m name None is h = absurd cc
was_read d m name (Some queue) is h = ((queue, is, refl), refl)

pub directory_done : (d : Directory) (m : ℕ) (call : DirectoryCall) → (in_directory d m call).done ≡ true → IsDirectoryDone d m call (in_directory d m call)
directory_done d m (directory_asks.Create name given) h = created d m name given (queue_of name d.queues) refl h
directory_done d m (directory_asks.Remove name) h = removed d m name (queue_of name d.queues) refl h
directory_done d m (directory_asks.PurgeTicket name) h = ticketed d m name (queue_of name d.queues) refl h
directory_done d m (directory_asks.Read name) h = was_read d m name (queue_of name d.queues) refl h
directory_done d m call h = absurd cc

-- ---- a step of the ledger alone

-- whether it can be done, and what it answers and leaves
pub record LedgerOutcome : Type 0 where
  pub done : Bool
  pub reply : LedgerReply
  pub after : Ledger

abbrev pub of_task : Ledger → ℕ → LedgerCall → Option Task → LedgerOutcome
of_task l m (CancelTask number) (Some task) = record { done = is_running task.status; reply = Cancelled task.moved; after = record l { tasks = changed_task number (with_status cancelled_as) l.tasks } }
of_task l m (FinishTask number) (Some task) =
    record { done = is_active task.status && nat_le (in_transit number l.items) 0; reply = Finished; after = record l { tasks = changed_task number (with_status finished_as) l.tasks } }
of_task l m call found = record { done = false; reply = Finished; after = l }

abbrev pub in_ledger : Ledger → ℕ → LedgerCall → LedgerOutcome
in_ledger l m (StartTask source destination rate) = record {
  done = nat_lt l.next_task last_number && (not (list_any (is_active_at source.number) l.tasks) && nat_lt (count_by (λ task. is_active task.status) l.tasks) most_active);
  reply = Started l.next_task;
  after = record l { tasks = l.tasks ++ new_task l.next_task source destination rate m ∷ []; next_task = l.next_task + 1 };
}
in_ledger l m (ListTasks source most) = record { done = true; reply = Listed (take most (tasks_of source l)); after = l }
in_ledger l m (CancelTask number) = of_task l m (CancelTask number) (task_of number l)
in_ledger l m (FinishTask number) = of_task l m (FinishTask number) (task_of number l)
in_ledger l m (CallAtHome home call) = record { done = false; reply = Finished; after = l }

-- it is a step of the ledger, and its own
pub record IsLedgerDone (l : Ledger) (m : ℕ) (call : LedgerCall) (o : LedgerOutcome) : Type 0 where
  pub own : is_own call ≡ true
  pub step : LedgerStep l m call o.reply o.after

cancelled : (l : Ledger) (m number : ℕ) (found : Option Task) → task_of number l ≡ found → (of_task l m (CancelTask number) found).done ≡ true → IsLedgerDone l m (CancelTask number) (of_task l m (CancelTask number) found)
unfolding LedgerStep
cancelled l m number None is h = absurd cc
cancelled l m number (Some task) is h = record { own = refl; step = ((task, is, h, refl), refl) }

none_left : (a : ℕ) → nat_le a 0 ≡ true → a ≡ 0
none_left a h = let le = least a 0 h in omega (arith, le)

finished : (l : Ledger) (m number : ℕ) (found : Option Task) → task_of number l ≡ found → (of_task l m (FinishTask number) found).done ≡ true → IsLedgerDone l m (FinishTask number) (of_task l m (FinishTask number) found)
unfolding LedgerStep
finished l m number None is h = absurd cc
finished l m number (Some task) is h = let both = and_both _ _ h in record { own = refl; step = ((task, is, both.0), none_left _ both.1, refl) }

pub ledger_done : (l : Ledger) (m : ℕ) (call : LedgerCall) → (in_ledger l m call).done ≡ true → IsLedgerDone l m call (in_ledger l m call)
unfolding LedgerStep
ledger_done l m (StartTask source destination rate) h =
    let number = and_both _ _ h in
    let both = and_both _ _ number.1 in
    record { own = refl; step = (under _ _ number.0, is_false _ both.0, under _ _ both.1, refl, refl) }
ledger_done l m (ListTasks source most) h = record { own = refl; step = (refl, refl) }
ledger_done l m (CancelTask number) h = cancelled l m number (task_of number l) refl h
ledger_done l m (FinishTask number) h = finished l m number (task_of number l) refl h
ledger_done l m (CallAtHome home call) h = absurd cc

-- ---- a step of the system, and a run

pub record StepOutcome : Type 0 where
  pub done : Bool
  pub tag : Tag
  pub after : System

abbrev pub at_index : System → ℕ → HomeEvent → Option HomeAt → StepOutcome
at_index s i e None = record { done = false; tag = OfHome i e; after = s }
at_index s i e (Some old) =
    let o = at_home old.site old.home s.ledger e e.call in
    record { done = o.done; tag = OfHome i (record e { component = part.Home old.site.home; call = o.call; reply = o.reply }); after = record s { ledger = o.ledger; homes = slice_set s.homes i (record { site = old.site; home = o.home }) } }

-- an event as it is asked: its stamp, its actor, its part and its call, with the slot where a row comes in
abbrev pub step_of : System → Tag → StepOutcome
step_of s (OfDirectory e) = let o = in_directory s.directory e.stamp.moment e.call in record { done = o.done; tag = OfDirectory (record e { component = part.Directory; reply = o.reply }); after = record s { directory = o.after } }
step_of s (OfLedger e) = let o = in_ledger s.ledger e.stamp.moment e.call in record { done = o.done; tag = OfLedger (record e { component = part.Ledger; reply = o.reply }); after = record s { ledger = o.after } }
step_of s (OfHome i e) = at_index s i e (slice_get s.homes i)

pub record RunOutcome : Type 0 where
  pub done : Bool
  pub run : List Tag
  pub after : System

abbrev pub run_of : System → List Tag → RunOutcome
run_of s [] = record { done = true; run = []; after = s }
run_of s (t ∷ ts) = let o = step_of s t in let more = run_of o.after ts in record { done = o.done && more.done; run = o.tag ∷ more.run; after = more.after }

pub never : false ≡ true → ⊥
never h = absurd cc

abbrev pub index_done : (s : System) (i : ℕ) (e : HomeEvent) (found : Option HomeAt) → slice_get s.homes i ≡ found → (at_index s i e found).done ≡ true → IsStep s (at_index s i e found).tag (at_index s i e found).after
index_done s i e None at h = absurd (never h)
index_done s i e (Some old) at h =
    let d = home_done old.site old.home s.ledger e e.call h in
    record { old = old; new = (at_home old.site old.home s.ledger e e.call).home; in_list = at; component = refl; step = d.step; ledger = d.in_ledger; homes = refl; directory = refl }

abbrev pub step_done : (s : System) (t : Tag) → (step_of s t).done ≡ true → IsStep s (step_of s t).tag (step_of s t).after
step_done s (OfDirectory e) h = record { component = refl; step = directory_done s.directory e.stamp.moment e.call h; ledger = refl; homes = refl }
step_done s (OfLedger e) h = let d = ledger_done s.ledger e.stamp.moment e.call h in record { component = refl; own = d.own; step = d.step; directory = refl; homes = refl }
step_done s (OfHome i e) h = index_done s i e (slice_get s.homes i) refl h

abbrev pub run_done : (s : System) (ts : List Tag) → (run_of s ts).done ≡ true → RunFrom s (run_of s ts).run (run_of s ts).after
run_done s [] h = refl
run_done s (t ∷ ts) h = let both = and_both _ _ h in ((step_of s t).after, step_done s t both.0, run_done (step_of s t).after ts both.1)

-- no moment is before the one before it
abbrev pub in_time : ℕ → List Tag → Bool
in_time low [] = true
in_time low (t ∷ ts) = nat_le low (stamp_of t).moment && in_time (stamp_of t).moment ts

pub moments_rise : (low : ℕ) (ts : List Tag) → in_time low ts ≡ true → MomentsRise low ts
moments_rise low [] h = tt
moments_rise low (t ∷ ts) h = let both = and_both _ _ h in (least _ _ both.0, moments_rise (stamp_of t).moment ts both.1)

-- what is computed from these events is the run
abbrev pub computed : (o : Opening) (run : List Tag) (after : System) → run_of (opening o) run ≡ record { done = true; run = run; after = after } → in_time 0 run ≡ true → IsRun o run after
computed o run after e h = record {
  steps = subst (λ (made : RunOutcome). RunFrom (opening o) made.run made.after) e (run_done (opening o) run (ap (λ (made : RunOutcome). made.done) e));
  moments = moments_rise 0 run h;
}
