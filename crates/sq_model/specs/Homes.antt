-- One home of a queue: its states, its steps, and why a step is refused.
use Rattle.std.specs.Prelude.{◌≡◌, ℕ, ◌+◌, ◌<◌, Bool, true, false, not, ◌&&◌, ◌||◌, ◌==◌, List, [], ◌∷◌, ◌++◌, length, min, count_by, map, nat_lt, nat_le, if◌then◌else◌, Option, Some, None, unwrap_or, option_map}
use Rattle.std.specs.List.{list_any}
use Rattle.sq_base.specs.declared.ids.HomeId.{HomeId}
use Rattle.sq_base.specs.declared.message_id.MessageId.{MessageId}
use Rattle.sq_base.specs.declared.refusal.Refusal.{Refusal}
use Rattle.sq_base.specs.declared.refusal.Refusal.TheVariants.{Worn, InvalidParameterValue, QueueDoesNotExist, OverLimit, ReceiptHandleIsInvalid, MessageNotInflight, UnsupportedOperation, HomeDraining}
use Rattle.sq_base.specs.declared.row.Row.{Row}
use Rattle.sq_base.specs.declared.settings.Settings.{Settings}
use Rattle.sq_base.specs.declared.settings.Redrive.{Redrive}
use Rattle.sq_model.specs.declared.home_mode.HomeMode.{HomeMode}
use Rattle.sq_model.specs.declared.home_mode.HomeMode.TheVariants.{Accepting, Draining, Drained}
use Rattle.sq_model.specs.declared.place.Limits.{Limits}
use Rattle.sq_model.specs.declared.place.Site.{Site}
use Rattle.sq_model.specs.declared.item.Item.{Item}
use Rattle.sq_model.specs.declared.item.Carried.{Carried}
use Rattle.sq_model.specs.declared.item.Reason.{Reason}
use Rattle.sq_model.specs.declared.item.Reason.TheVariants.{DeadLetter, Task, Drain}
use Rattle.sq_model.specs.declared.calls.HomeCall.{HomeCall}
use Rattle.sq_model.specs.declared.calls.HomeCall.TheVariants.{Configure, Close, Send, Look, Delete, Change, Purge, Count, StartDrain, FinishDrain, LeaveDead, LeaveDrain, LeaveTask, Enter, TurnBack, GiveBack, Drop}
use Rattle.sq_model.specs.declared.replies.Counts.{Counts}
use Rattle.sq_model.specs.declared.replies.HomeReply.{HomeReply}
use Rattle.sq_model.specs.declared.replies.HomeReply.TheVariants.{Done, Sent, Looked, Over, Counted, Left, NoLiveRow, NoOrigin, SourceClosed, Entered}
use Rattle.sq_model.specs.Rows.{ms, unexpired, RisesFrom, is_visible, is_delayed, is_in_flight, is_at_rest, is_dead, is_live, flights_left, serials_of, IsLook, received_if, without, is_held, is_late, changed_if, Takes, is_free}

-- what a home that serves holds
pub record Contents : Type 0 where
  pub settings : Settings
  -- the version of its settings
  pub version : ℕ
  pub mode : HomeMode
  -- the next serial
  pub next : ℕ
  -- in rising serial
  pub rows : List Row

pub data Home : Type 0 where
  Unopened : Home
  Serving : Contents → Home
  Closed : Home

-- whether a home takes messages that come in
abbrev pub accepts : HomeMode → Bool
accepts Accepting = true
accepts Draining = false
accepts Drained = false

abbrev pub is_draining : HomeMode → Bool
is_draining Accepting = false
is_draining Draining = true
is_draining Drained = false

-- what it is once a drain is asked for
abbrev pub once_draining : HomeMode → HomeMode
once_draining Accepting = Draining
once_draining Draining = Draining
once_draining Drained = Drained

-- its rows at m: those that have expired are no longer there
abbrev pub unexpired_rows : Contents → ℕ → List Row
unexpired_rows its m = unexpired its.settings m its.rows

-- no serial from here on is given
abbrev pub last_serial : ℕ
last_serial = 4611686018427387903

-- so many slots are there, from 0 upwards; each row of a home has one of its own
abbrev pub slots : ℕ
slots = 4294967296

abbrev pub fresh_id : HomeId → ℕ → MessageId
fresh_id home serial = record { queue = home.queue; home = home.home; serial = serial }

-- a message that is sent
abbrev pub sent_row : HomeId → ℕ → ℕ → ℕ → ℕ → List ℕ → Row
sent_row home serial slot m until body =
    record { id = fresh_id home serial; lineage = fresh_id home serial; body = body; serial = serial; slot = slot; enqueued = m; visible_from = until; receives = 0; last_receive = None; origin = None }

-- as one that was never received, and is visible from then on
abbrev pub carried_anew : ℕ → ℕ → Carried
carried_anew enqueued from = record { enqueued = enqueued; visible_from = from; receives = 0; last_receive = None }

-- as it stood where it left
abbrev pub carried_all : Row → Carried
carried_all row = record { enqueued = row.enqueued; visible_from = row.visible_from; receives = row.receives; last_receive = row.last_receive }

-- With what a message comes in at m, by why it was moved: a dead letter keeps its age, a task makes a new message, a drain keeps all.
abbrev pub carried : Reason → ℕ → Row → Carried
carried DeadLetter m row = carried_anew row.enqueued m
carried (Task task) m row = carried_anew m m
carried Drain m row = carried_all row

-- and with what it comes back to its source
abbrev pub carried_back : Reason → ℕ → Row → Carried
carried_back DeadLetter m row = carried_anew row.enqueued m
carried_back (Task task) m row = carried_anew row.enqueued m
carried_back Drain m row = carried_all row

-- a row at a home that it is new to
abbrev pub moved : Carried → ℕ → ℕ → Row → Row
moved keeps serial slot row = record row { serial = serial; slot = slot; enqueued = keeps.enqueued; visible_from = keeps.visible_from; receives = keeps.receives; last_receive = keeps.last_receive }

-- a dead letter and a message of a drained home stay the same; a task makes a new message
abbrev pub entered_id : Reason → HomeId → ℕ → MessageId → MessageId
entered_id DeadLetter home serial id = id
entered_id (Task task) home serial id = fresh_id home serial
entered_id Drain home serial id = id

-- a dead letter remembers its source, and a message of a drained home what it remembered
abbrev pub entered_origin : Reason → ℕ → Option ℕ → Option ℕ
entered_origin DeadLetter source origin = Some source
entered_origin (Task task) source origin = None
entered_origin Drain source origin = origin

-- a message that comes in at its target
abbrev pub entered_row : HomeId → ℕ → ℕ → ℕ → Item → Row
entered_row home serial slot m item =
    record (moved (carried item.reason m item.row) serial slot item.row) { id = entered_id item.reason home serial item.row.id; origin = entered_origin item.reason item.source item.row.origin }

-- a message that comes back to its source
abbrev pub returned_row : ℕ → ℕ → ℕ → Item → Row
returned_row serial slot m item = moved (carried_back item.reason m item.row) serial slot item.row

abbrev pub dead_target : Option Redrive → Option ℕ
dead_target policy = option_map (λ redrive. redrive.target) policy

abbrev pub counts_of : ℕ → List Row → Counts
counts_of m rows = record { visible = count_by (is_visible m) rows; in_flight = count_by (is_in_flight m) rows; delayed = count_by (is_delayed m) rows }

-- the home takes rows, one more fits, and a serial and a slot are left for it
pub record MayHoldOneMore (l : Limits) (mode : HomeMode) (next slot : ℕ) (rows : List Row) : Type 0 where
  pub accepting : accepts mode ≡ true
  pub not_worn : next < last_serial
  pub slot_left : length rows < slots
  pub within : length rows < l.rows
  pub free : is_free slot rows ≡ true

-- the item is a row that left this home for a reason
pub record IsFrom (home : HomeId) (reason : Reason) (item : Item) : Type 0 where
  pub from : item.source ≡ home.queue
  pub because : item.reason ≡ reason
  pub forward : item.homeward ≡ false

abbrev pub may_enter : HomeId → Item → Bool
may_enter home item = not item.homeward && (item.target == home.queue)

abbrev pub may_return : HomeId → Item → Bool
may_return home item = item.homeward && (item.source == home.queue)

-- From home, at m, the home may give this reply to the call and go on to after. What has expired under the settings before a step goes first.
-- A Nothing of LeaveDead or LeaveDrain, a throttled leave and a refusal are no steps: they change nothing, and what has expired stays.
unfoldable pub HomeStep : Site → Home → ℕ → HomeCall → HomeReply → Home → Type 0
HomeStep site Unopened m (Configure t w) Done after = after ≡ Serving (record { settings = t; version = w; mode = Accepting; next = 0; rows = [] })
HomeStep site (Serving its) m (Configure t w) Done after =
    after ≡ (if nat_lt its.version w then Serving (record its { settings = t; version = w; rows = unexpired_rows its m }) else Serving (record its { rows = unexpired_rows its m }))
HomeStep site Unopened m Close Done after = after ≡ Closed
HomeStep site (Serving its) m Close Done after = after ≡ Closed
HomeStep site (Serving its) m (Send body delay) (Sent sent) after =
    MayHoldOneMore site.limits its.mode its.next sent.slot (unexpired_rows its m)
    × (sent.id ≡ fresh_id site.home its.next)
    × (after ≡ Serving (record its { next = its.next + 1; rows = unexpired_rows its m ++ sent_row site.home its.next sent.slot m (m + ms (unwrap_or delay its.settings.delay)) body ∷ [] }))
HomeStep site (Serving its) m (Look max timeout) (Looked picked) after =
    (list_any (is_live its.settings m) (unexpired_rows its m) ≡ true → 0 < flights_left site.limits.flights m (unexpired_rows its m))
    × IsLook its.settings m (m + ms (unwrap_or timeout its.settings.timeout)) (min max (flights_left site.limits.flights m (unexpired_rows its m))) (unexpired_rows its m) picked
    × (after ≡ Serving (record its { rows = map (received_if its.settings (serials_of picked) m (m + ms (unwrap_or timeout its.settings.timeout))) (unexpired_rows its m) }))
HomeStep site (Serving its) m (Look max timeout) Over after =
    (list_any (is_live its.settings m) (unexpired_rows its m) ≡ true)
    × (flights_left site.limits.flights m (unexpired_rows its m) ≡ 0)
    × (after ≡ Serving (record its { rows = unexpired_rows its m }))
HomeStep site (Serving its) m (Delete receipt) Done after =
    (receipt.serial < its.next) × (after ≡ Serving (record its { rows = without receipt (unexpired_rows its m) }))
HomeStep site (Serving its) m (Change receipt timeout) Done after =
    (receipt.serial < its.next)
    × (list_any (is_held m receipt) (unexpired_rows its m) ≡ true)
    × (list_any (λ row. is_held m receipt row && is_late (m + ms timeout) row.last_receive) (unexpired_rows its m) ≡ false)
    × (after ≡ Serving (record its { rows = map (changed_if m receipt (m + ms timeout)) (unexpired_rows its m) }))
HomeStep site (Serving its) m Purge Done after = after ≡ Serving (record its { rows = [] })
HomeStep site (Serving its) m Count (Counted counts) after =
    (counts ≡ counts_of m (unexpired_rows its m)) × (after ≡ Serving (record its { rows = unexpired_rows its m }))
HomeStep site (Serving its) m StartDrain Done after = after ≡ Serving (record its { mode = once_draining its.mode; rows = unexpired_rows its m })
HomeStep site (Serving its) m FinishDrain Done after =
    (is_draining its.mode ≡ true) × (unexpired_rows its m ≡ []) × (after ≡ Serving (record its { mode = Drained; rows = [] }))
HomeStep site (Serving its) m LeaveDead (Left item) after =
    IsFrom site.home DeadLetter item
    × (Some item.target ≡ dead_target its.settings.redrive)
    × (is_dead its.settings m item.row ≡ true)
    × ((rest : List Row) × Takes item.row (unexpired_rows its m) rest × (after ≡ Serving (record its { rows = rest })))
HomeStep site (Serving its) m LeaveDrain (Left item) after =
    IsFrom site.home Drain item
    × (item.target ≡ site.home.queue)
    × (is_draining its.mode ≡ true)
    × (is_at_rest m item.row ≡ true)
    × ((rest : List Row) × Takes item.row (unexpired_rows its m) rest × (after ≡ Serving (record its { rows = rest })))
HomeStep site (Serving its) m (LeaveTask task) (Left item) after =
    IsFrom site.home (Task task) item
    × (is_live its.settings m item.row ≡ true)
    × ((rest : List Row) × Takes item.row (unexpired_rows its m) rest × (after ≡ Serving (record its { rows = rest })))
HomeStep site (Serving its) m (LeaveTask task) NoLiveRow after =
    (list_any (is_live its.settings m) (unexpired_rows its m) ≡ false) × (after ≡ Serving (record its { rows = unexpired_rows its m }))
HomeStep site (Serving its) m (LeaveTask task) (NoOrigin serial) after =
    ((row : Row) × (rest : List Row) × Takes row (unexpired_rows its m) rest × (is_live its.settings m row ≡ true) × (row.serial ≡ serial) × (row.origin ≡ None))
    × (after ≡ Serving (record its { rows = unexpired_rows its m }))
HomeStep site Closed m (LeaveTask task) SourceClosed after = after ≡ Closed
HomeStep site (Serving its) m (Enter item) (Entered entered) after =
    (may_enter site.home item ≡ true)
    × MayHoldOneMore site.limits its.mode its.next entered.slot (unexpired_rows its m)
    × (entered.serial ≡ its.next)
    × (after ≡ Serving (record its { next = its.next + 1; rows = unexpired_rows its m ++ entered_row site.home its.next entered.slot m item ∷ [] }))
HomeStep site Closed m (TurnBack item) Done after = (may_enter site.home item ≡ true) × (after ≡ Closed)
HomeStep site (Serving its) m (GiveBack item) (Entered entered) after =
    (may_return site.home item ≡ true)
    × MayHoldOneMore site.limits its.mode its.next entered.slot (unexpired_rows its m)
    × (entered.serial ≡ its.next)
    × (after ≡ Serving (record its { next = its.next + 1; rows = unexpired_rows its m ++ returned_row its.next entered.slot m item ∷ [] }))
HomeStep site Closed m (Drop item) Done after = (may_return site.home item ≡ true) × (after ≡ Closed)
-- no other reply is given
HomeStep site home m call reply after = ⊥

abbrev pub refused_if : Bool → Refusal → Option Refusal → Option Refusal
refused_if test refusal later = if test then Some refusal else later

-- a home that takes one row more: it may be one that drains, and its serials or its slots may be used up
abbrev pub full_refusal : Limits → HomeMode → ℕ → List Row → Option Refusal → Option Refusal
full_refusal l mode next rows later =
    refused_if (not (accepts mode)) HomeDraining
    (refused_if (nat_le last_serial next || nat_le slots (length rows)) Worn
    (refused_if (nat_le l.rows (length rows)) OverLimit later))

-- the first check of the home that fails
unfoldable pub home_refusal : Site → Home → ℕ → HomeCall → Option Refusal
home_refusal site Unopened m (Configure t w) = None
home_refusal site (Serving its) m (Configure t w) = None
home_refusal site Unopened m Close = None
home_refusal site (Serving its) m Close = None
home_refusal site (Serving its) m (Send body delay) = full_refusal site.limits its.mode its.next (unexpired_rows its m) None
home_refusal site (Serving its) m (Look max timeout) = None
home_refusal site (Serving its) m (Delete receipt) = refused_if (nat_le its.next receipt.serial) ReceiptHandleIsInvalid None
home_refusal site (Serving its) m (Change receipt timeout) =
    refused_if (nat_le its.next receipt.serial) ReceiptHandleIsInvalid
    (refused_if (not (list_any (is_held m receipt) (unexpired_rows its m))) MessageNotInflight
    (refused_if (list_any (λ row. is_held m receipt row && is_late (m + ms timeout) row.last_receive) (unexpired_rows its m)) InvalidParameterValue None))
home_refusal site (Serving its) m Purge = None
home_refusal site (Serving its) m Count = None
home_refusal site (Serving its) m StartDrain = None
home_refusal site (Serving its) m FinishDrain = refused_if (not (is_draining its.mode) || nat_lt 0 (length (unexpired_rows its m))) UnsupportedOperation None
home_refusal site (Serving its) m LeaveDead = None
home_refusal site (Serving its) m LeaveDrain = refused_if (not (is_draining its.mode)) UnsupportedOperation None
home_refusal site (Serving its) m (LeaveTask task) = None
home_refusal site Closed m (LeaveTask task) = None
home_refusal site (Serving its) m (Enter item) =
    full_refusal site.limits its.mode its.next (unexpired_rows its m) (refused_if (not (may_enter site.home item)) UnsupportedOperation None)
home_refusal site (Serving its) m (TurnBack item) = Some UnsupportedOperation
home_refusal site Closed m (TurnBack item) = refused_if (not (may_enter site.home item)) UnsupportedOperation None
home_refusal site (Serving its) m (GiveBack item) =
    full_refusal site.limits its.mode its.next (unexpired_rows its m) (refused_if (not (may_return site.home item)) UnsupportedOperation None)
home_refusal site (Serving its) m (Drop item) = Some UnsupportedOperation
home_refusal site Closed m (Drop item) = refused_if (not (may_return site.home item)) UnsupportedOperation None
home_refusal site Unopened m call = Some QueueDoesNotExist
home_refusal site Closed m call = Some QueueDoesNotExist

-- serials rise below the next one
abbrev pub IsRising : Home → Type 0
IsRising (Serving its) = RisesFrom 0 its.rows its.next
IsRising Unopened = Unit {0}
IsRising Closed = Unit {0}

-- a slot that was given is one of those that are there
abbrev pub HasSlot : HomeReply → Type 0
HasSlot (Sent sent) = sent.slot < slots
HasSlot (Entered entered) = entered.slot < slots
HasSlot Done = Unit {0}
HasSlot (Looked picked) = Unit {0}
HasSlot Over = Unit {0}
HasSlot (Counted counts) = Unit {0}
HasSlot (Left item) = Unit {0}
HasSlot NoLiveRow = Unit {0}
HasSlot (NoOrigin serial) = Unit {0}
HasSlot SourceClosed = Unit {0}

-- no dead row is there to leave, or none of a home that drains is at rest
abbrev pub IsIdle : Home → ℕ → HomeCall → Type 0
IsIdle (Serving its) m LeaveDead = list_any (is_dead its.settings m) (unexpired_rows its m) ≡ false
IsIdle (Serving its) m LeaveDrain = (is_draining its.mode ≡ true) × (list_any (is_at_rest m) (unexpired_rows its m) ≡ false)
IsIdle home m call = ⊥
