-- What decides how the rows of a home leave it, and what an event makes of it.
use Rattle.std.specs.Prelude.{ℕ, ◌+◌, Bool, true, not, ◌&&◌, ◌==◌, nat_le, nat_lt, List, [], ◌∷◌, ◌++◌, map, filter, if◌then◌else◌, Option, Some, None}
use Rattle.sq_base.specs.declared.message_id.MessageId.{MessageId}
use Rattle.sq_base.specs.declared.row.Row.{Row}
use Rattle.sq_model.specs.declared.calls.Receipt.{Receipt}
use Rattle.sq_model.specs.declared.calls.HomeCall.{HomeCall}
use Rattle.sq_model.specs.declared.calls.HomeCall.TheVariants as call
use Rattle.sq_model.specs.declared.item.Item.{Item}
use Rattle.sq_model.specs.declared.item.Carried.{Carried}
use Rattle.sq_model.specs.declared.replies.SentMessage.{SentMessage}
use Rattle.sq_model.specs.declared.replies.EnteredRow.{EnteredRow}
use Rattle.sq_model.specs.declared.replies.HomeReply.{HomeReply}
use Rattle.sq_model.specs.declared.replies.HomeReply.TheVariants as reply
use Rattle.sq_model.specs.Rows as rows
use Rattle.sq_model.specs.Homes.{Home, carried, carried_back}
use Rattle.sq_model.specs.Lineages.{Cause, Expired, Deleted, Purged, ClosedAway, Dropped, Ending, rows_of}
use Rattle.sq_places.specs.declared.state.RowState.{RowState}
use Rattle.sq_places.specs.declared.state.Policy.{Policy}

abbrev pub state_of : Row → RowState
state_of row = record { lineage = row.lineage; serial = row.serial; slot = row.slot; enqueued = row.enqueued; receives = row.receives }

abbrev pub states_of : Home → List RowState
states_of home = map state_of (rows_of home)

-- what was enqueued then is past the retention
abbrev pub is_past_retention : ℕ → ℕ → ℕ → Bool
is_past_retention retention m enqueued = nat_le (enqueued + rows.ms retention) m

abbrev pub is_past : ℕ → ℕ → RowState → Bool
is_past retention m row = is_past_retention retention m row.enqueued

abbrev pub is_state_named : Receipt → RowState → Bool
is_state_named receipt row = (row.slot == receipt.slot) && (row.serial == receipt.serial) && (row.receives == receipt.receive)

abbrev pub sent_state : SentMessage → ℕ → RowState
sent_state sent m = record { lineage = sent.id; serial = sent.id.serial; slot = sent.slot; enqueued = m; receives = 0 }

-- the row of a message that came in with what it keeps
abbrev pub row_with : Carried → MessageId → ℕ → ℕ → RowState
row_with keeps lineage serial slot = record { lineage = lineage; serial = serial; slot = slot; enqueued = keeps.enqueued; receives = keeps.receives }

-- the row of an item that comes in at its target at a moment
abbrev pub entered_state : ℕ → Item → EnteredRow → RowState
entered_state m item entered = row_with (carried item.reason m item.row) item.row.lineage entered.serial entered.slot

-- the row of an item that comes back to its source at a moment
abbrev pub returned_state : ℕ → Item → EnteredRow → RowState
returned_state m item entered = row_with (carried_back item.reason m item.row) item.row.lineage entered.serial entered.slot

-- the row of this slot and serial
abbrev pub is_state_of : Row → RowState → Bool
is_state_of row state = (state.slot == row.slot) && (state.serial == row.serial)

abbrev pub has_serial_of : ℕ → List Row → Bool
has_serial_of serial picked = rows.has_serial serial picked

-- received once more; the last receive number stays
abbrev pub state_received : RowState → RowState
state_received row = if nat_lt row.receives 4294967295 then record row { receives = row.receives + 1 } else row

-- after a receive that gave the row of a serial
abbrev pub raised : ℕ → RowState → RowState
raised serial row = if row.serial == serial then state_received row else row

-- after a receive that gave these rows
abbrev pub looked : List Row → RowState → RowState
looked picked row = if has_serial_of row.serial picked then state_received row else row

abbrev pub is_newer : Option Policy → ℕ → Bool
is_newer None version = true
is_newer (Some policy) version = nat_lt policy.version version

abbrev pub next_policy : Option Policy → HomeCall → Option Policy
next_policy policy (call.Configure settings version) = if is_newer policy version then Some (record { retention = settings.retention; version = version }) else policy
next_policy policy call.Close = policy
next_policy policy (call.Send body delay) = policy
next_policy policy (call.Look max timeout) = policy
next_policy policy (call.Delete receipt) = policy
next_policy policy (call.Change receipt timeout) = policy
next_policy policy call.Purge = policy
next_policy policy call.Count = policy
next_policy policy call.StartDrain = policy
next_policy policy call.FinishDrain = policy
next_policy policy call.LeaveDead = policy
next_policy policy call.LeaveDrain = policy
next_policy policy (call.LeaveTask task) = policy
next_policy policy (call.Enter item) = policy
next_policy policy (call.TurnBack item) = policy
next_policy policy (call.GiveBack item) = policy
next_policy policy (call.Drop item) = policy

-- What an event does to the rows that have not expired. A message leaves the system, or goes into transit as a row; one that comes
-- in from there is a new row, and one that is dropped there leaves the system.
pub data Effect : Type 0 where
  Stays : Effect
  Arrives : SentMessage → Effect
  Looks : List Row → Effect
  Leaves : (RowState → Bool) → Cause → Effect
  Departs : Row → Effect
  Enters : RowState → Effect
  Drops : MessageId → Effect

-- what a send, a look and a leave make of the rows; each is replied in a way of its own, so the reply says it
abbrev pub reply_effect : HomeReply → Effect
reply_effect reply.Done = Stays
reply_effect (reply.Sent sent) = Arrives sent
reply_effect (reply.Looked picked) = Looks picked
reply_effect reply.Over = Stays
reply_effect (reply.Counted counts) = Stays
reply_effect (reply.Left item) = Departs item.row
reply_effect reply.NoLiveRow = Stays
reply_effect (reply.NoOrigin serial) = Stays
reply_effect reply.SourceClosed = Stays
reply_effect (reply.Entered entered) = Stays

-- what a row that comes in makes of them, by what it is as a row of the home
abbrev pub entry_effect : (EnteredRow → RowState) → HomeReply → Effect
entry_effect row_of reply.Done = Stays
entry_effect row_of (reply.Sent sent) = Stays
entry_effect row_of (reply.Looked picked) = Stays
entry_effect row_of reply.Over = Stays
entry_effect row_of (reply.Counted counts) = Stays
entry_effect row_of (reply.Left item) = Stays
entry_effect row_of reply.NoLiveRow = Stays
entry_effect row_of (reply.NoOrigin serial) = Stays
entry_effect row_of reply.SourceClosed = Stays
entry_effect row_of (reply.Entered entered) = Enters (row_of entered)

abbrev pub effect_of : ℕ → HomeCall → HomeReply → Effect
effect_of m (call.Configure settings version) reply = Stays
effect_of m call.Close reply = Leaves (λ row. true) ClosedAway
effect_of m (call.Send body delay) reply = reply_effect reply
effect_of m (call.Look max timeout) reply = reply_effect reply
effect_of m (call.Delete receipt) reply = Leaves (is_state_named receipt) Deleted
effect_of m (call.Change receipt timeout) reply = Stays
effect_of m call.Purge reply = Leaves (λ row. true) Purged
effect_of m call.Count reply = Stays
effect_of m call.StartDrain reply = Stays
effect_of m call.FinishDrain reply = Stays
effect_of m call.LeaveDead reply = reply_effect reply
effect_of m call.LeaveDrain reply = reply_effect reply
effect_of m (call.LeaveTask task) reply = reply_effect reply
effect_of m (call.Enter item) reply = entry_effect (entered_state m item) reply
effect_of m (call.TurnBack item) reply = Stays
effect_of m (call.GiveBack item) reply = entry_effect (returned_state m item) reply
effect_of m (call.Drop item) reply = Drops item.row.lineage

-- A message is sent, goes into transit, or is in transit no more.
pub data Crossing : Type 0 where
  Nobody : Crossing
  Sends : MessageId → Crossing
  IntoTransit : MessageId → Crossing
  OutOfTransit : MessageId → Crossing

abbrev pub crossing_of : Effect → Crossing
crossing_of Stays = Nobody
crossing_of (Arrives sent) = Sends sent.id
crossing_of (Looks picked) = Nobody
crossing_of (Leaves p cause) = Nobody
crossing_of (Departs row) = IntoTransit row.lineage
crossing_of (Enters row) = OutOfTransit row.lineage
crossing_of (Drops line) = OutOfTransit line

abbrev pub sends_of : Crossing → List MessageId
sends_of Nobody = []
sends_of (Sends id) = id ∷ []
sends_of (IntoTransit id) = []
sends_of (OutOfTransit id) = []

abbrev pub outs_of : Crossing → List MessageId
outs_of Nobody = []
outs_of (Sends id) = []
outs_of (IntoTransit id) = id ∷ []
outs_of (OutOfTransit id) = []

abbrev pub ins_of : Crossing → List MessageId
ins_of Nobody = []
ins_of (Sends id) = []
ins_of (IntoTransit id) = []
ins_of (OutOfTransit id) = id ∷ []

-- who is sent
abbrev pub effect_sends : Effect → List MessageId
effect_sends effect = sends_of (crossing_of effect)

-- who goes into transit
abbrev pub effect_outs : Effect → List MessageId
effect_outs effect = outs_of (crossing_of effect)

-- who is in transit no more
abbrev pub effect_ins : Effect → List MessageId
effect_ins effect = ins_of (crossing_of effect)

abbrev pub kept_states : Option Policy → ℕ → List RowState → List RowState
kept_states None m rows = rows
kept_states (Some policy) m rows = filter (λ row. not (is_past policy.retention m row)) rows

abbrev pub past_states : Option Policy → ℕ → List RowState → List RowState
past_states None m rows = []
past_states (Some policy) m rows = filter (is_past policy.retention m) rows

abbrev pub states_after : ℕ → Effect → List RowState → List RowState
states_after m Stays rows = rows
states_after m (Arrives sent) rows = rows ++ sent_state sent m ∷ []
states_after m (Looks picked) rows = map (looked picked) rows
states_after m (Leaves p cause) rows = filter (λ row. not (p row)) rows
states_after m (Departs row) rows = filter (λ state. not (is_state_of row state)) rows
states_after m (Enters row) rows = rows ++ row ∷ []
states_after m (Drops line) rows = rows

abbrev pub ended_states : Cause → List RowState → List Ending
ended_states cause rows = map (λ row. record { line = row.lineage; cause = cause }) rows

-- those that leave the system beside those that expire
abbrev pub left_states : Effect → List RowState → List Ending
left_states Stays rows = []
left_states (Arrives sent) rows = []
left_states (Looks picked) rows = []
left_states (Leaves p cause) rows = ended_states cause (filter p rows)
left_states (Departs row) rows = []
left_states (Enters row) rows = []
left_states (Drops line) rows = record { line = line; cause = Dropped } ∷ []

abbrev pub state_ends : Option Policy → ℕ → Effect → List RowState → List Ending
state_ends policy m effect rows = ended_states Expired (past_states policy m rows) ++ left_states effect (kept_states policy m rows)
