-- What becomes of a message: where its rows are, and how they leave the system. A lineage is the id of the first send.
use Rattle.std.specs.Prelude.{ℕ, ◌&&◌, ◌==◌, Bool, List, [], ◌∷◌, ◌++◌, map, filter, count_by, option_map, option_to_list}
use Rattle.sq_base.specs.declared.message_id.MessageId.{MessageId}
use Rattle.sq_base.specs.declared.row.Row.{Row}
use Rattle.sq_base.specs.declared.settings.Settings.{Settings}
use Rattle.sq_model.specs.declared.calls.HomeCall.{HomeCall}
use Rattle.sq_model.specs.declared.calls.HomeCall.TheVariants.{Configure, Close, Send, Look, Delete, Change, Purge, Count, StartDrain, FinishDrain, LeaveDead, LeaveDrain, LeaveTask, Enter, TurnBack, GiveBack, Drop}
use Rattle.sq_model.specs.declared.item.Item.{Item}
use Rattle.sq_model.specs.declared.replies.HomeReply.{HomeReply}
use Rattle.sq_model.specs.Rows.{is_expired, is_named}
use Rattle.sq_model.specs.Homes.{Home, Unopened, Serving, Closed, unexpired_rows}
use Rattle.sq_model.specs.Passages.{Alone, ComesIn, GoesBack, IsDropped, Leaves, Passage, passage_of, passed_in}

-- how a message left the system
pub data Cause : Type 0 where
  Expired Deleted Purged ClosedAway Dropped : Cause

pub record Ending : Type 0 where
  pub line : MessageId
  pub cause : Cause

abbrev pub ended : Cause → List Row → List Ending
ended cause rows = map (λ row. record { line = row.lineage; cause = cause }) rows

abbrev pub expired : Settings → ℕ → List Row → List Row
expired s m rows = filter (is_expired s m) rows

-- Who leaves the system in a step of a home. What has expired goes first, so it is not deleted, purged or closed away.
abbrev pub home_ends : Home → ℕ → HomeCall → List Ending
home_ends (Serving its) m (Delete receipt) = ended Expired (expired its.settings m its.rows) ++ ended Deleted (filter (is_named receipt) (unexpired_rows its m))
home_ends (Serving its) m Purge = ended Expired (expired its.settings m its.rows) ++ ended Purged (unexpired_rows its m)
home_ends (Serving its) m Close = ended Expired (expired its.settings m its.rows) ++ ended ClosedAway (unexpired_rows its m)
home_ends (Serving its) m (Configure t w) = ended Expired (expired its.settings m its.rows)
home_ends (Serving its) m (Send body delay) = ended Expired (expired its.settings m its.rows)
home_ends (Serving its) m (Look max timeout) = ended Expired (expired its.settings m its.rows)
home_ends (Serving its) m (Change receipt timeout) = ended Expired (expired its.settings m its.rows)
home_ends (Serving its) m Count = ended Expired (expired its.settings m its.rows)
home_ends (Serving its) m StartDrain = ended Expired (expired its.settings m its.rows)
home_ends (Serving its) m FinishDrain = ended Expired (expired its.settings m its.rows)
home_ends (Serving its) m LeaveDead = ended Expired (expired its.settings m its.rows)
home_ends (Serving its) m LeaveDrain = ended Expired (expired its.settings m its.rows)
home_ends (Serving its) m (LeaveTask task) = ended Expired (expired its.settings m its.rows)
home_ends (Serving its) m (Enter item) = ended Expired (expired its.settings m its.rows)
home_ends (Serving its) m (TurnBack item) = ended Expired (expired its.settings m its.rows)
home_ends (Serving its) m (GiveBack item) = ended Expired (expired its.settings m its.rows)
home_ends (Serving its) m (Drop item) = ended Expired (expired its.settings m its.rows)
home_ends Unopened m call = []
home_ends Closed m call = []

-- who is sent in a step
abbrev pub home_sends : HomeReply → List MessageId
home_sends reply = option_to_list (passed_in reply).sent

-- what goes from the home into transit
abbrev pub home_outs : HomeReply → List Row
home_outs reply = option_to_list (option_map (λ item. item.row) (passed_in reply).left)

abbrev pub rows_in : Passage → List Row
rows_in Alone = []
rows_in Leaves = []
rows_in (ComesIn item) = item.row ∷ []
rows_in (GoesBack item) = []
rows_in (IsDropped item) = []

-- what comes into the home from transit
abbrev pub home_ins : HomeCall → List Row
home_ins call = rows_in (passage_of call)

abbrev pub ends_in : Passage → List Ending
ends_in (IsDropped item) = record { line = item.row.lineage; cause = Dropped } ∷ []
ends_in Alone = []
ends_in Leaves = []
ends_in (ComesIn item) = []
ends_in (GoesBack item) = []

-- who is dropped in a step, on the way back to a closed queue
abbrev pub home_drops : HomeCall → List Ending
home_drops call = ends_in (passage_of call)

abbrev pub rows_of : Home → List Row
rows_of (Serving its) = its.rows
rows_of Unopened = []
rows_of Closed = []

abbrev pub same_id : MessageId → MessageId → Bool
same_id x y = (y.queue == x.queue) && (y.home == x.home) && (y.serial == x.serial)

-- how often a message is in transit
abbrev pub items_with : MessageId → List Item → ℕ
items_with x items = count_by (λ item. same_id x item.row.lineage) items

-- how often a message stands in a list
abbrev pub rows_with : MessageId → List Row → ℕ
rows_with x rows = count_by (λ row. same_id x row.lineage) rows

abbrev pub ends_with : MessageId → List Ending → ℕ
ends_with x ends = count_by (λ e. same_id x e.line) ends

abbrev pub sends_with : MessageId → List MessageId → ℕ
sends_with x ids = count_by (same_id x) ids
