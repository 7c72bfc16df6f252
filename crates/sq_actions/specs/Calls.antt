-- The values that calls are made of.
use Rattle.std.specs.Prelude.{ℕ, ◌+◌, Bool, ◌&&◌, ◌||◌, ◌==◌, nat_lt, List, if◌then◌else◌, Option, Some, None}
use Rattle.sq_base.specs.declared.handle.Handle.{Handle}
use Rattle.sq_base.specs.declared.ids.HomeId.{HomeId}
use Rattle.sq_base.specs.declared.row.Row.{Row}
use Rattle.sq_model.specs.declared.calls.Receipt.{Receipt}
use Rattle.sq_calls.specs.declared.calls.Answer.{Answer}
use Rattle.sq_calls.specs.declared.calls.Answer.TheVariants as answer
use Rattle.sq_calls.specs.declared.calls.AskedOfQueue.{AskedOfQueue}
use Rattle.sq_calls.specs.declared.calls.QueueCounts.{QueueCounts}
use Rattle.sq_calls.specs.declared.calls.ReceiveMessage.{ReceiveMessage}
use Rattle.sq_model.specs.declared.replies.Counts.{Counts}

abbrev pub home_numbered : ℕ → ℕ → HomeId
home_numbered queue home = record { queue = queue; home = home }

-- the messages that a home gave
abbrev pub received_from : ReceiveMessage → HomeId → List Row → Answer
received_from c home rows = answer.Received (record { attributes = c.attributes; home = home; rows = rows })

abbrev pub receipt_of : Handle → Receipt
receipt_of handle = record { slot = handle.slot; serial = handle.serial; receive = handle.receive }

-- the handle is one of this queue and of one of its homes
abbrev pub is_handle_of : ℕ → ℕ → Handle → Bool
is_handle_of homes queue handle = handle.queue == queue && nat_lt handle.home homes

-- the handle, where it is one of this queue and of one of its homes
abbrev pub handle_of_queue : ℕ → ℕ → Option Handle → Option Handle
handle_of_queue homes queue None = None
handle_of_queue homes queue (Some handle) = if is_handle_of homes queue handle then Some handle else None

-- a count of messages is asked for
abbrev pub asks_counts : AskedOfQueue → Bool
asks_counts asked = asked.visible || asked.delayed || asked.in_flight

-- how many homes count their messages
abbrev pub counted_homes : ℕ → AskedOfQueue → ℕ
counted_homes homes asked = if asks_counts asked then homes else 0

abbrev pub no_counts : QueueCounts
no_counts = record { visible = 0; in_flight = 0; delayed = 0 }

-- with those of one home more
abbrev pub counts_with : QueueCounts → Counts → QueueCounts
counts_with sum counts = record { visible = sum.visible + counts.visible; in_flight = sum.in_flight + counts.in_flight; delayed = sum.delayed + counts.delayed }
