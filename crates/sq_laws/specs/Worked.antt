-- A home with one message or two, as the worked cases meet it.
use Rattle.std.specs.Prelude.{ℕ, false, List, [], ◌∷◌, Some, None}
use Rattle.sq_base.specs.declared.ids.HomeId.{HomeId}
use Rattle.sq_base.specs.declared.message_id.MessageId.{MessageId}
use Rattle.sq_base.specs.declared.row.Row.{Row}
use Rattle.sq_base.specs.declared.settings.Settings.{Settings}
use Rattle.sq_model.specs.declared.home_mode.HomeMode.TheVariants.{Accepting}
use Rattle.sq_model.specs.declared.place.Site.{Site}
use Rattle.sq_model.specs.declared.item.Item.{Item}
use Rattle.sq_model.specs.declared.item.Reason.TheVariants.{DeadLetter, Task}
use Rattle.sq_model.specs.declared.calls.Receipt.{Receipt}
use Rattle.sq_model.specs.Homes.{Home, Serving}

-- no delay, kept for four days, hidden for 30 seconds, never dead
abbrev pub plain : Settings
plain = record { delay = 0; retention = 345600; wait_time = 0; timeout = 30; redrive = None }

abbrev pub kept_for : ℕ → Settings
kept_for seconds = record plain { retention = seconds }

-- dead after one receive, with queue 1 for its dead letters
abbrev pub strict : Settings
strict = record plain { redrive = Some (record { target = 1; max_receives = 1 }) }

-- home 0 of a queue
abbrev pub worked_home : ℕ → HomeId
worked_home queue = record { queue = queue; home = 0 }

abbrev pub site_of : ℕ → ℕ → ℕ → Site
site_of queue rows flights = record { home = worked_home queue; limits = record { rows = rows; flights = flights } }

-- of queue 2, with the greatest limits
abbrev pub wide : Site
wide = site_of 2 1048576 120000

-- at most one message
abbrev pub narrow : Site
narrow = site_of 2 1 120000

-- at most one message in flight
abbrev pub careful : Site
careful = site_of 2 1048576 1

abbrev pub hello_text : List ℕ
hello_text = 104 ∷ 101 ∷ 108 ∷ 108 ∷ 111 ∷ []

-- the id that queue 2 gives with a serial
abbrev pub worked_id : ℕ → MessageId
worked_id serial = record { queue = 2; home = 0; serial = serial }

-- sent at 1000 to queue 2, with this serial and the slot of that number
abbrev pub sent_as : ℕ → Row
sent_as serial =
    record { id = worked_id serial; lineage = worked_id serial; body = hello_text; serial = serial; slot = serial; enqueued = 1000; visible_from = 1000; receives = 0; last_receive = None; origin = None }

abbrev pub hello : Row
hello = sent_as 0

-- sent with a delay of 900 seconds
abbrev pub delayed_hello : Row
delayed_hello = record hello { visible_from = 901000 }

-- received at 1000
abbrev pub hello_once : Row
hello_once = record hello { visible_from = 31000; receives = 1; last_receive = Some 1000 }

-- and again at 31,000
abbrev pub hello_twice : Row
hello_twice = record hello { visible_from = 61000; receives = 2; last_receive = Some 31000 }

-- received at 2000 for the first time
abbrev pub hello_late : Row
hello_late = record hello { visible_from = 32000; receives = 1; last_receive = Some 2000 }

-- the receipt of a receive of it
abbrev pub worked_receipt : ℕ → Receipt
worked_receipt receive = record { slot = 0; serial = 0; receive = receive }

-- a home that gave serials below next
abbrev pub with_rows : Settings → ℕ → List Row → Home
with_rows s next rows = Serving (record { settings = s; version = 1; mode = Accepting; next = next; rows = rows })

-- on its way to queue 1
abbrev pub dead_hello : Item
dead_hello = record { number = 1; row = hello_once; source = 2; target = 1; reason = DeadLetter; homeward = false }

-- moved by the first task
abbrev pub moved_hello : Item
moved_hello = record { number = 1; row = hello; source = 2; target = 1; reason = Task 1; homeward = false }
