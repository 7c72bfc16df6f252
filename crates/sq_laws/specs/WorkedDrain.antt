-- Two homes of queue 2, of which the first is drained: rows, the ledger, and what the system is in one run. The message was received once, with a timeout of 0.
use Rattle.std.specs.Prelude.{ℕ, false, List, [], ◌∷◌, ◌++◌, Some, None, codes}
use Rattle.sq_base.specs.declared.ids.HomeId.{HomeId}
use Rattle.sq_base.specs.declared.row.Row.{Row}
use Rattle.sq_model.specs.declared.calls.HomeCall.{HomeCall}
use Rattle.sq_model.specs.declared.calls.HomeCall.TheVariants.{Configure, Delete, Enter, FinishDrain, LeaveDrain, Look, Send, StartDrain}
use Rattle.sq_model.specs.declared.directory.DirectoryCall.TheVariants.{Create}
use Rattle.sq_model.specs.declared.directory.DirectoryReply.TheVariants.{Made}
use Rattle.sq_model.specs.declared.home_mode.HomeMode.{HomeMode}
use Rattle.sq_model.specs.declared.home_mode.HomeMode.TheVariants.{Accepting, Draining, Drained}
use Rattle.sq_model.specs.declared.item.Item.{Item}
use Rattle.sq_model.specs.declared.item.Reason.TheVariants.{Drain}
use Rattle.sq_model.specs.declared.place.Component.TheVariants as part
use Rattle.sq_model.specs.declared.place.Site.{Site}
use Rattle.sq_model.specs.declared.replies.HomeReply.{HomeReply}
use Rattle.sq_model.specs.declared.replies.HomeReply.TheVariants.{Done, Left, Looked}
use Rattle.sq_model.specs.Directories.{Directory, opening_directory, settings_at}
use Rattle.sq_model.specs.Homes.{Home, Serving}
use Rattle.sq_model.specs.Ledgers.{Ledger}
use Rattle.sq_model.specs.Policies.{nothing_given}
use Rattle.sq_model.specs.Systems.{IsRun, OfHome, System, Tag}
use Rattle.sq_laws.specs.Worked.{hello, hello_text, plain, wide, worked_receipt}
use Rattle.sq_laws.specs.WorkedDirectory.{letters_queue, plain_source}
use Rattle.sq_laws.specs.WorkedMoves.{worked_ledger}
use Rattle.sq_laws.specs.WorkedRun.{came_in, nothing_moves, of_queues, opened_for, sent_to, stamp, system_at}

-- a home of queue 2
abbrev pub home_at : ℕ → HomeId
home_at number = record { queue = 2; home = number }

-- its home 1; home 0 is wide
abbrev pub second_home : Site
second_home = record wide { home = home_at 1 }

-- a home that gave serials below next, in a mode
abbrev pub in_mode : HomeMode → ℕ → List Row → Home
in_mode mode next rows = Serving (record { settings = plain; version = 1; mode = mode; next = next; rows = rows })

-- received at 1000, and visible again at once
abbrev pub hello_seen : Row
hello_seen = record hello { receives = 1; last_receive = Some 1000 }

-- and received again at 2000, for 30 seconds
abbrev pub hello_seen_again : Row
hello_seen_again = record hello_seen { visible_from = 32000; receives = 2; last_receive = Some 2000 }

-- a message on its way to another home of its queue
abbrev pub drained : Row → Item
drained row = record { number = 1; row = row; source = 2; target = 2; reason = Drain; homeward = false }

abbrev pub with_drained : Row → Ledger
with_drained row = worked_ledger (drained row ∷ []) 2 [] 1

abbrev pub after_drained : Ledger
after_drained = worked_ledger [] 2 [] 1

-- ---- one run

abbrev pub drain_sites : List Site
drain_sites = wide ∷ second_home ∷ []

abbrev pub IsDrainRun : List Tag → System → Type 0
IsDrainRun run after = IsRun (opened_for 64 drain_sites) run after

abbrev pub of_drain_home : ℕ → ℕ → ℕ → ℕ → ℕ → HomeCall → HomeReply → Tag
of_drain_home i moment count actor place call reply = OfHome i (record { stamp = stamp moment count; actor = actor; place = place; component = part.Home (home_at i); call = call; reply = reply })

-- queue 2 is made, and both its homes are opened
abbrev pub drain_opened : List Tag
drain_opened =
    of_queues 0 1 0 0 (Create (codes "d") nothing_given) (Made (settings_at letters_queue))
    ∷ of_queues 0 2 0 1 (Create (codes "q") nothing_given) (Made (settings_at plain_source))
    ∷ of_drain_home 0 0 3 0 2 (Configure plain 1) Done
    ∷ of_drain_home 1 0 4 0 3 (Configure plain 1) Done
    ∷ []

-- a message is sent to home 0 and received there by actor 0, and home 0 is to be drained
abbrev pub until_draining : List Tag
until_draining = drain_opened
    ++ of_drain_home 0 1000 0 0 4 (Send hello_text None) (sent_to 2 0)
    ∷ of_drain_home 0 1000 1 0 5 (Look 1 (Some 0)) (Looked (hello_seen ∷ []))
    ∷ of_drain_home 0 2000 0 0 6 StartDrain Done
    ∷ []

-- it leaves by actor 1, and the drain ends
abbrev pub until_drained : List Tag
until_drained = until_draining
    ++ of_drain_home 0 2000 1 1 0 LeaveDrain (Left (drained hello_seen))
    ∷ of_drain_home 0 2000 2 0 7 FinishDrain Done
    ∷ []

-- it comes in at home 1, and is received there
abbrev pub until_received : List Tag
until_received = until_drained
    ++ of_drain_home 1 2000 3 1 1 (Enter (drained hello_seen)) (came_in 0)
    ∷ of_drain_home 1 2000 4 0 8 (Look 1 None) (Looked (hello_seen_again ∷ []))
    ∷ []

-- the receipt of the first receive is handed to home 0, which gave it
abbrev pub drain_run : List Tag
drain_run = until_received ++ of_drain_home 0 2000 5 0 9 (Delete (worked_receipt 1)) Done ∷ []

abbrev pub both_plain : Directory
both_plain = record (opening_directory 64) { queues = letters_queue ∷ plain_source ∷ []; made = 2 }

abbrev pub drain_system : Ledger → Home → Home → System
drain_system l first second = system_at wide second_home both_plain l first second

abbrev pub when_draining : System
when_draining = drain_system nothing_moves (in_mode Draining 1 (hello_seen ∷ [])) (in_mode Accepting 0 [])

abbrev pub when_drained : System
when_drained = drain_system (record nothing_moves { items = drained hello_seen ∷ []; next_item = 2 }) (in_mode Drained 1 []) (in_mode Accepting 0 [])

abbrev pub when_received : System
when_received = drain_system (record nothing_moves { next_item = 2 }) (in_mode Drained 1 []) (in_mode Accepting 1 (hello_seen_again ∷ []))
