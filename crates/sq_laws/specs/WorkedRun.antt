-- Runs of two queues with one home each: what each step is asked and answers, and what the system is after them. First those of dead letters.
use Rattle.std.specs.Prelude.{ℕ, suc, ◌+◌, true, false, List, [], ◌∷◌, ◌++◌, Some, None, codes}
use Rattle.sq_base.specs.StampValue.{StampValue}
use Rattle.sq_base.specs.declared.row.Row.{Row}
use Rattle.sq_model.specs.declared.calls.HomeCall.{HomeCall}
use Rattle.sq_model.specs.declared.calls.HomeCall.TheVariants.{Close, Configure, Delete, Enter, GiveBack, Drop, LeaveDead, Look, Send, TurnBack}
use Rattle.sq_model.specs.declared.directory.DirectoryCall.{DirectoryCall}
use Rattle.sq_model.specs.declared.directory.DirectoryCall.TheVariants.{Create, Remove}
use Rattle.sq_model.specs.declared.directory.DirectoryReply.{DirectoryReply}
use Rattle.sq_model.specs.declared.directory.DirectoryReply.TheVariants.{Made, Removed}
use Rattle.sq_model.specs.declared.directory.Queue.{Queue}
use Rattle.sq_model.specs.declared.item.Item.{Item}
use Rattle.sq_model.specs.declared.ledger.LedgerCall.{LedgerCall}
use Rattle.sq_model.specs.declared.ledger.LedgerReply.{LedgerReply}
use Rattle.sq_model.specs.declared.place.Component.TheVariants as part
use Rattle.sq_model.specs.declared.place.Site.{Site}
use Rattle.sq_model.specs.declared.replies.HomeReply.{HomeReply}
use Rattle.sq_model.specs.declared.replies.HomeReply.TheVariants.{Done, Entered, Left, Looked, Sent}
use Rattle.sq_model.specs.Directories.{Directory, opening_directory, settings_at}
use Rattle.sq_model.specs.Homes.{Closed, Home, fresh_id}
use Rattle.sq_model.specs.Ledgers.{Ledger, opening_ledger}
use Rattle.sq_model.specs.Policies.{nothing_given}
use Rattle.sq_model.specs.Systems.{IsRun, OfDirectory, OfHome, OfLedger, Opening, System, Tag}
use Rattle.sq_laws.specs.Worked.{hello, hello_once, hello_text, narrow, plain, worked_receipt, site_of, strict, wide, with_rows, worked_home}
use Rattle.sq_laws.specs.WorkedDirectory.{dead_to, letters_queue, redrive_given, source_queue}
use Rattle.sq_laws.specs.WorkedMoves.{dead_item, letter, letters_site}

abbrev pub stamp : ℕ → ℕ → StampValue
stamp moment count = record { moment = moment; count = count }

-- the first home of queue 1, and that of queue 2
abbrev pub both_sites : List Site
both_sites = letters_site ∷ wide ∷ []

-- so many queues may be made at these homes, and 10,000 messages may be in transit
abbrev pub opened_for : ℕ → List Site → Opening
opened_for queues sites = record { queues = queues; transit = 10000; sites = sites }

-- a run from the opening, where 64 queues may be made
abbrev pub IsWorked : List Tag → System → Type 0
IsWorked run after = IsRun (opened_for 64 both_sites) run after

-- two homes, the first of queue 1 and the second of queue 2
abbrev pub system_at : Site → Site → Directory → Ledger → Home → Home → System
system_at one two d l first second = record { directory = d; ledger = l; homes = record { site = one; home = first } ∷ record { site = two; home = second } ∷ [] }

abbrev pub system : Directory → Ledger → Home → Home → System
system d l first second = system_at letters_site wide d l first second

-- ---- events: moment and count of the stamp, actor, and place among the actor's

abbrev pub of_queues : ℕ → ℕ → ℕ → ℕ → DirectoryCall → DirectoryReply → Tag
of_queues moment count actor place call reply = OfDirectory (record { stamp = stamp moment count; actor = actor; place = place; component = part.Directory; call = call; reply = reply })

abbrev pub of_tasks : ℕ → ℕ → ℕ → ℕ → LedgerCall → LedgerReply → Tag
of_tasks moment count actor place call reply = OfLedger (record { stamp = stamp moment count; actor = actor; place = place; component = part.Ledger; call = call; reply = reply })

-- at the home of the queue after the i-th
abbrev pub at_worked_home : ℕ → ℕ → ℕ → ℕ → ℕ → HomeCall → HomeReply → Tag
at_worked_home i moment count actor place call reply = OfHome i (record { stamp = stamp moment count; actor = actor; place = place; component = part.Home (worked_home (suc i)); call = call; reply = reply })

abbrev pub of_first : ℕ → ℕ → ℕ → ℕ → HomeCall → HomeReply → Tag
of_first moment count actor place call reply = at_worked_home 0 moment count actor place call reply

abbrev pub of_second : ℕ → ℕ → ℕ → ℕ → HomeCall → HomeReply → Tag
of_second moment count actor place call reply = at_worked_home 1 moment count actor place call reply

-- a row came in, with a serial and the slot of that number
abbrev pub came_in : ℕ → HomeReply
came_in serial = Entered (record { serial = serial; slot = serial })

-- a message was sent to a queue, with a serial and the slot of that number
abbrev pub sent_to : ℕ → ℕ → HomeReply
sent_to queue serial = Sent (record { id = fresh_id (worked_home queue) serial; slot = serial })

-- ---- the parts, as they go on

abbrev pub both_made : Directory
both_made = record (opening_directory 64) { queues = letters_queue ∷ source_queue ∷ []; made = 2 }

-- one of both was deleted, and these are left
abbrev pub one_deleted : List Queue → List ℕ → ℕ → Directory
one_deleted queues name moment = record both_made { queues = queues; deleted = record { name = name; moment = moment } ∷ [] }

abbrev pub nothing_moves : Ledger
nothing_moves = opening_ledger 10000

abbrev pub one_moves : Ledger
one_moves = record nothing_moves { items = dead_item false ∷ []; next_item = 2 }

abbrev pub one_moved : Ledger
one_moved = record nothing_moves { next_item = 2 }

-- a row after its first receive, at a moment, for 30 seconds
abbrev pub once_received : ℕ → Row → Row
once_received moment row = record row { visible_from = moment + 30000; receives = 1; last_receive = Some moment }

-- ---- a dead letter leaves

-- queue 1 is made for dead letters, and queue 2, whose they are
abbrev pub both_opened : List Tag
both_opened =
    of_queues 0 1 0 0 (Create (codes "d") nothing_given) (Made (settings_at letters_queue))
    ∷ of_first 0 2 0 1 (Configure plain 1) Done
    ∷ of_queues 0 3 0 2 (Create (codes "q") (redrive_given (Some (dead_to (codes "d"))))) (Made (settings_at source_queue))
    ∷ of_second 0 4 0 3 (Configure strict 1) Done
    ∷ []

-- a message is sent and received once by actor 0; it is dead at 31,000
abbrev pub until_dead : List Tag
until_dead = both_opened
    ++ of_second 1000 0 0 4 (Send hello_text None) (sent_to 2 0)
    ∷ of_second 1000 1 0 5 (Look 1 None) (Looked (hello_once ∷ []))
    ∷ of_second 31000 0 0 6 (Look 1 None) (Looked [])
    ∷ []

-- it is moved by actor 1
abbrev pub until_left : List Tag
until_left = until_dead ++ of_second 31000 2 1 0 LeaveDead (Left (dead_item false)) ∷ []

abbrev pub until_entered : List Tag
until_entered = until_left ++ of_first 31000 4 1 1 (Enter (dead_item false)) (came_in 0) ∷ []

-- and received by actor 0
abbrev pub worked_run : List Tag
worked_run = until_entered ++ of_first 31000 5 0 7 (Look 1 None) (Looked (once_received 31000 letter ∷ [])) ∷ []

abbrev pub after_receive : System
after_receive = system both_made nothing_moves (with_rows plain 0 []) (with_rows strict 1 (hello_once ∷ []))

abbrev pub after_leave : System
after_leave = system both_made one_moves (with_rows plain 0 []) (with_rows strict 1 [])

abbrev pub after_all : System
after_all = system both_made one_moved (with_rows plain 1 (once_received 31000 letter ∷ [])) (with_rows strict 1 [])

-- ---- its queue is deleted

abbrev pub letters_deleted : List Tag
letters_deleted = until_left
    ++ of_queues 31000 1 0 7 (Remove (codes "d")) (Removed 1)
    ∷ of_first 31000 2 0 8 Close Done
    ∷ []

abbrev pub turned_back : Tag
turned_back = of_first 31000 4 1 1 (TurnBack (dead_item false)) Done

-- the message, back in its queue with the next serial
abbrev pub hello_back : Row
hello_back = record hello { serial = 1; slot = 1; visible_from = 31000 }

abbrev pub back_run : List Tag
back_run = letters_deleted
    ++ turned_back
    ∷ of_second 31000 6 1 2 (GiveBack (dead_item true)) (came_in 1)
    ∷ of_second 31000 7 0 9 (Look 1 None) (Looked (once_received 31000 hello_back ∷ []))
    ∷ []

abbrev pub after_back : System
after_back = system (one_deleted (source_queue ∷ []) (codes "d") 31000) one_moved Closed (with_rows strict 2 (once_received 31000 hello_back ∷ []))

-- both queues are deleted
abbrev pub dropped_run : List Tag
dropped_run = letters_deleted
    ++ of_queues 31000 3 0 9 (Remove (codes "q")) (Removed 2)
    ∷ of_second 31000 4 0 10 Close Done
    ∷ turned_back
    ∷ of_second 31000 6 1 2 (Drop (dead_item true)) Done
    ∷ []

abbrev pub after_drop : System
after_drop = system (record both_made { queues = []; deleted = record { name = codes "d"; moment = 31000 } ∷ record { name = codes "q"; moment = 31000 } ∷ [] }) one_moved Closed Closed

-- ---- its queue is full

-- homes of one message at most
abbrev pub narrow_letters : Site
narrow_letters = site_of 1 1 120000

abbrev pub narrow_sites : List Site
narrow_sites = narrow_letters ∷ narrow ∷ []

abbrev pub narrow_system : Ledger → Home → Home → System
narrow_system l first second = system_at narrow_letters narrow both_made l first second

-- a message of queue 1, and one of queue 2
abbrev pub message_x : Row
message_x = record hello { id = fresh_id (worked_home 1) 0; lineage = fresh_id (worked_home 1) 0; body = codes "x" }

abbrev pub message_y : Row
message_y = record hello { body = codes "y" }

abbrev pub item_y : Item
item_y = record (dead_item false) { row = once_received 1000 message_y }

abbrev pub until_full : List Tag
until_full = both_opened
    ++ of_first 1000 0 0 4 (Send (codes "x") None) (sent_to 1 0)
    ∷ of_second 1000 1 0 5 (Send (codes "y") None) (sent_to 2 0)
    ∷ of_second 1000 2 0 6 (Look 1 None) (Looked (once_received 1000 message_y ∷ []))
    ∷ of_second 31000 1 1 0 LeaveDead (Left item_y)
    ∷ []

abbrev pub after_full : System
after_full = narrow_system (record one_moves { items = item_y ∷ [] }) (with_rows plain 1 (message_x ∷ [])) (with_rows strict 1 [])

-- the letter, with the next serial
abbrev pub letter_y : Row
letter_y = record letter { body = codes "y"; serial = 1; slot = 1 }

abbrev pub full_run : List Tag
full_run = until_full
    ++ of_first 31000 0 0 7 (Look 1 None) (Looked (once_received 31000 message_x ∷ []))
    ∷ of_first 31000 1 0 8 (Delete (worked_receipt 1)) Done
    ∷ of_first 31000 3 1 1 (Enter item_y) (came_in 1)
    ∷ of_first 31000 4 0 9 (Look 1 None) (Looked (once_received 31000 letter_y ∷ []))
    ∷ []

abbrev pub after_waiting : System
after_waiting = narrow_system one_moved (with_rows plain 2 (once_received 31000 letter_y ∷ [])) (with_rows strict 1 [])
