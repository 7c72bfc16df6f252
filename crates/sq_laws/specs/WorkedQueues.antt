-- Runs of queues that are made, read, purged and deleted: what each step is asked and answers, and what the system is after them.
use Rattle.std.specs.Prelude.{ℕ, List, [], ◌∷◌, ◌++◌, Some, None, codes}
use Rattle.sq_model.specs.declared.calls.HomeCall.TheVariants.{Close, Configure, Count, Purge, Send}
use Rattle.sq_model.specs.declared.directory.DirectoryCall.TheVariants.{Create, PurgeTicket, Read, Remove}
use Rattle.sq_model.specs.declared.directory.DirectoryReply.TheVariants.{Made, Read as WasRead, Removed, Ticket}
use Rattle.sq_model.specs.declared.directory.Queue.{Queue}
use Rattle.sq_model.specs.declared.replies.HomeReply.TheVariants.{Counted, Done}
use Rattle.sq_model.specs.Directories.{Directory, attributes_at, opening_directory, settings_at}
use Rattle.sq_model.specs.Homes.{Closed, Unopened}
use Rattle.sq_model.specs.Policies.{nothing_given}
use Rattle.sq_model.specs.Systems.{System, Tag}
use Rattle.sq_laws.specs.Worked.{hello, hello_text, plain, with_rows}
use Rattle.sq_laws.specs.WorkedDirectory.{allow_given, letters_for, letters_queue, made_queue, only_x, plain_source}
use Rattle.sq_laws.specs.WorkedRun.{nothing_moves, of_first, of_queues, of_second, sent_to, system}

-- ---- a queue that permits one other queue to choose it

abbrev pub only_x_queue : Queue
only_x_queue = record letters_queue { allow = Some only_x }

abbrev pub permits_run : List Tag
permits_run =
    of_queues 0 1 0 0 (Create (codes "d") (allow_given only_x)) (Made (settings_at only_x_queue))
    ∷ of_first 0 2 0 1 (Configure plain 1) Done
    ∷ of_queues 0 3 0 2 (Read (codes "d")) (WasRead (attributes_at only_x_queue))
    ∷ of_queues 0 4 0 3 (Create (codes "q") nothing_given) (Made (settings_at plain_source))
    ∷ of_second 0 5 0 4 (Configure plain 1) Done
    ∷ of_queues 0 6 0 5 (Read (codes "q")) (WasRead (record { queue = 2; settings = plain; redrive = None; allow = None }))
    ∷ of_second 0 7 0 6 Count (Counted (record { visible = 0; in_flight = 0; delayed = 0 }))
    ∷ []

abbrev pub after_permits : System
after_permits = system (letters_for (Some only_x)) nothing_moves (with_rows plain 0 []) (with_rows plain 0 [])

-- ---- a queue is purged twice, deleted and made again

abbrev pub once_queue : Queue
once_queue = made_queue 1 (codes "q")

abbrev pub again_queue : Queue
again_queue = made_queue 2 (codes "q")

-- the queue, of so many that may be made, after its last purge
abbrev pub once_made : ℕ → ℕ → Directory
once_made most purge = record (opening_directory most) { queues = record once_queue { last_purge = Some purge } ∷ []; made = 1 }

abbrev pub once_deleted : ℕ → Directory
once_deleted most = record (once_made most 0) { queues = []; deleted = record { name = codes "q"; moment = 61000 } ∷ [] }

abbrev pub until_purged : List Tag
until_purged =
    of_queues 0 1 0 0 (Create (codes "q") nothing_given) (Made (settings_at once_queue))
    ∷ of_first 0 2 0 1 (Configure plain 1) Done
    ∷ of_queues 1000 0 0 2 (PurgeTicket (codes "q")) (Ticket 1)
    ∷ of_first 1000 1 0 3 Purge Done
    ∷ []

abbrev pub until_deleted : List Tag
until_deleted = until_purged
    ++ of_queues 61000 0 0 4 (PurgeTicket (codes "q")) (Ticket 1)
    ∷ of_first 61000 1 0 5 Purge Done
    ∷ of_queues 61000 2 0 6 (Remove (codes "q")) (Removed 1)
    ∷ of_first 61000 3 0 7 Close Done
    ∷ []

abbrev pub again_run : List Tag
again_run = until_deleted
    ++ of_queues 121000 0 0 8 (Create (codes "q") nothing_given) (Made (settings_at again_queue))
    ∷ of_second 121000 1 0 9 (Configure plain 1) Done
    ∷ of_second 121000 2 0 10 (Send hello_text None) (sent_to 2 0)
    ∷ []

abbrev pub after_purge : System
after_purge = system (once_made 64 1000) nothing_moves (with_rows plain 0 []) Unopened

abbrev pub after_deletion : ℕ → System
after_deletion most = system (once_deleted most) nothing_moves Closed Unopened

abbrev pub after_again : System
after_again = system (record (once_deleted 64) { queues = again_queue ∷ []; made = 2 }) nothing_moves Closed (with_rows plain 1 (record hello { enqueued = 121000; visible_from = 121000 } ∷ []))
