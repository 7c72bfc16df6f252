-- The system that the parts are, and their events before they are sorted.
use Rattle.std.specs.Prelude.{ℕ, ◌+◌, List, [], ◌∷◌, ◌++◌, filter, map}
use Rattle.sq_model.specs.Ledgers.{LedgerEvent, is_own}
use Rattle.sq_model.specs.Replays.{HomeEvent}
use Rattle.sq_model.specs.Systems.{DirectoryEvent, Opening, System, Tag, OfDirectory, OfLedger, OfHome}
use Rattle.sq_history.specs.HistoryValue.{HistoryValue, all_events}
use Rattle.sq_ledger.specs.LedgerHistory.{LedgerHistory}
use Rattle.sq_directory.specs.DirectoryHistory.{DirectoryHistory}

-- the values of all parts, as they stand
abbrev pub system_now : DirectoryHistory → LedgerHistory → List HistoryValue → System
system_now directory ledger homes = record { directory = directory.directory; ledger = ledger.ledger; homes = map (λ h. record { site = h.site; home = h.home }) homes }

-- what that system was opened with
abbrev pub opening_now : DirectoryHistory → LedgerHistory → List HistoryValue → Opening
opening_now directory ledger homes = record { queues = directory.directory.most; transit = ledger.ledger.limit; sites = map (λ h. h.site) homes }

abbrev pub events_of : List HistoryValue → List (List HomeEvent)
events_of homes = map all_events homes

-- of the events of the ledger, those that it shares with no home
abbrev pub own_events : List LedgerEvent → List LedgerEvent
own_events ledger = filter (λ e. is_own e.call) ledger

-- the events of all homes from this index on, one home after another
abbrev pub home_tags : ℕ → List (List HomeEvent) → List Tag
home_tags index [] = []
home_tags index (es ∷ rest) = map (λ e. OfHome index e) es ++ home_tags (index + 1) rest

-- the events of the directory, then those of the ledger alone, and then those of one home after another
abbrev pub by_part : List DirectoryEvent → List LedgerEvent → List (List HomeEvent) → List Tag
by_part directory ledger homes = map OfDirectory directory ++ map OfLedger (own_events ledger) ++ home_tags 0 homes
