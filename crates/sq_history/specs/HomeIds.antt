-- The homes of all queues that may ever be made, by their indices: those of the first queue first, each in the order of its number.
use Rattle.std.specs.Prelude.{◌≡◌, ◌+◌, ◌/◌, ◌%◌, ◌-◌, ◌*◌, ◌&&◌, ℕ, zero, suc, List, [], ◌∷◌, ◌++◌, slice_get, nat_lt, if◌then◌else◌, Option, Some, None}
use Rattle.sq_base.specs.Stamps.{start}
use Rattle.sq_base.specs.declared.ids.HomeId.{HomeId}
use Rattle.sq_model.specs.Homes.{Unopened}
use Rattle.sq_model.specs.declared.place.Limits.{Limits}
use Rattle.sq_history.specs.HistoryValue.{HistoryValue}

-- the home at an index in the list of all homes
abbrev pub home_id : ℕ → ℕ → HomeId
home_id per_queue at = record { queue = at / per_queue + 1; home = at % per_queue }

-- the n-th home has its queue and its number there by its index
abbrev pub IsNumbered : ℕ → List HistoryValue → Type 0
IsNumbered per_queue homes = (at : ℕ) (h : HistoryValue) → slice_get homes at ≡ Some h → h.site.home ≡ home_id per_queue at

-- where a home stands among so many of all queues
abbrev pub home_index : ℕ → ℕ → HomeId → Option ℕ
home_index per_queue count id =
    if nat_lt id.home per_queue && nat_lt ((id.queue - 1) * per_queue + id.home) count then Some ((id.queue - 1) * per_queue + id.home) else None

-- a home that was never opened
abbrev pub never_opened : ℕ → Limits → ℕ → HistoryValue
never_opened per_queue limits at = record { site = record { home = home_id per_queue at; limits = limits }; home = Unopened; last = start; events = []; spare = 0; spare_rows = 0 }

-- so many homes that were never opened
abbrev pub never_opened_homes : ℕ → Limits → ℕ → List HistoryValue
never_opened_homes per_queue limits zero = []
never_opened_homes per_queue limits (suc n) = never_opened_homes per_queue limits n ++ never_opened per_queue limits n ∷ []
