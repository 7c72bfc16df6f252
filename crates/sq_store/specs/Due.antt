-- Rows by what is due when: from when each is visible, and since when it is in the queue. Own.
use Rattle.std.specs.Prelude.{ℕ, ◌+◌, Bool, ◌==◌, ◌&&◌, nat_lt, nat_le, List, length, map, filter}
use Rattle.std.specs.List.Sorted.{IsPermutation}
use Rattle.sq_base.specs.declared.row.Row.{Row}
use Rattle.sq_deadline.specs.declared.deadline.Deadline.{Deadline}
use Rattle.sq_deadline.specs.Deadlines.{IndexValue}

-- when a row is visible
abbrev pub visible_at : Row → Deadline
visible_at row = record { moment = row.visible_from; slot = row.slot }

-- since when it is in the queue
abbrev pub enqueued_at : Row → Deadline
enqueued_at row = record { moment = row.enqueued; slot = row.slot }

-- never received
abbrev pub is_unreceived : ℕ → Bool
is_unreceived receives = receives == 0

-- received, and less often than makes it exhausted
abbrev pub is_received_below : ℕ → ℕ → Bool
is_received_below most receives = nat_lt 0 receives && nat_lt receives most

-- received as often as makes it exhausted
abbrev pub is_exhausted_by : ℕ → ℕ → Bool
is_exhausted_by most receives = nat_lt 0 receives && nat_le most receives

-- the moments of the rows of a class, each once
abbrev pub Holds : (Row → Bool) → (Row → Deadline) → List Row → List Deadline → Type 0
Holds class key rows ds = IsPermutation (map key (filter class rows)) ds

-- for how many deadlines there is memory in all
abbrev pub space : IndexValue → ℕ
space index = length index.deadlines + index.reserved
