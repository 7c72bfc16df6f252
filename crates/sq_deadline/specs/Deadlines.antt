-- Deadlines in order. Own.
use Rattle.std.specs.Prelude.{ℕ, ◌+◌, ◌*◌, ◌<◌, ◌≤◌, Bool, not, ◌==◌, nat_le, nat_lt, List, [], ◌∷◌, if◌then◌else◌, Option, Some, None}
use Rattle.sq_deadline.specs.declared.deadline.Deadline.{Deadline}

-- what a deadline is ordered by: its moment, and at one moment its slot, which is below 2^32
abbrev pub key_of : Deadline → ℕ
key_of d = d.moment * 4294967296 + d.slot

-- in rising order, each once, none below this key
abbrev pub DeadlinesRise : ℕ → List Deadline → Type 0
DeadlinesRise low [] = Unit {0}
DeadlinesRise low (d ∷ ds) = (low ≤ key_of d) × (d.slot < 4294967296) × DeadlinesRise (key_of d + 1) ds

-- the deadlines, and for how many more there is memory
pub record IndexValue : Type 0 where
  pub deadlines : List Deadline
  pub reserved : ℕ

abbrev pub is_above : Deadline → Deadline → Bool
is_above d e = nat_lt (key_of d) (key_of e)

abbrev pub is_same : Deadline → Deadline → Bool
is_same d e = key_of e == key_of d

abbrev pub is_other : Deadline → Deadline → Bool
is_other d e = not (is_same d e)

-- after those below it and before those above it, once
abbrev pub with_deadline : Deadline → List Deadline → List Deadline
with_deadline d [] = d ∷ []
with_deadline d (e ∷ ds) = if nat_lt (key_of e) (key_of d) then e ∷ with_deadline d ds else if is_same d e then e ∷ ds else d ∷ e ∷ ds

-- due at a moment or before it
abbrev pub is_due : ℕ → Deadline → Bool
is_due m d = nat_le d.moment m

-- a deadline, where it is due
abbrev pub if_due : ℕ → Option Deadline → Option Deadline
if_due m None = None
if_due m (Some d) = if is_due m d then Some d else None
