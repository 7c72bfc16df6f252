-- Rows by what is due when: from when each is visible, and since when it is in the queue. Own.
use Rattle.std.specs.Prelude.{ℕ, Bool, true, false, List, filter, Option, Some, None}
use Rattle.sq_base.specs.declared.settings.Redrive.{Redrive}
use Rattle.sq_deadline.specs.declared.deadline.Deadline.{Deadline}
use Rattle.sq_deadline.specs.Deadlines.{with_deadline, is_other}

-- how often a row is received until a look gives it no more: as the policy says, or as often as can be counted
abbrev pub most_under : Option Redrive → ℕ
most_under None = 4294967295
most_under (Some redrive) = redrive.max_receives

-- put in, where this holds
abbrev pub with_if : Bool → Deadline → List Deadline → List Deadline
with_if true d ds = with_deadline d ds
with_if false d ds = ds

-- taken out, where this holds
abbrev pub without_if : Bool → Deadline → List Deadline → List Deadline
without_if true d ds = filter (is_other d) ds
without_if false d ds = ds
