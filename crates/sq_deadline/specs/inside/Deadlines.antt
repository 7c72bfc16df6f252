-- Deadlines in order. Own.
use Rattle.std.specs.Prelude.{Bool, false, nat_le, Option, Some, None}
use Rattle.sq_deadline.specs.declared.deadline.Deadline.{Deadline}
use Rattle.sq_deadline.specs.Deadlines.{key_of, is_same}

abbrev pub is_not_below : Deadline → Deadline → Bool
is_not_below d e = nat_le (key_of d) (key_of e)

abbrev pub is_this : Deadline → Option Deadline → Bool
is_this d None = false
is_this d (Some e) = is_same d e
