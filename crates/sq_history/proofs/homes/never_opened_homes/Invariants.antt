use Rattle.std.proofs.Common.{◌≡◌, length}
use Rattle.sq_history.specs.HomeIds.{never_opened_homes}
use Rattle.sq_history.proofs.homes.never_opened_homes.Given as goal

abbrev pub invariant-loop-index : goal.invariant-loop-index
invariant-loop-index l = (l.homes.items ≡ never_opened_homes l.per_queue l.limits l.index) × (length l.homes.items ≡ l.index)
