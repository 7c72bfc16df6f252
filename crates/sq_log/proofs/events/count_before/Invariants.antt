use Rattle.std.proofs.Common.{◌-◌, ◌≤◌, length}
use Rattle.sq_log.specs.inside.Events.{IsParted}
use Rattle.sq_log.proofs.events.count_before.Given as goal

abbrev pub invariant-loop-low : goal.invariant-loop-low
invariant-loop-low g l = record {
  order : l.low ≤ l.high;
  within : l.high ≤ length l.events.items;
  parted : IsParted l.stamp l.events.items l.low l.high;
}

abbrev pub decreases-loop-low : goal.decreases-loop-low
decreases-loop-low g l = l.high - l.low
