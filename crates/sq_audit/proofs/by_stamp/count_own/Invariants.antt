use Rattle.std.proofs.Common.{◌≡◌, ◌≤◌, length, take}
use Rattle.sq_audit.specs.SystemNow.{own_events}
use Rattle.sq_audit.proofs.by_stamp.count_own.Given as goal

abbrev pub invariant-loop-at : goal.invariant-loop-at
invariant-loop-at l = record {
  counted : l.count ≡ length (own_events (take l.at l.events.items));
  few : l.count ≤ l.at;
}
