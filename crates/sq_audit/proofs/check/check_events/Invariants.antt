use Rattle.std.proofs.Common.{◌<◌, ℕ}
use Rattle.sq_audit.specs.inside.Faults.{EventFits}
use Rattle.sq_audit.proofs.check.check_events.Given as goal

abbrev pub invariant-loop-index : goal.invariant-loop-index
invariant-loop-index g l = (k : ℕ) → k < l.index → EventFits l.evidence.per_queue l.evidence.journals l.part l.events.items k
