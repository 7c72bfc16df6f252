use Rattle.std.proofs.Common.{◌<◌, ℕ}
use Rattle.sq_audit.specs.inside.Faults.{HomeFits}
use Rattle.sq_audit.proofs.check.check_homes.Given as goal

abbrev pub invariant-loop-index : goal.invariant-loop-index
invariant-loop-index l = (j : ℕ) → j < l.index → (k : ℕ) → HomeFits l.evidence.homes l.evidence.journals j k
