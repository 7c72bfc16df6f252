use Rattle.std.proofs.Common.{◌<◌, ℕ}
use Rattle.sq_audit.specs.inside.Faults.{LedgerHas}
use Rattle.sq_audit.proofs.check.check_shared.Given as goal

abbrev pub invariant-loop-index : goal.invariant-loop-index
invariant-loop-index l = (j : ℕ) → j < l.index → (k : ℕ) → LedgerHas l.evidence.ledger l.evidence.homes j k
