use Rattle.std.proofs.Common.{◌<◌, ℕ}
use Rattle.sq_audit.specs.inside.Faults.{HomeHas, LedgerFits}
use Rattle.sq_audit.proofs.check.check_ledger.Given as goal

abbrev pub invariant-loop-index : goal.invariant-loop-index
invariant-loop-index l = record {
  records : (k : ℕ) → k < l.index → LedgerFits l.evidence.ledger l.evidence.journals k;
  partners : (k : ℕ) → k < l.index → HomeHas l.evidence.ledger l.evidence.homes k;
}
