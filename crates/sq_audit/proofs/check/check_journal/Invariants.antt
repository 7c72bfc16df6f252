use Rattle.std.proofs.Common.{◌<◌, ℕ}
use Rattle.sq_audit.specs.inside.Faults.{RecordFits}
use Rattle.sq_audit.proofs.check.check_journal.Given as goal

abbrev pub invariant-loop-index : goal.invariant-loop-index
invariant-loop-index l = (i : ℕ) → i < l.index → RecordFits l.evidence.directory l.evidence.ledger l.evidence.homes l.evidence.journals l.at i
