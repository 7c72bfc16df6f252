use Rattle.std.proofs.Common.{◌<◌, ℕ}
use Rattle.sq_steps.specs.Journals.{RecordsRiseAt}
use Rattle.sq_audit.specs.inside.Faults.{RecordFits}
use Rattle.sq_audit.proofs.check.check_journals.Given as goal

abbrev pub invariant-loop-at : goal.invariant-loop-at
invariant-loop-at l = (b : ℕ) → b < l.at → ((i : ℕ) → RecordFits l.evidence.directory l.evidence.ledger l.evidence.homes l.evidence.journals b i) × RecordsRiseAt l.evidence.journals b
