-- What a service leaves as evidence: the records of its actors, and the histories of its parts.
use Rattle.sq_model.specs.Matches.{IsMatched, IsPaired}
use Rattle.sq_audit.specs.Faults.{FaultHolds}
use Rattle.sq_audit.specs.HomeHistories.{histories_of}
use Rattle.sq_audit.specs.declared.check.AuditFault.{AuditFault}
use Rattle.sq_audit.specs.declared.parts.Parts.{Parts}

-- each record is of an event, and each event has its record
abbrev pub AreMatched : Parts → Type 0
AreMatched parts = IsMatched parts.directory.events parts.ledger.history.events (histories_of parts.homes.homes) parts.records

-- what homes and the ledger share stands in the histories of both
abbrev pub ArePaired : Parts → Type 0
ArePaired parts = IsPaired parts.ledger.history.events (histories_of parts.homes.homes)

-- it is wrong with them what a fault says
abbrev pub HasFault : Parts → AuditFault → Type 0
HasFault parts fault = FaultHolds parts.directory.events parts.ledger.history.events (histories_of parts.homes.homes) parts.records fault
