use Rattle.std.proofs.Common.{inl}
use Rattle.sq_ledger.proofs.LedgerLaws.{worn}
use Rattle.sq_ledger.proofs.ledger.TransitLedger.next_number.Goals as goal

pub returns-in_default-clause-refused : goal.returns-in_default-clause-refused
returns-in_default-clause-refused c = rw (← c.self.view_is) (inl (worn _ c.self.invariant c.in_default.ensures.none))
