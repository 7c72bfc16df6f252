use Rattle.std.proofs.Common.{rules}
use Rattle.sq_model.proofs.EqualLaws.{equal_ledger_call, equal_ledger_reply}
use Rattle.sq_ledger.proofs.events.has_ledger_event.Goals as goal

pub returns-then-is_own : goal.returns-then-is_own
returns-then-is_own c = let told = c.is_told.ensures equal_ledger_call equal_ledger_reply in search rules
