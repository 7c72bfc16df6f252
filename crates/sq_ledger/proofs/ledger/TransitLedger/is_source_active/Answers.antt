use Rattle.std.proofs.Common.{◌∙◌, sym, ap}
use Rattle.sq_model.specs.Ledgers.{is_still_active}
use Rattle.sq_ledger.proofs.TaskCallLaws.{source_is_active}
use Rattle.sq_ledger.proofs.ledger.TransitLedger.is_source_active.Goals as goal

pub returns-in-Some : goal.returns-in-Some
returns-in-Some c = rw (← c.self.view_is) (c.is_active.ensures ∙ ap is_still_active c.in-Some.ensures ∙ sym (source_is_active _ c.self.invariant c.args.source))

pub returns-in-None : goal.returns-in-None
returns-in-None c = rw (← c.self.view_is) (ap is_still_active c.in-None.ensures ∙ sym (source_is_active _ c.self.invariant c.args.source))
