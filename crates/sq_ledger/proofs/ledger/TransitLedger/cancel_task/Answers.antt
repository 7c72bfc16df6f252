use Rattle.std.proofs.Common.{rules, ap, refl}
use Rattle.sq_model.specs.declared.ledger.LedgerCall.TheVariants as asks
use Rattle.sq_ledger.specs.LedgerHistory.{LedgerValue}
use Rattle.sq_ledger.proofs.LedgerLaws.{own_kept}
use Rattle.sq_ledger.proofs.TaskCallLaws.{cancelled, cancels_as, recorded_as, refused_as}
use Rattle.sq_ledger.proofs.ledger.TransitLedger.cancel_task.Goals as goal

pub returns-clause-recorded : goal.returns-clause-recorded
returns-clause-recorded c =
    let t = c.self.inside in
    let step = cancelled t.items.items t.next t.tasks.items t.limit c.in_ok-stamp.stamp.moment c.args.number c.in_ok-moved.moved c.in_ok-moved.ensures.moved in
    rw (← c.self.view_is) (recorded_as t.items.items t.next t.tasks c.change.new.self t.limit t.log c.begin.new.self c.add_own.new.log c.args.by.now c.args.now c.in_ok-stamp.stamp (asks.CancelTask c.args.number) _ c.add_own.result c.in_ok-stamp.ensures.stamped (rw c.change.ensures.items step) c.begin.ensures.events c.begin.ensures.spare c.add_own.ensures.last c.add_own.ensures.events c.add_own.ensures.spare c.change.ensures.spare c.add_own.ensures.for_record)

pub invariant_of-self-3 : goal.invariant_of-self-3
invariant_of-self-3 c = own_kept _ _ c.args.by.now c.args.now (asks.CancelTask c.args.number) c.add_own.result c.self.invariant refl refl c.add_own.ensures.rising (rw (← c.self.view_is) at (returns-clause-recorded c))

pub returns-in_err-moved-clause-refusal : goal.returns-in_err-moved-clause-refusal
returns-in_err-moved-clause-refusal c = search (rules, refused_as _ c.args.self.now c.args.by.now c.args.now (asks.CancelTask c.args.number) c.in_ok-stamp.stamp c.in_err-moved.field-0.0 (ap (λ (v : LedgerValue). v.history) c.self.view_is) c.in_ok-stamp.ensures.stamped (cancels_as _ c.in_ok-stamp.stamp.moment c.args.number c.in_err-moved.field-0.0 c.in_err-moved.ensures.refused))
