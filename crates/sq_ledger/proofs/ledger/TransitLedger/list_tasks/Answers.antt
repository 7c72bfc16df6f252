use Rattle.std.proofs.Common.{rules, ◌≡◌, ◌∙◌, None, Ok, refl, sym}
use Rattle.sq_base.specs.Stamps.{after}
use Rattle.std.specs.Prelude.{◌≢◌}
use Rattle.sq_base.specs.declared.refusal.Refusal.{Refusal}
use Rattle.sq_base.specs.declared.refusal.Refusal.TheVariants.{NoMemory}
use Rattle.sq_model.specs.declared.ledger.LedgerCall.TheVariants as asks
use Rattle.sq_model.specs.declared.ledger.LedgerReply.TheVariants as answers
use Rattle.sq_ledger.proofs.LedgerLaws.{own_kept}
use Rattle.sq_ledger.specs.LedgerHistory.{history_of}
use Rattle.sq_ledger.specs.LedgerHistories.{IsLedgerRefused}
use Rattle.sq_ledger.specs.TaskIndexes.{newest}
use Rattle.sq_ledger.proofs.TaskCallLaws.{list_out, listed, recorded_as}
use Rattle.sq_ledger.proofs.ledger.TransitLedger.list_tasks.Goals as goal
use Rattle.sq_ledger.proofs.ledger.TransitLedger.list_tasks.Goals.{After-list}

pub returns-clause-recorded : goal.returns-clause-recorded
returns-clause-recorded c =
    let t = c.self.inside in
    let step = listed t.items.items t.next t.tasks.items t.limit c.in_ok-stamp.stamp.moment c.args.source c.args.most c.in_ok-in_event.in_event c.in_ok-in_event.ensures.listed in
    let same = c.in_ok-in_record.ensures.listed ∙ sym c.in_ok-in_event.ensures.listed in
    let stamped : after t.log.last c.args.by.now.seen c.args.now ≡ Ok c.in_ok-stamp.stamp = search rules in
    rw (← c.self.view_is) (recorded_as t.items.items t.next t.tasks t.tasks t.limit t.log c.reserve.new.self c.add_own.new.log c.args.by.now c.args.now c.in_ok-stamp.stamp (asks.ListTasks c.args.source c.args.most) (answers.Listed c.in_ok-in_event.in_event) c.add_own.result stamped step c.reserve.ensures.events c.reserve.ensures.spare c.add_own.ensures.last c.add_own.ensures.events c.add_own.ensures.spare refl (rw same at c.add_own.ensures.for_record))

pub invariant_of-self-2 : goal.invariant_of-self-2
invariant_of-self-2 c = own_kept _ _ c.args.by.now c.args.now (asks.ListTasks c.args.source c.args.most) c.add_own.result c.self.invariant refl refl c.add_own.ensures.rising (rw (← c.self.view_is) at (returns-clause-recorded c))

-- where a list cannot be copied, memory is out
out : (c : After-list) → (e : Refusal) → (e ≡ NoMemory) × (newest c.args.source c.self.inside.tasks.items ≢ None) → IsLedgerRefused c.args.self.now.history c.args.by.now c.args.now (asks.ListTasks c.args.source c.args.most) e
out c e is =
    let t = c.self.inside in
    rw (← c.self.view_is) (list_out (history_of t.items.items t.next t.tasks t.limit t.log) c.args.by.now c.args.now c.args.source c.args.most e is.0 is.1)

pub returns-in_err-listed-clause-refusal : goal.returns-in_err-listed-clause-refusal
returns-in_err-listed-clause-refusal c = search (rules, out (goal.at.returns-in_err-listed-clause-refusal c).After-list c.in_err-listed.field-0.0 c.in_err-listed.ensures.refused)

pub returns-in_err-in_event-clause-refusal : goal.returns-in_err-in_event-clause-refusal
returns-in_err-in_event-clause-refusal c = search (rules, out (goal.at.returns-in_err-in_event-clause-refusal c).After-list c.in_err-in_event.field-0.0 c.in_err-in_event.ensures.refused)

pub returns-in_err-in_record-clause-refusal : goal.returns-in_err-in_record-clause-refusal
returns-in_err-in_record-clause-refusal c = search (rules, out (goal.at.returns-in_err-in_record-clause-refusal c).After-list c.in_err-in_record.field-0.0 c.in_err-in_record.ensures.refused)
