use Rattle.std.proofs.Common.{rules, ◌≡◌, ◌∙◌, ◌+◌, ◌++◌, ◌∷◌, [], List, Ok, Some, length, refl, ap, subst}
use Rattle.sq_base.specs.Stamps.{after}
use Rattle.sq_base.specs.StampValue.{StampValue}
use Rattle.sq_model.specs.declared.ledger.LedgerCall.TheVariants as asks
use Rattle.sq_model.specs.declared.ledger.LedgerReply.TheVariants as answers
use Rattle.sq_model.specs.Tasks.{new_task}
use Rattle.sq_model.specs.declared.task.Task.{Task}
use Rattle.sq_ledger.specs.LedgerHistory.{LedgerHistory, LedgerValue, history_of, ledger_with}
use Rattle.sq_ledger.specs.inside.LedgerHistories.{MayStart, start_refusal}
use Rattle.sq_ledger.proofs.LedgerLaws.{own_kept}
use Rattle.sq_ledger.proofs.TaskCallLaws.{recorded_as, refused_as, started, starts_as}
use Rattle.sq_ledger.proofs.ledger.TransitLedger.start_task.Goals as goal

pub returns-in_err-number-clause-refusal : goal.returns-in_err-number-clause-refusal
returns-in_err-number-clause-refusal c =
    let t = c.self.inside in
    let asked = c.args.asked.now in
    let e = c.in_err-number.field-0.0 in
    let stamped : after t.log.last c.args.by.now.seen c.args.now ≡ Ok c.in_ok-stamp.stamp = search rules in
    let refused = subst (λ (tasks : List Task). start_refusal asked.source.number (ledger_with t.items.items t.next tasks t.limit) ≡ Some e) c.in_ok-reserve-2.ensures.items c.in_err-number.ensures.refused in
    let history : LedgerHistory = history_of t.items.items t.next t.tasks t.limit t.log in
    search (rules, refused_as history c.args.self.now c.args.by.now c.args.now (asks.StartTask asked.source asked.destination asked.rate) c.in_ok-stamp.stamp e (ap (λ (v : LedgerValue). v.history) c.self.view_is) stamped (starts_as history.ledger c.in_ok-stamp.stamp.moment asked.source asked.destination asked.rate e refused))

pub returns-clause-recorded : goal.returns-clause-recorded
returns-clause-recorded c =
    let t = c.self.inside in
    let asked = c.args.asked.now in
    let call = asks.StartTask asked.source asked.destination asked.rate in
    let stamped : after t.log.last c.args.by.now.seen c.args.now ≡ Ok c.in_ok-stamp.stamp = search rules in
    let m : c.stamp.inside.moment ≡ c.in_ok-stamp.stamp.moment = ap (λ (s : StampValue). s.moment) c.stamp.view_is in
    let tasks : c.start.new.self.items ≡ t.tasks.items ++ new_task c.in_ok-number.number asked.source asked.destination asked.rate c.in_ok-stamp.stamp.moment ∷ [] = rw (c.in_ok-reserve-2.ensures.items, m) at c.start.ensures.items in
    let number = c.in_ok-number.ensures.number ∙ ap (λ (l : List Task). length l + 1) c.in_ok-reserve-2.ensures.items in
    let may = subst (λ (l : List Task). MayStart asked.source.number (ledger_with t.items.items t.next l t.limit)) c.in_ok-reserve-2.ensures.items c.in_ok-number.ensures.may in
    let step = started t.items.items t.next t.tasks.items t.limit c.in_ok-stamp.stamp.moment c.in_ok-number.number asked.source asked.destination asked.rate number may in
    rw (← c.self.view_is) (recorded_as t.items.items t.next t.tasks c.start.new.self t.limit t.log c.reserve.new.self c.add_own.new.log c.args.by.now c.args.now c.in_ok-stamp.stamp call (answers.Started c.in_ok-number.number) c.add_own.result stamped (rw tasks step) c.reserve.ensures.events c.reserve.ensures.spare c.add_own.ensures.last (rw c.start_call.ensures at c.add_own.ensures.events) c.add_own.ensures.spare (rw c.in_ok-reserve-2.ensures.spare at c.start.ensures.spare) (rw c.start_call-2.ensures at c.add_own.ensures.for_record))

pub invariant_of-self-3 : goal.invariant_of-self-3
invariant_of-self-3 c =
    let asked = c.args.asked.now in
    own_kept _ _ c.args.by.now c.args.now (asks.StartTask asked.source asked.destination asked.rate) c.add_own.result c.self.invariant refl refl c.add_own.ensures.rising (rw (← c.self.view_is) at (returns-clause-recorded c))
