use Rattle.std.proofs.Common.{rules, ap, subst, sym, ◌≡◌, ℕ, Result, Ok}
use Rattle.std.specs.Prelude.{IfOk}
use Rattle.sq_base.specs.StampValue.{StampValue}
use Rattle.sq_base.specs.declared.refusal.Refusal.{Refusal}
use Rattle.sq_history.specs.declared.shared.StampedStep.{StampedStep}
use Rattle.sq_model.specs.declared.calls.HomeCall.TheVariants.{LeaveTask}
use Rattle.sq_model.specs.declared.task.Task.{Task}
use Rattle.sq_history.specs.Halves.{DoesHalf, IsTaker, IsTaskAnswer}
use Rattle.sq_steps.proofs.TaskLeaveLaws.{IsSaid, half_told, task_refused}
use Rattle.sq_steps.proofs.shared.leave_task.Goals as goal
use Rattle.sq_steps.proofs.shared.leave_task.Goals.{After-task_leave-asked}

-- at the stamp that is given
said : (c : After-task_leave-asked) (stamp : StampValue) → c.args.step.stamp ≡ Ok stamp
    → IsSaid c.args.ledger.now.history.ledger c.args.ledger.now.item_reserved c.task_leave-asked.new.self.item_reserved stamp.moment c.args.home.now.site.home c.args.number c.task_leave-asked.result
said c stamp given =
    let e = c.task_leave-asked.ensures in
    let m : c.moment_of.result ≡ stamp.moment = subst (λ (r : Result StampValue Refusal). IfOk r (λ s. c.moment_of.result ≡ s.moment)) given c.moment_of.ensures in
    record { of_number = e.number; task = rw c.id.ensures at e.task; no_task = rw c.id.ensures at e.no_task; allowed = rw m at e.allowed; item = e.item; takes_one_more = e.takes_one_more; passes = e.passes; ready = e.ready; no_place = e.no_place }

pub returns-in_err-half : goal.returns-in_err-half
returns-in_err-half c =
    let is = said (goal.at.returns-in_err-half c).After-task_leave-asked in
    let refused = task_refused c.args.home.now c.args.ledger.now.history.ledger c.args.step.stamp c.args.ledger.now.item_reserved c.task_leave-asked.new.self.item_reserved c.args.number c.task_leave-asked.result c.in_err-half.field-0.0 is c.in_err-half.ensures.refusal in
    search rules

pub tell_left-requires-clause-told : goal.tell_left-requires-clause-told
tell_left-requires-clause-told c =
    let asked = c.task_leave-asked.result in
    let half = c.in-Some.half in
    let does : DoesHalf c.args.home.now c.leave_task.new.self c.args.step.by c.args.step.stamp c.args.step.name (LeaveTask asked.number) half = search rules in
    let is = said (goal.at.tell_left-requires-clause-told c).After-task_leave-asked half.its_record.stamp does.stamped in
    let a : (task : Task) × IsTaker asked task × IsTaskAnswer asked task half.its_record.reply c.in-Some.left = search rules in
    rw (c.event_of-event.ensures.stamp, c.event_of-event.ensures.home, c.event_of-event.ensures.kept, c.task_leave-asked.ensures.history)
    (half_told c.args.home.now c.leave_task.new.self c.args.ledger.now.history.ledger c.args.ledger.now.item_reserved c.task_leave-asked.new.self.item_reserved c.args.step.by c.args.step.stamp c.args.step.name c.args.number asked a.0 half c.in-Some.left is does a.1 a.2)
