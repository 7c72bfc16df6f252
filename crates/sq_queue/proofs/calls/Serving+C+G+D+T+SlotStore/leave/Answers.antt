use Rattle.std.proofs.Common.{rules, ◌≡◌}
use Rattle.sq_actions.proofs.TurnRecordLaws.{leave_gains}
use Rattle.sq_queue.proofs.calls.Serving+C+G+D+T+SlotStore.leave.Goals as goal

pub returns-clause-at_most_one : goal.returns-clause-at_most_one
returns-clause-at_most_one g c =
    let left : c.session-1.given.0 ≡ c.leave_in.new.session_steps.session.now = search rules in
    let gains = leave_gains _ c.args.queue.now _ _ c.leave_in.result c.leave_in.ensures.leaves_records in
    rw left (rw c.new-session_steps.ensures.session at gains)
