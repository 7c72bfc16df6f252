use Rattle.std.proofs.Common.{rules, ◌≡◌}
use Rattle.sq_actions.proofs.TurnRecordLaws.{bring_gains}
use Rattle.sq_queue.proofs.calls.Serving+C+G+D+T+SlotStore.bring.Goals as goal

pub returns-clause-at_most_one : goal.returns-clause-at_most_one
returns-clause-at_most_one g c =
    let left : c.session-1.given.0 ≡ c.bring_in.new.session_steps.session.now = search rules in
    let gains = bring_gains _ c.args.tried.now c.bring_in.new.tried _ _ c.bring_in.result c.bring_in.ensures.leaves_records in
    rw left (rw c.new-session_steps.ensures.session at gains)
