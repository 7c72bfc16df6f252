use Rattle.std.proofs.Common.{rules, ◌≡◌}
use Rattle.sq_actions.proofs.TurnRecordLaws.{serve_gains}
use Rattle.sq_queue.proofs.calls.Serving+C+G+D+T+SlotStore.serve.Goals as goal

pub returns-clause-at_most_one : goal.returns-clause-at_most_one
returns-clause-at_most_one g c =
    let left : c.session-1.given.0 ≡ c.serve_in.new.session_steps.session.now = search rules in
    let gains = serve_gains _ c.args.walk.now c.serve_in.new.walk _ _ c.serve_in.result c.serve_in.ensures.leaves_records in
    rw left (rw c.new-session_steps.ensures.session at gains)
