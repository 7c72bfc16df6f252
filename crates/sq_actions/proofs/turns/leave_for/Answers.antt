use Rattle.sq_actions.specs.Asks.{moved_of}
use Rattle.sq_actions.proofs.TurnLaws.{left_for}
use Rattle.sq_actions.proofs.turns.leave_for.Goals as goal

pub returns : goal.returns
returns g c =
    left_for _ _ c.args.task.now c.args.walk.now _ _ _ (moved_of c.shared_step-answered.result) _ c.shared_step-answered.ensures.did (rw c.homes-homes.ensures at c.walk_after.ensures) c.word_for.ensures
