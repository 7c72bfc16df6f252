use Rattle.sq_merge.specs.WorldSteps.{world_counts}
use Rattle.sq_actions.specs.Fits.{CallFits}
use Rattle.sq_merge.proofs.BorrowedLaws.{at_world}
use Rattle.sq_merge.proofs.world_steps.call_at.Goals as goal

pub returns : goal.returns
returns c =
    let at = at_world (CallFits (world_counts c.args.world_steps.now.world.now) c.args.call.now) c.args.world_steps.now c.call.new.steps c.call.result c.call.ensures.answered c.call.ensures.leaves_records in
    record { same_reference = at.0; answered = at.2; leaves_records = at.3 }
