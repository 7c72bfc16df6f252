use Rattle.std.proofs.Common.{rules, arith, ◌<◌, length}
use Rattle.sq_merge.proofs.ScheduleLaws.{more_done, more_refused}
use Rattle.sq_merge.proofs.world.World.run.Goals as goal
use Rattle.sq_merge.proofs.world.World.run.Goals.{in-Ok, in-Err}

pub loop-step-preserved : goal.loop-step-preserved
loop-step-preserved c =
    let within : c.loop-step.step-index < length c.args.steps.now = search rules in
    elim c.match-step.branch [
      | in-Ok w ↦ record {
        schedule = rw w.done-is (more_done c.args.self.now c.args.steps.now c.loop-step.step-index c.loop-step.done c.loop-step.self c.step.new.self c.step-item.result _ within c.step-item.is c.loop-step.invariant.schedule w.in-Ok.ensures.answered);
        bound = omega (arith, w.done-is, c.loop-step.invariant.bound);
      }
      | in-Err w ↦ record {
        schedule = rw (w.done-is, w.in-Err.ensures.err) (more_refused c.args.self.now c.args.steps.now c.loop-step.step-index c.loop-step.done c.loop-step.self c.step-item.result _ within c.step-item.is c.loop-step.invariant.schedule w.in-Err.ensures.refusal);
        bound = omega (arith, w.done-is, c.loop-step.invariant.bound);
      }
    ]
