use Rattle.sq_merge.proofs.WorldStepLaws.{answered_reply, answered_home, still_known}
use Rattle.sq_merge.proofs.world_steps.WorldStepsLockSteps.home_step.Goals as goal

pub returns-clause-reply : goal.returns-clause-reply
returns-clause-reply c = answered_reply _ _ _ _ _ _ c.args.act c.home_step.result c.home_step.ensures.stepped

pub returns-clause-refusal : goal.returns-clause-refusal
returns-clause-refusal c = answered_home c.args.self.now.world.now c.args.self.now.actor c.args.self.now.clock c.args.at.now.name c.args.at.now.id c.args.act c.home_step.result c.home_step.ensures.refusal

pub returns-clause-known : goal.returns-clause-known
returns-clause-known c = still_known c.args.self.now.world.now _ c.args.self.now.actor c.args.self.now.clock c.args.at.now.name c.args.at.now.id.queue c.args.at.now.id c.args.act c.home_step.result c.home_step.ensures.stepped c.home_step.ensures.err c.requires.known
