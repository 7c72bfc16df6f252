use Rattle.sq_queue.proofs.LockLaws.{answered_directory, refused_directory}
use Rattle.sq_queue.proofs.session_steps.SessionStepsLockSteps.directory_step.Goals as goal

pub returns-clause-reply : goal.returns-clause-reply
returns-clause-reply g c = answered_directory _ _ _ _ _ c.args.call.now c.step.result c.step.ensures.step

pub returns-clause-refusal : goal.returns-clause-refusal
returns-clause-refusal g c = refused_directory c.deref_mut.result.now.directory c.args.self.now.session.now.journal c.now-now.result c.args.call.now c.step.result c.step.ensures.refusal
