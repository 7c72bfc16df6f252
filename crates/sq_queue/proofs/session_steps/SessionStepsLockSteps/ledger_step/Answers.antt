use Rattle.sq_queue.proofs.LockLaws.{answered_ledger, refused_ledger}
use Rattle.sq_queue.proofs.session_steps.SessionStepsLockSteps.ledger_step.Goals as goal

pub returns-clause-reply : goal.returns-clause-reply
returns-clause-reply g c = answered_ledger _ _ _ _ _ c.args.act.now c.step.result c.step.ensures.step

pub returns-clause-refusal : goal.returns-clause-refusal
returns-clause-refusal g c = refused_ledger c.deref_mut.result.now.ledger.history c.args.self.now.session.now.journal c.now-now.result c.args.act.now c.step.result c.step.ensures.refusal
