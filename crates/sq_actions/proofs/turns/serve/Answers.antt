use Rattle.std.proofs.Common.{rules, ◌≡◌, refl, inl, Err}
use Rattle.sq_actions.specs.Turns.{task_read}
use Rattle.sq_actions.proofs.PathLaws.{answered_one, answered_records}
use Rattle.sq_actions.proofs.TurnLaws.{served}
use Rattle.sq_actions.proofs.turns.serve.Goals as goal

pub returns-in_err-task-clause-answered : goal.returns-in_err-task-clause-answered
returns-in_err-task-clause-answered g c =
    let is : c.from_residual.result ≡ Err c.in_err-task.field-0.0 = search rules in
    answered_one _ _ _ _ _ _ (task_read c.args.walk.now.task (Err c.in_err-task.field-0.0)) refl c.in_err-task.ensures.did (inl (c.in_err-task.field-0.0, c.in_err-task.ensures.refusal, refl, is, refl))

pub returns-in_err-task-clause-leaves_records : goal.returns-in_err-task-clause-leaves_records
returns-in_err-task-clause-leaves_records g c = answered_records _ g.S.LockSteps.journal g.met.S.LockSteps.leaves _ _ _ _ (returns-in_err-task-clause-answered g c)

pub returns-clause-answered : goal.returns-clause-answered
returns-clause-answered g c = served _ g.S.LockSteps.counts _ _ _ c.in_ok-task.task c.args.walk.now _ _ c.in_ok-task.ensures.did c.read_task.ensures.same_counts c.serve_on.ensures

pub returns-clause-leaves_records : goal.returns-clause-leaves_records
returns-clause-leaves_records g c = answered_records _ g.S.LockSteps.journal g.met.S.LockSteps.leaves _ _ _ _ (returns-clause-answered g c)
