use Rattle.sq_mover.proofs.MoverLaws.{gains_both, gains_read}
use Rattle.sq_mover.proofs.mover.Mover.serve_source.Goals as goal

pub returns-clause-gains : goal.returns-clause-gains
returns-clause-gains g c = gains_both 0 1 c.args.session.now.journal c.last_task-task.new.session.journal c.serve.new.session.journal (gains_read 0 c.args.session.now c.last_task-task.new.session c.last_task-task.ensures.read) c.serve.ensures.gains
