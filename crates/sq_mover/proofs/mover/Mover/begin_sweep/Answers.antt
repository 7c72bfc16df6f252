use Rattle.sq_mover.proofs.MoverLaws.{gains_asked}
use Rattle.sq_mover.proofs.mover.Mover.begin_sweep.Goals as goal

pub returns-clause-gains : goal.returns-clause-gains
returns-clause-gains g c = gains_asked c.names.result c.args.session.now c.names.new.session c.names.ensures.read c.names.ensures.err

pub returns-in_err-self-inside-clause-gains : goal.returns-in_err-self-inside-clause-gains
returns-in_err-self-inside-clause-gains g c = gains_asked c.names.result c.args.session.now c.names.new.session c.names.ensures.read c.names.ensures.err
