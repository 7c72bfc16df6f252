use Rattle.sq_mover.proofs.MoverLaws.{gains_both}
use Rattle.sq_mover.proofs.mover.Mover.turn.Goals as goal

pub returns-clause-gains : goal.returns-clause-gains
returns-clause-gains g c = gains_both 0 1 c.args.session.now.journal c.begin_sweep.new.session.journal c.turn_here-told.new.session.journal c.begin_sweep.ensures.gains c.turn_here-told.ensures.gains
