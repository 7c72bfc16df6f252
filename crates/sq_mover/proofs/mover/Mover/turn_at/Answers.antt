use Rattle.std.proofs.Common.{rules}
use Rattle.sq_queue.specs.Around.{around}
use Rattle.sq_mover.proofs.MoverLaws.{brings}
use Rattle.sq_mover.proofs.mover.Mover.turn_at.Goals as goal

pub returns-in-Bring-clause-turns : goal.returns-in-Bring-clause-turns
returns-in-Bring-clause-turns g c = record {
  leave = search rules;
  serve = search rules;
  bring = λ e. brings (around g.C.Clock.tells g.G.Gate.saw c.args.service.now) c.self-in-Bring.inside.tried c.args.self.now _ c.args.session.now c.bring.new.session c.bring.result
      (record { sections = c.bring.ensures.sections; leaves_records = c.bring.ensures.leaves_records }) (search rules) (search rules);
}
