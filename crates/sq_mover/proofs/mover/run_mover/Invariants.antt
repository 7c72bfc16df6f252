use Rattle.sq_actions.specs.Performs.{GainsAtMost}
use Rattle.sq_queue.specs.Around.{around}
use Rattle.sq_mover.specs.MoverTurns.{TakesTurns}
use Rattle.sq_mover.specs.MoverValue.{begun}
use Rattle.sq_mover.proofs.mover.run_mover.Given as goal

abbrev pub invariant-loop : goal.invariant-loop
invariant-loop g l = record {
  gains : GainsAtMost l.counter l.fn.session.journal l.session.journal;
  turns : TakesTurns (around g.C.Clock.tells g.G.Gate.saw l.service) l.counter (begun l.fn.mover) l.fn.session l.mover l.session;
}
