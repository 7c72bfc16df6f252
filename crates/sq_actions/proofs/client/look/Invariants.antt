use Rattle.std.proofs.Common.{◌≡◌, List}
use Rattle.sq_actions.specs.Asks.{Done}
use Rattle.sq_actions.specs.Fits.{InVain}
use Rattle.sq_actions.specs.Performs.{Path}
use Rattle.sq_actions.proofs.client.look.Given as goal

abbrev pub invariant-loop-index : goal.invariant-loop-index
invariant-loop-index g l = record {
  known : g.S.LockSteps.knows l.steps l.of.name l.of.number;
  same : g.S.LockSteps.counts l.steps ≡ g.S.LockSteps.counts l.fn.steps;
  asked : (trace : List Done) × Path g.S.LockSteps.stepped l.fn.steps trace l.steps × InVain l.call l.of.number l.homes.items l.index l.over trace;
}
