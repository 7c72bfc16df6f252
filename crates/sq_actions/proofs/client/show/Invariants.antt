use Rattle.std.proofs.Common.{◌≡◌, List}
use Rattle.sq_actions.specs.Asks.{Done}
use Rattle.sq_actions.specs.inside.Calls.{AreFew}
use Rattle.sq_actions.specs.Fits.{CountedAll}
use Rattle.sq_actions.specs.Performs.{Path}
use Rattle.sq_actions.proofs.client.show.Given as goal

abbrev pub invariant-loop-home : goal.invariant-loop-home
invariant-loop-home g l = record {
  known : g.S.LockSteps.knows l.steps l.call.queue l.attributes.queue;
  same : g.S.LockSteps.counts l.steps ≡ g.S.LockSteps.counts l.fn.steps;
  asked : (trace : List Done) × Path g.S.LockSteps.stepped l.fn.steps trace l.steps × CountedAll l.call.queue l.attributes.queue l.home l.sum trace;
  few : AreFew l.home l.sum;
}
