use Rattle.std.proofs.Common.{◌≡◌, List}
use Rattle.sq_actions.specs.Asks.{Done}
use Rattle.sq_actions.specs.Fits.{AskedAll}
use Rattle.sq_actions.specs.inside.Messages.{act_at_each}
use Rattle.sq_actions.specs.Performs.{Path}
use Rattle.sq_actions.proofs.client.ask_all.Given as goal

abbrev pub invariant-loop-home : goal.invariant-loop-home
invariant-loop-home g l = record {
  known : g.S.LockSteps.knows l.steps l.of.name l.of.number;
  same : g.S.LockSteps.counts l.steps ≡ g.S.LockSteps.counts l.fn.steps;
  same_answer : l.answer ≡ l.initial.answer;
  asked : (trace : List Done) × Path g.S.LockSteps.stepped l.fn.steps trace l.steps × AskedAll l.of.name l.of.number (act_at_each l.each) l.home trace;
}
