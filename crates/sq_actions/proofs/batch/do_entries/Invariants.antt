use Rattle.std.proofs.Common.{◌≡◌, List, length}
use Rattle.std.specs.Prelude.{vec_len, vec_capacity, ◌≤◌}
use Rattle.sq_actions.specs.Asks.{Done}
use Rattle.sq_actions.specs.Entries.{EntriesFit}
use Rattle.sq_actions.specs.Performs.{Path}
use Rattle.sq_actions.proofs.batch.do_entries.Given as goal

abbrev pub invariant-loop-at : goal.invariant-loop-at
invariant-loop-at g l = record {
  known : g.S.LockSteps.knows l.steps l.batch.queue l.fn.number;
  same : g.S.LockSteps.counts l.steps ≡ g.S.LockSteps.counts l.fn.steps;
  many : vec_len l.told ≡ l.at;
  spare : length l.batch.entries ≤ vec_capacity l.told;
  asked : (trace : List Done) × Path g.S.LockSteps.stepped l.fn.steps trace l.steps × EntriesFit (g.S.LockSteps.counts l.fn.steps).homes l.batch l.fn.number l.at trace l.told.items;
}
