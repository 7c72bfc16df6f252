use Rattle.std.proofs.Common.{◌+◌, ◌*◌, ◌≤◌}
use Rattle.sq_queue.specs.Around.{service_counts}
use Rattle.sq_server.specs.inside.Races.{HasCalledAll}
use Rattle.sq_server.proofs.clients.make_calls.Given as goal

abbrev pub invariant-loop-number : goal.invariant-loop-number
invariant-loop-number g l = record {
  a_third : 3 * l.sent ≤ l.number + 2;
  called : HasCalledAll (service_counts l.service.service.value) l.number l.fn.client.journal l.sent l.given l.client.journal;
}
