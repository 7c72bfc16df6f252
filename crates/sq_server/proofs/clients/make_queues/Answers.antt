use Rattle.std.proofs.Common.{subst, Ok}
use Rattle.sq_calls.specs.declared.calls.Call.{Call}
use Rattle.sq_queue.specs.Around.{service_counts}
use Rattle.sq_server.specs.inside.Races.{HasMade}
use Rattle.sq_server.proofs.clients.make_queues.Goals as goal

pub returns : goal.returns
returns g c =
    let counts = service_counts c.args.service.now.service.value in (
      c.call.new.client.journal,
      c.in_ok-call.field-0,
      c.in_ok-call-2.field-0,
      subst (λ (call : Call). HasMade counts call c.args.client.now.journal (Ok c.in_ok-call.field-0) c.call.new.client.journal) c.dead_queue_asked.ensures c.in_ok-call.ensures.leaves_records,
      subst (λ (call : Call). HasMade counts call c.call.new.client.journal (Ok c.in_ok-call-2.field-0) c.call-2.new.client.journal) c.race_queue_asked.ensures c.in_ok-call-2.ensures.leaves_records,
    )
