use Rattle.std.proofs.Common.{rules, ◌≡◌, ◌<◌, ◌++◌, length}
use Rattle.std.specs.Prelude.{option_to_list}
use Rattle.sq_audit.proofs.RunLaws.{sends_more}
use Rattle.sq_audit.proofs.run.Run.sends.Goals as goal

pub loop-event-preserved : goal.loop-event-preserved
loop-event-preserved c =
    let events = c.events-events.result.now in
    let lt : c.loop-event.event-index < length events = search rules in
    let pushed : c.match-sent_by.sends.items ≡ c.loop-event.sends.items ++ option_to_list c.sent_by.result = search rules in
    rw (sends_more events c.loop-event.event-index c.event-item.result lt c.event-item.is, ← c.sent_by.ensures, ← c.loop-event.invariant) pushed
