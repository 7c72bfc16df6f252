use Rattle.std.proofs.Common.{◌≡◌, map, take}
use Rattle.serde_json.specs.View.{view}
use Rattle.sq_audit.specs.Tags.{tags_of}
use Rattle.sq_wire.specs.Audits.{event_data}
use Rattle.sq_wire.proofs.audit.events_value.Given as goal

abbrev pub invariant-loop-event : goal.invariant-loop-event
invariant-loop-event l = map view l.list.items ≡ map event_data (tags_of (take l.event-index l.run))
