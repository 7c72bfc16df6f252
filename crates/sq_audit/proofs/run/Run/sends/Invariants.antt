use Rattle.std.proofs.Common.{◌≡◌, take}
use Rattle.sq_model.specs.Places.{run_sends}
use Rattle.sq_audit.specs.Tags.{tags_of}
use Rattle.sq_audit.proofs.run.Run.sends.Given as goal

abbrev pub invariant-loop-event : goal.invariant-loop-event
invariant-loop-event l = l.sends.items ≡ run_sends (tags_of (take l.event-index l.events))
