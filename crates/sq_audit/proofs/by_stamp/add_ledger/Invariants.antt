use Rattle.std.proofs.Common.{◌≡◌, ◌++◌, take}
use Rattle.std.specs.Prelude.{map}
use Rattle.sq_model.specs.Systems.{OfLedger}
use Rattle.sq_audit.specs.SystemNow.{own_events}
use Rattle.sq_audit.specs.Tags.{tags_of}
use Rattle.sq_audit.proofs.by_stamp.add_ledger.Given as goal

abbrev pub invariant-loop-at : goal.invariant-loop-at
invariant-loop-at l = tags_of l.all.items ≡ tags_of l.initial.all.items ++ map OfLedger (own_events (take l.at l.events.items))
