use Rattle.std.proofs.Common.{◌≡◌, take}
use Rattle.std.specs.BTreeMap.{get}
use Rattle.sq_base.specs.declared.message_id.MessageId.{MessageId}
use Rattle.sq_audit.specs.RunLineages.{id_cmp}
use Rattle.sq_places.specs.inside.AllPlaces.{sent_place}
use Rattle.sq_places.proofs.places.sent_places.Given as goal

abbrev pub invariant-loop-id : goal.invariant-loop-id
invariant-loop-id l = (x : MessageId) → get id_cmp l.places x ≡ sent_place x (take l.id-index l.sends)
