use Rattle.std.proofs.Common.{◌≡◌, take}
use Rattle.std.specs.List.{fold}
use Rattle.std.specs.BTreeMap.{get}
use Rattle.sq_base.specs.declared.message_id.MessageId.{MessageId}
use Rattle.sq_audit.specs.RunLineages.{id_cmp}
use Rattle.sq_places.specs.inside.AllPlaces.{after_move}
use Rattle.sq_places.proofs.places.put_places.Given as goal

abbrev pub invariant-loop-id : goal.invariant-loop-id
invariant-loop-id l = (x : MessageId) → get id_cmp l.places x ≡ fold (after_move x) (get id_cmp l.initial.places x) (take l.id-index l.moves)
