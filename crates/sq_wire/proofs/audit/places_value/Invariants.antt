use Rattle.std.proofs.Common.{◌≡◌, map, take}
use Rattle.serde_json.specs.View.{view}
use Rattle.sq_wire.specs.Audits.{placed_data}
use Rattle.sq_wire.proofs.audit.places_value.Given as goal

abbrev pub invariant-loop-listed : goal.invariant-loop-listed
invariant-loop-listed l = map view l.list.items ≡ map placed_data (take l.listed-index l.places)
