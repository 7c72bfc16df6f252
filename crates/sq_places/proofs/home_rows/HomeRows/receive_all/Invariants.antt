use Rattle.std.proofs.Common.{◌≡◌, take, map}
use Rattle.sq_places.specs.inside.RowStates.{looked}
use Rattle.sq_places.proofs.home_rows.HomeRows.receive_all.Given as goal

abbrev pub invariant-loop-index : goal.invariant-loop-index
invariant-loop-index l = l.self ≡ map (looked (take l.index l.picked)) l.fn.self
