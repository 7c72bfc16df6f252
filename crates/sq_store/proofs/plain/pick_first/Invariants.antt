use Rattle.std.proofs.Common.{◌≡◌, take, map}
use Rattle.std.specs.Prelude.{filter}
use Rattle.sq_model.specs.Rows.{received, is_live, unexpired}
use Rattle.sq_store.proofs.plain.pick_first.Given as goal

abbrev pub invariant-loop-row : goal.invariant-loop-row
invariant-loop-row l = l.picked ≡ take l.max (map (received l.at.moment l.until) (filter (is_live l.at.settings l.at.moment) (unexpired l.at.settings l.at.moment (take l.row-index l.rows))))
