use Rattle.std.proofs.Common.{◌≡◌, ◌++◌}
use Rattle.sq_places.specs.inside.Audits.{placed}
use Rattle.sq_places.proofs.home_rows.HomeRows.clear.Given as goal

abbrev pub invariant-loop-row : goal.invariant-loop-row
invariant-loop-row l = l.ends.items ++ placed l.place l.row-iterator ≡ l.fn.ends.items ++ placed l.place l.fn.self
