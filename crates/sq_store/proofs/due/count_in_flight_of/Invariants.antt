use Rattle.std.proofs.Common.{◌≡◌, ◌≤◌, length, take}
use Rattle.std.specs.Prelude.{count_by}
use Rattle.sq_deadline.specs.Deadlines.{is_due}
use Rattle.sq_model.specs.Rows.{is_in_flight}
use Rattle.sq_store.specs.inside.Found.{found}
use Rattle.sq_store.proofs.due.count_in_flight_of.Given as goal

-- those walked over are due, and those in flight are counted
abbrev pub invariant-loop-rank : goal.invariant-loop-rank
invariant-loop-rank l = record {
  due : l.rank ≤ count_by (is_due l.due) l.index.deadlines;
  count : l.count ≡ length (found (is_in_flight l.moment) l.table.rows (take l.rank l.index.deadlines));
  few : l.count ≤ l.rank;
}
