use Rattle.std.proofs.Common.{◌≡◌, ◌≤◌, ◌++◌, length, map, take}
use Rattle.std.specs.Prelude.{count_by}
use Rattle.sq_deadline.specs.Deadlines.{is_due}
use Rattle.sq_model.specs.Rows.{is_live, received}
use Rattle.sq_store.specs.inside.Found.{found, is_kept_and}
use Rattle.sq_store.proofs.due.pick_of.Given as goal

-- those walked over are due, and the live ones are picked
abbrev pub invariant-loop-rank : goal.invariant-loop-rank
invariant-loop-rank l = record {
  due : l.rank ≤ count_by (is_due l.at.moment) l.index.deadlines;
  picked : l.picked ≡ l.initial.picked ++ map (received l.at.moment l.until) (found (is_kept_and (is_live l.at.settings l.at.moment) l.at.settings l.at.moment) l.table.rows (take l.rank l.index.deadlines));
  few : length l.picked ≤ l.max;
}
