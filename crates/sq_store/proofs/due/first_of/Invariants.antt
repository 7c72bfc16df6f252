use Rattle.std.proofs.Common.{◌≡◌, ◌≤◌, [], take}
use Rattle.std.specs.Prelude.{count_by}
use Rattle.sq_deadline.specs.Deadlines.{is_due}
use Rattle.sq_store.specs.inside.Found.{found, is_kept_and, is_wanted}
use Rattle.sq_store.proofs.due.first_of.Given as goal

-- those passed over are due, and none of them is looked for
abbrev pub invariant-loop-rank : goal.invariant-loop-rank
invariant-loop-rank l = record {
  due : l.rank ≤ count_by (is_due l.due) l.index.deadlines;
  none : found (is_kept_and (is_wanted l.what l.at.settings l.at.moment) l.at.settings l.at.moment) l.table.rows (take l.rank l.index.deadlines) ≡ [];
}
