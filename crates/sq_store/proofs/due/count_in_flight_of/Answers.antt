use Rattle.std.proofs.Common.{rules, ◌≡◌, ◌∙◌, ◌+◌, true, false, [], Some, None, length, arith, sym, ap}
use Rattle.std.specs.Prelude.{filter, slice_get}
use Rattle.std.specs.List.{cons_option}
use Rattle.sq_deadline.specs.Deadlines.{if_due}
use Rattle.sq_deadline.proofs.SetLaws.{due_at}
use Rattle.sq_model.specs.Rows.{is_in_flight}
use Rattle.sq_store.specs.inside.Found.{row_of}
use Rattle.sq_store.proofs.DueLaws.{at_most_one, counts_on, found_at_end, found_before, walks_on}
use Rattle.sq_store.proofs.due.count_in_flight_of.Goals as goal
use Rattle.sq_store.proofs.due.count_in_flight_of.Goals.{in-Some-at+then-is_in_flight, in-Some-at+else-is_in_flight, in_default-at}

pub returns-in_default : goal.returns-in_default
returns-in_default c =
    let at : if_due c.args.due (slice_get c.args.index.now.deadlines c.loop-rank.rank) ≡ None = search rules in
    c.loop-rank.invariant.count ∙ sym (ap length (found_before (is_in_flight c.args.moment) c.args.table.now.rows c.args.due c.args.index.now.deadlines c.loop-rank.rank c.nth_due.ensures.order c.loop-rank.invariant.due at))

pub loop-rank-preserved : goal.loop-rank-preserved
loop-rank-preserved c =
    let d = c.in-Some.deadline.now in
    let p = is_in_flight c.args.moment in
    let ds = c.args.index.now.deadlines in
    let at : if_due c.args.due (slice_get ds c.loop-rank.rank) ≡ Some d = search rules in
    let more : c.match-at.count ≡ c.loop-rank.count + length (filter p (cons_option (row_of c.args.table.now.rows d) [])) = elim c.match-at.branch [
      | in-Some-at+then-is_in_flight w ↦ let yes : p w.in-Some-at.row.now ≡ true = sym w.is_in_flight.ensures ∙ w.if-is_in_flight.true in rw (← w.in-Some-at.ensures.row, yes) (omega arith)
      | in-Some-at+else-is_in_flight w ↦ let none : p w.in-Some-at.row.now ≡ false = sym w.is_in_flight.ensures ∙ w.if-is_in_flight.false in rw (← w.in-Some-at.ensures.row, none) (omega arith)
      | in_default-at w ↦ rw (← w.in_default-at.ensures.row) (omega arith)
    ] in
    let counted = counts_on p c.args.table.now.rows ds c.loop-rank.rank d (due_at c.args.due d ds c.loop-rank.rank at).0 in
    record {
      due = walks_on c.args.due ds c.loop-rank.rank d c.nth_due.ensures.order at;
      count = omega (arith, more, counted, c.loop-rank.invariant.count);
      few = omega (arith, more, at_most_one p (row_of c.args.table.now.rows d), c.loop-rank.invariant.few);
    }

pub returns : goal.returns
returns c =
    c.loop-rank.invariant.count ∙ sym (ap length (found_at_end (is_in_flight c.args.moment) c.args.table.now.rows c.args.due c.args.index.now.deadlines c.loop-rank.rank
    c.len-rank-end.ensures.order c.loop-rank.invariant.due (omega arith)))
