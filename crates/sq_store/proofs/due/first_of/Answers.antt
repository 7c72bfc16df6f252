use Rattle.std.proofs.Common.{rules, ◌≡◌, ◌∙◌, true, false, [], Some, None, arith, refl, sym}
use Rattle.std.specs.Prelude.{filter, find, slice_get}
use Rattle.std.specs.List.{cons_option}
use Rattle.sq_deadline.specs.Deadlines.{is_due}
use Rattle.sq_slots.specs.Slots.{is_in}
use Rattle.sq_store.specs.inside.Found.{is_kept_and, is_wanted, row_of}
use Rattle.sq_store.proofs.DueLaws.{found_at_end, found_before, found_in_none, found_whole, is_one_of_kept, passed_over, walks_on}
use Rattle.sq_store.proofs.ListLaws.{none_is_past}
use Rattle.sq_store.proofs.due.first_of.Goals as goal
use Rattle.sq_store.proofs.due.first_of.Goals.{in-Some+else-is_wanted, in_default}

pub returns-then-len-eq0-clause-none : goal.returns-then-len-eq0-clause-none
returns-then-len-eq0-clause-none c = found_in_none _ c.args.table.now.rows (filter (is_due c.args.due) c.args.index.now.deadlines) (omega arith)

pub returns-then-len-eq0-clause-all : goal.returns-then-len-eq0-clause-all
returns-then-len-eq0-clause-all c last = found_in_none _ c.args.table.now.rows c.args.index.now.deadlines (omega arith)

pub returns-in_err-deadline-clause-none : goal.returns-in_err-deadline-clause-none
returns-in_err-deadline-clause-none c =
    let past : slice_get c.args.index.now.deadlines c.loop-rank.rank ≡ None = search rules in
    rw c.from_residual.ensures (found_before (is_kept_and (is_wanted c.args.what c.args.at.now.settings c.args.at.now.moment) c.args.at.now.settings c.args.at.now.moment) c.args.table.now.rows c.args.due
    c.args.index.now.deadlines c.loop-rank.rank c.nth.ensures.order c.loop-rank.invariant.due (rw past refl) ∙ c.loop-rank.invariant.none)

pub returns-in_err-deadline-clause-all : goal.returns-in_err-deadline-clause-all
returns-in_err-deadline-clause-all c =
    let past : slice_get c.args.index.now.deadlines c.loop-rank.rank ≡ None = search rules in
    rw c.from_residual.ensures (λ last. found_whole _ c.args.table.now.rows c.args.index.now.deadlines c.loop-rank.rank (none_is_past c.args.index.now.deadlines c.loop-rank.rank past) ∙ c.loop-rank.invariant.none)

pub returns-then-not-is_due-clause-none : goal.returns-then-not-is_due-clause-none
returns-then-not-is_due-clause-none c =
    let at : slice_get c.args.index.now.deadlines c.loop-rank.rank ≡ Some c.in_ok-deadline.deadline.now = search rules in
    let later : is_due c.args.due c.in_ok-deadline.deadline.now ≡ false = sym c.is_due.ensures.due ∙ c.if-not-is_due.true in
    found_before (is_kept_and (is_wanted c.args.what c.args.at.now.settings c.args.at.now.moment) c.args.at.now.settings c.args.at.now.moment) c.args.table.now.rows c.args.due c.args.index.now.deadlines c.loop-rank.rank
    c.nth.ensures.order c.loop-rank.invariant.due (rw (at, later) refl) ∙ c.loop-rank.invariant.none

pub returns-then-is_wanted-clause-one : goal.returns-then-is_wanted-clause-one
returns-then-is_wanted-clause-one c =
    let at : find (is_in c.in_ok-deadline.deadline.now.slot) c.args.table.now.rows ≡ Some c.in-Some.row.now = search rules in
    is_one_of_kept (is_wanted c.args.what c.args.at.now.settings c.args.at.now.moment) c.args.at.now.settings c.args.at.now.moment c.in_ok-deadline.deadline.now.slot c.args.table.now.rows c.in-Some.row.now at
    (sym c.is_wanted.ensures ∙ c.if-is_wanted.true)

pub loop-rank-preserved : goal.loop-rank-preserved
loop-rank-preserved c =
    let d = c.in_ok-deadline.deadline.now in
    let p = is_kept_and (is_wanted c.args.what c.args.at.now.settings c.args.at.now.moment) c.args.at.now.settings c.args.at.now.moment in
    let at : slice_get c.args.index.now.deadlines c.loop-rank.rank ≡ Some d = search rules in
    let due : is_due c.args.due d ≡ true = sym c.is_due.ensures.due ∙ c.if-not-is_due.false in
    let fails : filter p (cons_option (row_of c.args.table.now.rows d) []) ≡ [] = elim c.match-at.branch [
      | in-Some+else-is_wanted w ↦ let no : p w.in-Some.row.now ≡ false = sym w.is_wanted.ensures ∙ w.if-is_wanted.false in rw (← w.in-Some.ensures.row, no) refl
      | in_default w ↦ rw (← w.in_default.ensures.row) refl
    ] in
    record {
      due = walks_on c.args.due c.args.index.now.deadlines c.loop-rank.rank d c.nth.ensures.order (rw (at, due) refl);
      none = passed_over p c.args.table.now.rows c.args.index.now.deadlines c.loop-rank.rank d at fails c.loop-rank.invariant.none;
    }

pub returns-clause-none : goal.returns-clause-none
returns-clause-none c =
    found_at_end (is_kept_and (is_wanted c.args.what c.args.at.now.settings c.args.at.now.moment) c.args.at.now.settings c.args.at.now.moment) c.args.table.now.rows c.args.due c.args.index.now.deadlines c.loop-rank.rank
    c.len-rank-end.ensures.order c.loop-rank.invariant.due (omega arith) ∙ c.loop-rank.invariant.none

pub returns-clause-all : goal.returns-clause-all
returns-clause-all c last = found_whole _ c.args.table.now.rows c.args.index.now.deadlines c.loop-rank.rank (omega arith) ∙ c.loop-rank.invariant.none
