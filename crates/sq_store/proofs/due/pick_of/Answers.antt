use Rattle.std.proofs.Common.{rules, ◌≡◌, ◌∙◌, ◌+◌, ◌++◌, true, false, List, [], ◌∷◌, Some, None, length, map, take, arith, refl, sym, ap}
use Rattle.std.specs.Prelude.{filter, find, slice_get}
use Rattle.std.specs.List.{cons_option}
use Rattle.std.proofs.lemmas.List.{append-nil, append_assoc, length-append, length-map, map-append, take_all}
use Rattle.sq_base.specs.declared.row.Row.{Row}
use Rattle.sq_deadline.specs.Deadlines.{if_due, is_due}
use Rattle.sq_deadline.proofs.SetLaws.{due_at}
use Rattle.sq_model.specs.Rows.{is_live, received}
use Rattle.sq_store.specs.inside.Found.{found, is_kept_and, row_of}
use Rattle.sq_slots.specs.Slots.{is_in}
use Rattle.sq_store.proofs.DueLaws.{at_most_one, found_at_end, found_before, found_in_none, found_more, is_one_of_kept, walks_on}
use Rattle.sq_store.proofs.FoundLaws.{gives_live}
use Rattle.sq_store.proofs.PickLaws.{picked_all, picked_full}
use Rattle.sq_store.proofs.due.pick_of.Goals as goal
use Rattle.sq_store.proofs.due.pick_of.Goals.{in-Some-at+then-is_wanted+in_ok-received_copy+in_ok-push, in-Some-at+else-is_wanted, in_default-at}

pub returns-then-len-eq0-clause-picked : goal.returns-then-len-eq0-clause-picked
returns-then-len-eq0-clause-picked c =
    rw (found_in_none (is_kept_and (is_live c.args.at.now.settings c.args.at.now.moment) c.args.at.now.settings c.args.at.now.moment) c.args.table.now.rows (filter (is_due c.args.at.now.moment) c.args.index.now.deadlines) (omega arith), append-nil c.args.picked.now)
    (sym (take_all c.args.max c.args.picked.now c.requires))

pub returns-then-len-max-clause-picked : goal.returns-then-len-max-clause-picked
returns-then-len-max-clause-picked c =
    picked_full (is_kept_and (is_live c.args.at.now.settings c.args.at.now.moment) c.args.at.now.settings c.args.at.now.moment) (received c.args.at.now.moment c.args.until) c.args.table.now.rows c.args.at.now.moment c.args.max c.args.index.now.deadlines
    c.loop-rank.rank c.args.picked.now c.loop-rank.picked c.loop-rank.invariant.picked c.len-rank-end.ensures.order c.loop-rank.invariant.due (omega arith)

pub returns-in_default-clause-picked : goal.returns-in_default-clause-picked
returns-in_default-clause-picked c =
    let p = is_kept_and (is_live c.args.at.now.settings c.args.at.now.moment) c.args.at.now.settings c.args.at.now.moment in
    let at : if_due c.args.at.now.moment (slice_get c.args.index.now.deadlines c.loop-rank.rank) ≡ None = search rules in
    picked_all p (received c.args.at.now.moment c.args.until) c.args.table.now.rows c.args.at.now.moment c.args.max c.args.index.now.deadlines c.loop-rank.rank c.args.picked.now c.loop-rank.picked c.loop-rank.invariant.picked
    (found_before p c.args.table.now.rows c.args.at.now.moment c.args.index.now.deadlines c.loop-rank.rank c.nth_due.ensures.order c.loop-rank.invariant.due at) c.loop-rank.invariant.few

pub loop-rank-preserved : goal.loop-rank-preserved
loop-rank-preserved c =
    let d = c.in-Some.due.now in
    let p = is_kept_and (is_live c.args.at.now.settings c.args.at.now.moment) c.args.at.now.settings c.args.at.now.moment in
    let f = received c.args.at.now.moment c.args.until in
    let rows = c.args.table.now.rows in
    let ds = c.args.index.now.deadlines in
    let rank = c.loop-rank.rank in
    let at : if_due c.args.at.now.moment (slice_get ds rank) ≡ Some d = search rules in
    let new : List Row = filter p (cons_option (row_of rows d) []) in
    let added : c.match-at.picked ≡ c.loop-rank.picked ++ map f new = elim c.match-at.branch [
      | in-Some-at+then-is_wanted+in_ok-received_copy+in_ok-push w ↦ let yes : p w.in-Some-at.row.now ≡ true = sym w.is_wanted.ensures ∙ w.if-is_wanted.true in rw (← w.in-Some-at.ensures.row, yes)
          (w.picked-is ∙ w.in_ok-push.ensures.ok ∙ ap (λ (row : Row). c.loop-rank.picked ++ row ∷ []) w.in_ok-received_copy.ensures.copy)
      | in-Some-at+else-is_wanted w ↦ let none : p w.in-Some-at.row.now ≡ false = sym w.is_wanted.ensures ∙ w.if-is_wanted.false in rw (← w.in-Some-at.ensures.row, none, append-nil c.loop-rank.picked) w.picked-is
      | in_default-at w ↦ rw (← w.in_default-at.ensures.row, append-nil c.loop-rank.picked) w.picked-is
    ] in
    let more = found_more p rows ds rank d (due_at c.args.at.now.moment d ds rank at).0 in
    record {
      due = walks_on c.args.at.now.moment ds rank d c.nth_due.ensures.order at;
      picked = added ∙ ap (λ (rs : List Row). rs ++ map f new) c.loop-rank.invariant.picked ∙ append_assoc c.args.picked.now (map f (found p rows (take rank ds))) (map f new)
          ∙ ap (λ (rs : List Row). c.args.picked.now ++ rs) (sym (map-append f (found p rows (take rank ds)) new) ∙ ap (map f) (sym more));
      few = let long : length c.match-at.picked ≡ length c.loop-rank.picked + length new = rw (added, length-append c.loop-rank.picked (map f new), length-map new f) refl in
          omega (arith, long, at_most_one p (row_of rows d), c.loop-rank.invariant.few);
    }

pub returns-clause-picked : goal.returns-clause-picked
returns-clause-picked c =
    let p = is_kept_and (is_live c.args.at.now.settings c.args.at.now.moment) c.args.at.now.settings c.args.at.now.moment in
    picked_all p (received c.args.at.now.moment c.args.until) c.args.table.now.rows c.args.at.now.moment c.args.max c.args.index.now.deadlines c.loop-rank.rank c.args.picked.now c.loop-rank.picked c.loop-rank.invariant.picked
    (found_at_end p c.args.table.now.rows c.args.at.now.moment c.args.index.now.deadlines c.loop-rank.rank c.len-rank-end.ensures.order c.loop-rank.invariant.due (omega arith)) c.loop-rank.invariant.few

pub returns-in_err-received_copy-clause-err : goal.returns-in_err-received_copy-clause-err
returns-in_err-received_copy-clause-err c =
    let s = c.args.at.now.settings in
    let m = c.args.at.now.moment in
    let at : find (is_in c.in-Some.due.now.slot) c.args.table.now.rows ≡ Some c.in-Some-at.row.now = search rules in
    let one = is_one_of_kept (is_live s m) s m c.in-Some.due.now.slot c.args.table.now.rows c.in-Some-at.row.now at (sym c.is_wanted.ensures ∙ c.if-is_wanted.true) in
    let gives = gives_live s m c.args.max c.args.table.now.rows c.in-Some-at.row.now (omega (arith, c.loop-rank.invariant.few)) one in
    search rules

pub returns-in_err-push-clause-err : goal.returns-in_err-push-clause-err
returns-in_err-push-clause-err c =
    let s = c.args.at.now.settings in
    let m = c.args.at.now.moment in
    let at : find (is_in c.in-Some.due.now.slot) c.args.table.now.rows ≡ Some c.in-Some-at.row.now = search rules in
    let one = is_one_of_kept (is_live s m) s m c.in-Some.due.now.slot c.args.table.now.rows c.in-Some-at.row.now at (sym c.is_wanted.ensures ∙ c.if-is_wanted.true) in
    let gives = gives_live s m c.args.max c.args.table.now.rows c.in-Some-at.row.now (omega (arith, c.loop-rank.invariant.few)) one in
    search rules
