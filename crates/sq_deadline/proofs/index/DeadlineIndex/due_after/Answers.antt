use Rattle.std.proofs.Common.{rules, ◌≡◌, ◌∙◌, ap, sym}
use Rattle.std.specs.Prelude.{slice_get}
use Rattle.std.specs.List.{position_or_len}
use Rattle.sq_deadline.specs.Deadlines.{if_due, is_above}
use Rattle.sq_deadline.proofs.OrderLaws.{first_due_above}
use Rattle.sq_deadline.proofs.TreeLaws.{above_is}
use Rattle.sq_deadline.proofs.index.DeadlineIndex.due_after.Goals as goal

pub returns-clause-due : goal.returns-clause-due
returns-clause-due c =
    let ds = c.args.self.now.deadlines in
    let d = c.args.deadline.now in
    let order = c.nth_due.ensures.order in
    let above = above_is 0 d ds order in
    let index : c.count_below.result ≡ position_or_len (is_above d) ds = search (rules, above, order) in
    c.nth_due.ensures.due ∙ ap (λ n. if_due c.args.moment (slice_get ds n)) index ∙ sym (first_due_above c.args.moment 0 d ds order)
