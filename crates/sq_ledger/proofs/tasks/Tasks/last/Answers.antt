use Rattle.std.proofs.Common.{◌≡◌, ◌∙◌, Some, sym}
use Rattle.sq_ledger.specs.TaskIndexes.{newest, tasks_in}
use Rattle.sq_ledger.proofs.TaskLaws.{last_found}
use Rattle.sq_ledger.proofs.tasks.Tasks.last.Goals as goal

pub returns : goal.returns
returns c =
    let kept = c.self.invariant.0 in
    let tasks = tasks_in c.self.inside.rows.items in
    let is : newest c.args.source tasks ≡ Some c.in_ok-number.number = sym (kept.last c.args.source) ∙ sym (rw c.get.ensures.value at c.get-2.ensures.value) ∙ sym c.in_ok-number.ensures in
    c.get-3.ensures ∙ rw (← c.self.view_is) (last_found c.args.source c.in_ok-number.number tasks kept.count is)
