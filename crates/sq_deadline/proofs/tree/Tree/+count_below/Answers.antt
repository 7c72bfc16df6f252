use Rattle.std.proofs.Common.{rules, ◌++◌, ◌∷◌}
use Rattle.sq_deadline.specs.Deadlines.{DeadlinesRise}
use Rattle.sq_deadline.specs.Trees.{listed}
use Rattle.sq_deadline.proofs.TreeLaws.{counts_before, counts_past, rise_left, rise_right}
use Rattle.sq_deadline.proofs.tree.Tree.+count_below.Goals as goal

pub returns-then-key-clause-count : goal.returns-then-key-clause-count
returns-then-key-clause-count t c order =
    let n = c.in-Full.node.value in
    let h : DeadlinesRise 0 (listed n.left ++ n.deadline ∷ listed n.right) = search (rules, order) in
    let right = rise_right 0 (listed n.left) n.deadline (listed n.right) h in
    let counted = counts_past c.args.key 0 (listed n.left) n.deadline (listed n.right) (search rules) h in
    search (rules, counted, right)

pub returns-else-key-clause-count : goal.returns-else-key-clause-count
returns-else-key-clause-count t c order =
    let n = c.in-Full.node.value in
    let h : DeadlinesRise 0 (listed n.left ++ n.deadline ∷ listed n.right) = search (rules, order) in
    let left = rise_left 0 (listed n.left) (n.deadline ∷ listed n.right) h in
    let counted = counts_before c.args.key 0 (listed n.left) n.deadline (listed n.right) (search rules) h in
    search (rules, counted, left)
