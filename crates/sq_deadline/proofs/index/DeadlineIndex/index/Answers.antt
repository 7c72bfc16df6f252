use Rattle.std.proofs.Common.{◌∙◌, ap}
use Rattle.std.specs.Prelude.{count_by}
use Rattle.sq_deadline.specs.Trees.{listed}
use Rattle.sq_deadline.specs.inside.Trees.{is_below}
use Rattle.sq_deadline.proofs.TreeLaws.{place_is}
use Rattle.sq_deadline.proofs.index.DeadlineIndex.index.Goals as goal

pub returns-clause-index : goal.returns-clause-index
returns-clause-index c =
    let ds = listed c.self.inside.tree in
    let order = c.self.invariant.0 in
    rw (← c.self.view_is) (c.count_below.ensures.count order ∙ ap (λ key. count_by (is_below key) ds) c.key.ensures ∙ place_is 0 c.args.deadline.now ds order)
