use Rattle.std.proofs.Common.{◌∙◌, sym}
use Rattle.sq_queue.proofs.FinishLaws.{found_same}
use Rattle.sq_queue.proofs.finish.home_at.Goals as goal

pub returns-then-eq-clause-at : goal.returns-then-eq-clause-at
returns-then-eq-clause-at c =
    c.args.found.own ∙ found_same c.args.found.id c.id_at.result (sym c.eq.ensures ∙ c.if-eq.true) ∙ c.id_at.ensures
