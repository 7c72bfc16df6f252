use Rattle.std.proofs.Common.{take}
use Rattle.sq_steps.specs.Journals.{AreDistinct}
use Rattle.sq_steps.proofs.journals.are_distinct.Given as goal

abbrev pub invariant-loop-at : goal.invariant-loop-at
invariant-loop-at l = AreDistinct (take l.at l.journals)
