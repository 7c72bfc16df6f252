use Rattle.std.proofs.Common.{◌≡◌, drop}
use Rattle.sq_mover.specs.MoverValue.{walk_kept}
use Rattle.sq_mover.proofs.walks.Walks.of.Given as goal

abbrev pub invariant-loop-walk : goal.invariant-loop-walk
invariant-loop-walk l = walk_kept l.task l.self.last.items ≡ walk_kept l.task (drop l.walk-index l.self.last.items)
