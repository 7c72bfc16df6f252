use Rattle.std.proofs.Common.{arith}
use Rattle.sq_ledger.proofs.items.TransitItems.new.Goals as goal

pub invariant_of-result : goal.invariant_of-result
invariant_of-result c = (1, rw c.new.ensures.items (omega arith))
