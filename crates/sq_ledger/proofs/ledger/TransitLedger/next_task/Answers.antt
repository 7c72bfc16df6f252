use Rattle.std.proofs.Common.{arith}
use Rattle.sq_ledger.proofs.TaskCallLaws.{next_in_range}
use Rattle.sq_ledger.proofs.ledger.TransitLedger.next_task.Goals as goal

pub overflow_add-count : goal.overflow_add-count
overflow_add-count c =
    let last = next_in_range _ c.self.invariant in
    omega (arith, last, c.len-count.ensures.length)
