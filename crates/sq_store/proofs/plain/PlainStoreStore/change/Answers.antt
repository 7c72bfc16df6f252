use Rattle.std.proofs.Common.{arith}
use Rattle.sq_model.specs.Rows.{changed_if}
use Rattle.sq_store.proofs.Lists.{map_over_at}
use Rattle.sq_store.proofs.plain.PlainStoreStore.change.Goals as goal

pub loop-row-preserved : goal.loop-row-preserved
loop-row-preserved c = rw c.change_row.ensures (map_over_at (changed_if c.args.moment c.args.receipt.now c.args.until) c.args.self.now.rows.items c.loop-row.row-items c.loop-row.row-index c.row-item.result (omega arith) (omega arith) c.loop-row.invariant)
