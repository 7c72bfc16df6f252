use Rattle.std.proofs.Common.{arith}
use Rattle.sq_model.specs.Rows.{received_if, serials_of}
use Rattle.sq_store.proofs.Lists.{map_over_at}
use Rattle.sq_store.proofs.plain.PlainStoreStore.receive.Goals as goal

pub loop-row-preserved : goal.loop-row-preserved
loop-row-preserved c = rw c.receive_row.ensures (map_over_at (received_if c.args.at.now.settings (serials_of c.args.picked.now) c.args.at.now.moment c.args.until) c.args.self.now.rows.items c.loop-row.row-items c.loop-row.row-index c.row-item.result (omega arith) (omega arith) c.loop-row.invariant)
