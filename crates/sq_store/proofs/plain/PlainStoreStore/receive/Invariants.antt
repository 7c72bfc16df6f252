use Rattle.std.proofs.Common.{◌≡◌, ◌++◌, take, drop, map}
use Rattle.sq_model.specs.Rows.{received_if, serials_of}
use Rattle.sq_store.proofs.plain.PlainStoreStore.receive.Given as goal

abbrev pub invariant-loop-row : goal.invariant-loop-row
invariant-loop-row l = l.row-items ≡ map (received_if l.at.settings (serials_of l.picked) l.at.moment l.until) (take l.row-index l.fn.self.rows.items) ++ drop l.row-index l.fn.self.rows.items
