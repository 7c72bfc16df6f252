use Rattle.std.proofs.Common.{◌≡◌, ◌++◌, take, drop, map}
use Rattle.sq_model.specs.Rows.{changed_if}
use Rattle.sq_store.proofs.plain.PlainStoreStore.change.Given as goal

abbrev pub invariant-loop-row : goal.invariant-loop-row
invariant-loop-row l = l.row-items ≡ map (changed_if l.moment l.receipt l.until) (take l.row-index l.fn.self.rows.items) ++ drop l.row-index l.fn.self.rows.items
