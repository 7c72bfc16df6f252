use Rattle.std.proofs.Common.{◌≡◌, ◌≤◌, length}
use Rattle.sq_model.specs.Rows.{unexpired}
use Rattle.sq_store.specs.SlotStores.{reserved_in}
use Rattle.sq_store.proofs.slots.SlotStoreStore.expire.Given as goal

abbrev pub invariant-loop-oldest : goal.invariant-loop-oldest
invariant-loop-oldest l = (unexpired l.at.settings l.at.moment l.self.table.rows ≡ unexpired l.at.settings l.at.moment l.initial.self.table.rows) × (reserved_in l.initial.self ≤ reserved_in l.self)

abbrev pub decreases-loop-oldest : goal.decreases-loop-oldest
decreases-loop-oldest l = length l.self.table.rows
