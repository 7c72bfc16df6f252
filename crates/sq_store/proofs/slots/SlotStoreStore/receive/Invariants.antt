use Rattle.std.proofs.Common.{◌≡◌, ◌≤◌, map, take}
use Rattle.sq_model.specs.Rows.{received_if, serials_of}
use Rattle.sq_store.specs.SlotStores.{reserved_in}
use Rattle.sq_store.proofs.slots.SlotStoreStore.receive.Given as goal

abbrev pub invariant-loop-row : goal.invariant-loop-row
invariant-loop-row l = (l.self.table.rows ≡ map (received_if l.at.settings (serials_of (take l.row-index l.picked)) l.at.moment l.until) l.initial.self.table.rows) × (reserved_in l.initial.self ≤ reserved_in l.self)
