use Rattle.std.proofs.Common.{◌≡◌, ◌+◌, length, arith}
use Rattle.std.proofs.lemmas.List.{length_push}
use Rattle.sq_slots.specs.Slots.{in_slot}
use Rattle.sq_store.specs.SlotStores.{SlotValue}
use Rattle.sq_store.proofs.MemoryLaws.{HasOneMore, has_age_spare, has_more, has_one_more, has_spare, takes_one_more}
use Rattle.sq_store.proofs.SlotLaws.{free_is_none, indexed_last}
use Rattle.sq_store.proofs.slots.SlotStore.put.Goals as goal
use Rattle.sq_store.proofs.slots.SlotStore.put.Goals.{After-insert-slot}

-- the store as it was, with memory for a row more
rank : (c : After-insert-slot) → HasOneMore (record { table = c.self.inside.table; visible = c.self.inside.visible; ages = c.self.inside.ages })
rank c = has_one_more (record { table = c.self.inside.table; visible = c.self.inside.visible; ages = c.self.inside.ages }) (rw (← c.self.view_is) at c.requires.reserved)

pub set-requires : goal.set-requires
set-requires c = has_spare c.self.inside.table.rows c.self.inside.visible c.self.invariant.held (rank (goal.at.set-requires c).After-insert-slot).visible _

pub set-requires-2 : goal.set-requires-2
set-requires-2 c = has_age_spare c.self.inside.table.rows c.self.inside.ages c.self.invariant.aged (rank (goal.at.set-requires-2 c).After-insert-slot).ages

pub invariant_of-self : goal.invariant_of-self
invariant_of-self c =
    let rows = c.self.inside.table.rows in
    let spare = rank (goal.at.invariant_of-self c).After-insert-slot in
    let row = in_slot c.insert-slot.result c.args.row in
    rw c.insert-slot.ensures.rows (indexed_last rows row c.self.inside.visible c.set.new.self c.self.inside.ages c.set-2.new.self c.insert-slot.type_inv (free_is_none c.insert-slot.result rows c.insert-slot.ensures.free)
    (has_more (length rows + 1) c.self.inside.visible c.set.new.self c.set.ensures.set.space spare.visible) (omega (arith, spare.ages, c.set-2.ensures.memory))
    c.set.ensures.ordered c.set.ensures.set c.set-2.ensures.order c.set-2.ensures.deadlines c.self.invariant)

pub returns-clause-reserved : goal.returns-clause-reserved
returns-clause-reserved c =
    let old : SlotValue = record { table = c.self.inside.table; visible = c.self.inside.visible; ages = c.self.inside.ages } in
    let new : SlotValue = record { table = c.insert-slot.new.self; visible = c.set.new.self; ages = c.set-2.new.self } in
    let one : length c.insert-slot.new.self.rows ≡ length c.self.inside.table.rows + 1 = rw c.insert-slot.ensures.rows (length_push c.self.inside.table.rows _) in
    rw (← c.self.view_is) (takes_one_more old new c.insert-slot.ensures.reserved one c.set.ensures.set.space c.set-2.ensures.memory)
