use Rattle.sq_store.proofs.FoundLaws.{rises_below}
use Rattle.sq_store.proofs.slots.SlotStoreStore.insert.Goals as goal

pub put-requires-clause-above : goal.put-requires-clause-above
put-requires-clause-above c = rises_below 0 c.args.self.now.table.rows c.args.row.serial c.requires.rising
