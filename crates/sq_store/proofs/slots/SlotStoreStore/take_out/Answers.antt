use Rattle.sq_store.proofs.AtLaws.{goes_with}
use Rattle.sq_store.proofs.slots.SlotStoreStore.take_out.Goals as goal

pub returns-clause-taken : goal.returns-clause-taken
returns-clause-taken c = (goes_with c.args.slot c.args.serial c.args.self.now.table.rows c.remove.new.self.table.rows c.remove.result c.remove.ensures.taken c.remove.ensures.between c.remove.ensures.rows).0

pub returns-clause-none : goal.returns-clause-none
returns-clause-none c = (goes_with c.args.slot c.args.serial c.args.self.now.table.rows c.remove.new.self.table.rows c.remove.result c.remove.ensures.taken c.remove.ensures.between c.remove.ensures.rows).1

pub returns-clause-kept : goal.returns-clause-kept
returns-clause-kept c = (goes_with c.args.slot c.args.serial c.args.self.now.table.rows c.remove.new.self.table.rows c.remove.result c.remove.ensures.taken c.remove.ensures.between c.remove.ensures.rows).2
