use Rattle.std.proofs.Common.{◌+◌, refl}
use Rattle.sq_laws.proofs.LedgerLists.{rise_append}
use Rattle.sq_ledger.proofs.items.TransitItems.push.Goals as goal

pub invariant_of-self : goal.invariant_of-self
invariant_of-self c =
    (c.args.item.number + 1, rw c.push_back_reserved.ensures.items (rise_append 1 c.self.inside.items.items c.args.item c.args.item.number (rw (← c.self.view_is) at c.requires.above) refl))
