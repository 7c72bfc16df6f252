use Rattle.std.proofs.Common.{◌∙◌}
use Rattle.sq_store.proofs.DueLaws.{delayed_count}
use Rattle.sq_store.proofs.slots.SlotStore.count_delayed_rows.Goals as goal

pub returns : goal.returns
returns c = rw (← c.self.view_is) (c.count_later.ensures ∙ delayed_count c.self.inside.table.rows c.self.inside.visible c.self.invariant.held c.args.moment)
