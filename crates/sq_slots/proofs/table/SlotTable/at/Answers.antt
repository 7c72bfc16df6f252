use Rattle.std.proofs.Common.{◌∙◌, sym}
use Rattle.sq_slots.proofs.TableLaws.{found_in, rows_apart}
use Rattle.sq_slots.proofs.table.SlotTable.at.Goals as goal

pub returns-clause-row : goal.returns-clause-row
returns-clause-row c = rw (← c.self.view_is) (c.get.ensures ∙ sym (found_in c.self.inside.rows c.self.invariant c.args.slot))

pub returns-clause-apart : goal.returns-clause-apart
returns-clause-apart c = rw (← c.self.view_is) (rows_apart c.self.inside.rows c.self.invariant)
