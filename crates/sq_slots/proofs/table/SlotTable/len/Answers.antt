use Rattle.std.proofs.Common.{◌∙◌, sym}
use Rattle.sq_slots.proofs.TableLaws.{rows_apart, rows_counted}
use Rattle.sq_slots.proofs.table.SlotTable.len.Goals as goal

pub returns-clause-len : goal.returns-clause-len
returns-clause-len c = rw (← c.self.view_is) (c.len.ensures ∙ sym (rows_counted c.self.inside.rows))

pub returns-clause-apart : goal.returns-clause-apart
returns-clause-apart c = rw (← c.self.view_is) (rows_apart c.self.inside.rows c.self.invariant)
