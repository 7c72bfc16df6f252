use Rattle.std.proofs.Common.{rules, ◌+◌, ◌≤◌, arith}
use Rattle.slab.specs.Slab.{slab_len}
use Rattle.sq_slots.proofs.TableLaws.{rows_counted}
use Rattle.sq_slots.proofs.table.SlotTable.reserve.Goals as goal

pub returns-clause-few : goal.returns-clause-few
returns-clause-few c =
    let enough : slab_len c.reserve.new.self + 4 ≤ c.reserve.new.self.capacity = search rules in
    let below : c.reserve.new.self.capacity ≤ 4294967296 = search rules in
    omega (arith, rows_counted c.reserve.new.self, enough, below)
