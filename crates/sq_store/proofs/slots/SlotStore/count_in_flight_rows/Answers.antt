use Rattle.std.proofs.Common.{arith}
use Rattle.sq_store.proofs.DueLaws.{in_flight_count}
use Rattle.sq_store.proofs.slots.SlotStore.count_in_flight_rows.Goals as goal

pub overflow_sub-received : goal.overflow_sub-received
overflow_sub-received c = omega (arith, in_flight_count c.self.inside.table.rows c.self.inside.visible c.self.invariant.held c.args.moment)

pub overflow_sub-result : goal.overflow_sub-result
overflow_sub-result c = omega (arith, in_flight_count c.self.inside.table.rows c.self.inside.visible c.self.invariant.held c.args.moment)

pub overflow_sub-result-2 : goal.overflow_sub-result-2
overflow_sub-result-2 c = omega (arith, in_flight_count c.self.inside.table.rows c.self.inside.visible c.self.invariant.held c.args.moment)

pub returns-clause-count : goal.returns-clause-count
returns-clause-count c = rw (← c.self.view_is) (omega (arith, in_flight_count c.self.inside.table.rows c.self.inside.visible c.self.invariant.held c.args.moment))
