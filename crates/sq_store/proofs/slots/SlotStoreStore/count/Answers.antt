use Rattle.std.proofs.Common.{◌≡◌, ◌-◌, length, arith}
use Rattle.std.specs.Prelude.{count_by}
use Rattle.sq_model.specs.Rows.{is_visible}
use Rattle.sq_store.proofs.DueLaws.{count_states}
use Rattle.sq_store.proofs.slots.SlotStoreStore.count.Goals as goal

pub overflow_sub-visible-2 : goal.overflow_sub-visible-2
overflow_sub-visible-2 c =
    let long : c.len.result ≡ length c.args.self.now.table.rows = rw (← c.self.view_is) c.len.ensures.len in
    omega (arith, long, count_states c.args.moment c.args.self.now.table.rows)

pub returns : goal.returns
returns c =
    let long : c.len.result ≡ length c.args.self.now.table.rows = rw (← c.self.view_is) c.len.ensures.len in
    let visible : c.len.result - c.count_in_flight_rows-in_flight.result - c.count_delayed_rows-delayed.result ≡ count_by (is_visible c.args.moment) c.args.self.now.table.rows =
    omega (arith, long, count_states c.args.moment c.args.self.now.table.rows) in
    cc
