use Rattle.std.proofs.Common.{◌∙◌, arith, sym}
use Rattle.sq_store.proofs.DueLaws.{all_in_flight_kept, in_flight_kept}
use Rattle.sq_store.proofs.slots.SlotStoreStore.count_in_flight.Goals as goal

pub overflow_sub-result : goal.overflow_sub-result
overflow_sub-result c =
    let own = rw (← c.self.view_is) at c.count_in_flight_rows-in_flight.ensures.apart in
    let kept = in_flight_kept c.args.at.now.settings c.args.at.now.moment c.in-Some.bound c.self.inside.table.rows c.self.inside.ages.deadlines own.slots c.self.invariant.aged c.in-Some.ensures.some in
    let all = rw (← c.self.view_is) at c.count_in_flight_rows-in_flight.ensures.count in
    omega (arith, kept, all, c.count_in_flight_of.ensures)

pub returns-in-Some : goal.returns-in-Some
returns-in-Some c =
    let own = rw (← c.self.view_is) at c.count_in_flight_rows-in_flight.ensures.apart in
    let kept = in_flight_kept c.args.at.now.settings c.args.at.now.moment c.in-Some.bound c.self.inside.table.rows c.self.inside.ages.deadlines own.slots c.self.invariant.aged c.in-Some.ensures.some in
    let all = rw (← c.self.view_is) at c.count_in_flight_rows-in_flight.ensures.count in
    rw (← c.self.view_is) (omega (arith, kept, all, c.count_in_flight_of.ensures))

pub returns-in-None : goal.returns-in-None
returns-in-None c = c.count_in_flight_rows-in_flight.ensures.count ∙ sym (all_in_flight_kept c.args.at.now.settings c.args.at.now.moment c.args.self.now.table.rows c.in-None.ensures.none)
