use Rattle.std.proofs.Common.{arith}
use Rattle.sq_store.proofs.DueLaws.{all_kept, kept_by_age}
use Rattle.sq_store.proofs.slots.SlotStoreStore.count_kept.Goals as goal

pub overflow_sub-result : goal.overflow_sub-result
overflow_sub-result c =
    let kept = kept_by_age c.args.at.now.settings c.args.at.now.moment c.in-Some.bound c.self.inside.table.rows c.self.inside.ages.deadlines c.self.invariant.aged c.in-Some.ensures.some in
    omega (arith, kept)

pub returns-in-Some : goal.returns-in-Some
returns-in-Some c =
    let kept = kept_by_age c.args.at.now.settings c.args.at.now.moment c.in-Some.bound c.self.inside.table.rows c.self.inside.ages.deadlines c.self.invariant.aged c.in-Some.ensures.some in
    rw (← c.self.view_is) (omega (arith, kept))

pub returns-in-None : goal.returns-in-None
returns-in-None c =
    let kept = all_kept c.args.at.now.settings c.args.at.now.moment c.self.inside.table.rows c.in-None.ensures.none in
    rw (← c.self.view_is) (omega (arith, kept))
