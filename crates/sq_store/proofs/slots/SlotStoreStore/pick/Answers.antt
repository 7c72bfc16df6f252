use Rattle.sq_store.proofs.PickLaws.{pick_is_look, pick_without_exhausted}
use Rattle.sq_store.proofs.slots.SlotStoreStore.pick.Goals as goal
use Rattle.sq_store.proofs.slots.SlotStoreStore.pick.Goals.{then-visible-most_under+in_ok-pick_of-3, else-visible-most_under}

pub returns-clause-look : goal.returns-clause-look
returns-clause-look c =
    let s = c.args.at.now.settings in
    let m = c.args.at.now.moment in
    let rows = c.self.inside.table.rows in
    let v = c.self.inside.visible in
    let first = rw c.new-picked.ensures at c.in_ok-pick_of.ensures.picked in
    let second = c.in_ok-pick_of-2.ensures.picked in
    let one = c.in_turn.result.0.now in
    let two = c.in_turn.result.1.now in
    let both = c.in_turn.ensures.both in
    rw (← c.self.view_is) (elim c.if-visible-most_under.branch [
      | then-visible-most_under+in_ok-pick_of-3 w ↦ rw w.picked-is (pick_is_look s m c.args.until c.args.max rows v c.pick_of.ensures.apart c.self.invariant.held one two both c.pick_of.new.picked c.pick_of-2.new.picked _ first second w.in_ok-pick_of-3.ensures.picked)
      | else-visible-most_under w ↦ rw w.picked-is (pick_without_exhausted s m c.args.until c.args.max rows v c.pick_of.ensures.apart c.self.invariant.held one two both c.pick_of.new.picked c.pick_of-2.new.picked (rw (← c.most_under.ensures) w.if-visible-most_under.false) first second)
    ])
