use Rattle.std.proofs.Common.{◌+◌, refl, ap}
use Rattle.sq_ledger.proofs.LedgerLaws.{items_stand, kept_more, may_leave_for, one_more, taken_in}
use Rattle.sq_ledger.proofs.ledger.TransitLedger.take_in.Goals as goal

pub change_for-requires : goal.change_for-requires
change_for-requires c =
    let may = may_leave_for _ c.self.invariant c.args.event.stamp.moment c.args.event.home.now c.args.event.kept.0 c.args.item (rw (← c.self.view_is) at c.requires.takes_one_more) (rw (← c.self.view_is) at c.requires.leaves) in
    record { may = rw (ap (λ (e : _). e.stamp.moment) c.event.view_is) may }

pub returns-clause-shares : goal.returns-clause-shares
returns-clause-shares c =
    let t = c.self.inside in
    let step = taken_in t.items.items t.next t.tasks.items t.limit c.args.event.stamp.moment c.args.event.home.now c.args.event.kept.0 c.args.event.kept.1 c.args.item (rw (← c.self.view_is) at c.requires.takes_one_more) (rw (← c.self.view_is) at c.requires.number) (rw (← c.self.view_is) at c.requires.leaves) c.requires.reply in
    rw (← c.self.view_is) (one_more t.items.items c.push.new.self.items t.next (t.next + 1) t.tasks c.change_for.new.self t.limit t.log c.add_event.new.log c.args.event.by.now c.args.event.stamp c.args.event.home.now c.args.event.kept.0 c.args.event.kept.1 (rw (c.push.ensures.items, c.change_for.ensures.items, ap (λ (e : _). e.stamp.moment) c.event.view_is) step) c.add_event.ensures.last c.add_event.ensures.events c.add_event.ensures.spare c.change_for.ensures.spare)

pub invariant_of-self : goal.invariant_of-self
invariant_of-self c =
    kept_more _ _ c.args.event.by.now c.args.event.stamp c.args.event.home.now c.args.event.kept.0 c.args.event.kept.1 c.self.invariant refl c.add_event.ensures.rising (rw (← c.self.view_is) at (returns-clause-shares c))

pub push-requires-clause-above : goal.push-requires-clause-above
push-requires-clause-above c = rw (rw (← c.self.view_is) at c.requires.number) (items_stand _ c.self.invariant)
