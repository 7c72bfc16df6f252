use Rattle.std.proofs.Common.{refl}
use Rattle.sq_ledger.proofs.LedgerLaws.{item_done, kept_more, may_move_for, one_more}
use Rattle.sq_ledger.proofs.ledger.TransitLedger.item_step.Goals as goal

pub change_for-requires : goal.change_for-requires
change_for-requires c =
    let does = rw (← c.self.view_is) at c.requires.does in
    record { may = rw (c.reason_of-reason.ensures does.0 does.1, c.change_by.ensures) (may_move_for _ c.self.invariant c.args.number does.0 c.args.act does.1) }

pub returns-clause-shares : goal.returns-clause-shares
returns-clause-shares c =
    let t = c.self.inside in
    let does = rw (← c.self.view_is) at c.requires.does in
    let step = item_done t.items.items t.next t.tasks.items t.limit c.args.event.stamp.moment c.args.act c.args.event.home.now c.args.event.kept.0 c.args.event.kept.1 c.args.number does.0 does.1 does.2 in
    rw (← c.self.view_is) (one_more t.items.items c.apply.new.self.items t.next t.next t.tasks c.change_for.new.self t.limit t.log c.add_event.new.log c.args.event.by.now c.args.event.stamp c.args.event.home.now c.args.event.kept.0 c.args.event.kept.1 (rw (c.apply.ensures.items, c.change_for.ensures.items, c.reason_of-reason.ensures does.0 does.1, c.get.ensures, c.change_by.ensures) step) c.add_event.ensures.last c.add_event.ensures.events c.add_event.ensures.spare c.change_for.ensures.spare)

pub invariant_of-self : goal.invariant_of-self
invariant_of-self c =
    kept_more _ _ c.args.event.by.now c.args.event.stamp c.args.event.home.now c.args.event.kept.0 c.args.event.kept.1 c.self.invariant refl c.add_event.ensures.rising (rw (← c.self.view_is) at (returns-clause-shares c))
