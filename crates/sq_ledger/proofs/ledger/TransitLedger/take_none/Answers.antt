use Rattle.std.proofs.Common.{refl}
use Rattle.sq_ledger.proofs.LedgerLaws.{kept_more, none_of, none_taken, one_more}
use Rattle.sq_ledger.proofs.ledger.TransitLedger.take_none.Goals as goal

pub fail_without-requires : goal.fail_without-requires
fail_without-requires c =
    let t = c.self.inside in
    none_of t.items.items t.next t.tasks.items t.limit c.args.event.stamp.moment c.args.event.home.now c.args.number c.args.event.kept.0 c.args.event.kept.1 (rw (← c.self.view_is) at c.requires.none)

pub returns-clause-shares : goal.returns-clause-shares
returns-clause-shares c =
    let t = c.self.inside in
    let step = none_taken t.items.items t.next t.tasks.items t.limit c.args.event.stamp.moment c.args.event.home.now c.args.number c.args.event.kept.0 c.args.event.kept.1 (rw (← c.self.view_is) at c.requires.none) in
    rw (← c.self.view_is) (one_more t.items.items t.items.items t.next t.next t.tasks c.fail_without.new.tasks t.limit t.log c.add_event.new.log c.args.event.by.now c.args.event.stamp c.args.event.home.now c.args.event.kept.0 c.args.event.kept.1 (rw c.fail_without.ensures.items step) c.add_event.ensures.last c.add_event.ensures.events c.add_event.ensures.spare c.fail_without.ensures.spare)

pub invariant_of-self : goal.invariant_of-self
invariant_of-self c =
    kept_more _ _ c.args.event.by.now c.args.event.stamp c.args.event.home.now c.args.event.kept.0 c.args.event.kept.1 c.self.invariant refl c.add_event.ensures.rising (rw (← c.self.view_is) at (returns-clause-shares c))
