use Rattle.sq_store.proofs.LiveLaws.{if_none, no_exhausted_is_live, none_is_live}
use Rattle.sq_store.proofs.slots.SlotStoreStore.find_live.Goals as goal

pub returns-then-most_under-visible-clause-none : goal.returns-then-most_under-visible-clause-none
returns-then-most_under-visible-clause-none c =
    let own = c.first_of.ensures.apart.slots in
    let none = no_exhausted_is_live c.args.at.now.settings c.args.at.now.moment c.self.inside.table.rows c.self.inside.visible own c.self.invariant.held (rw (← c.most_under.ensures) c.if-most_under-visible.true) in
    rw (← c.self.view_is) (none_is_live c.args.at.now.settings c.args.at.now.moment c.self.inside.table.rows c.self.inside.visible own c.self.invariant.held c.in_default.ensures.none c.in_default-first_of.ensures.none none)

pub returns-clause-none : goal.returns-clause-none
returns-clause-none c = if_none c.first_of-3.result
    (λ none. rw (← c.self.view_is) (none_is_live c.args.at.now.settings c.args.at.now.moment c.self.inside.table.rows c.self.inside.visible c.first_of.ensures.apart.slots c.self.invariant.held
    c.in_default.ensures.none c.in_default-first_of.ensures.none none)) c.first_of-3.ensures.none
