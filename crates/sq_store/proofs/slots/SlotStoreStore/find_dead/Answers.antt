use Rattle.sq_model.specs.Rows.{unexpired}
use Rattle.sq_store.proofs.LiveLaws.{if_none, no_received_is_dead, no_unreceived_is_dead, no_policy, none_is_dead}
use Rattle.sq_store.proofs.slots.SlotStoreStore.find_dead.Goals as goal

pub returns-in_default-clause-none : goal.returns-in_default-clause-none
returns-in_default-clause-none c = no_policy c.args.at.now.settings c.args.at.now.moment c.in_default.is (unexpired c.args.at.now.settings c.args.at.now.moment c.args.self.now.table.rows)

pub returns-then-visible-get-clause-none : goal.returns-then-visible-get-clause-none
returns-then-visible-get-clause-none c =
    let s = c.args.at.now.settings in
    let rows = c.self.inside.table.rows in
    let own = c.first_of.ensures.apart.slots in
    let unreceived = no_unreceived_is_dead s c.args.at.now.moment rows c.self.inside.visible own c.self.invariant.held c.in-Some.redrive c.in-Some.is c.get.ensures.least in
    let received = no_received_is_dead s c.args.at.now.moment rows c.self.inside.visible own c.self.invariant.held c.in-Some.redrive c.in-Some.is (rw (← c.get.ensures.value) c.if-visible-get.true) in
    rw (← c.self.view_is) (none_is_dead s c.args.at.now.moment rows c.self.inside.visible own c.self.invariant.held unreceived received c.in_default-first_of.ensures.none)

pub returns-clause-none : goal.returns-clause-none
returns-clause-none c =
    let s = c.args.at.now.settings in
    let rows = c.self.inside.table.rows in
    let own = c.first_of.ensures.apart.slots in
    let unreceived = no_unreceived_is_dead s c.args.at.now.moment rows c.self.inside.visible own c.self.invariant.held c.in-Some.redrive c.in-Some.is c.get.ensures.least in
    if_none c.first_of-2.result (λ received. rw (← c.self.view_is) (none_is_dead s c.args.at.now.moment rows c.self.inside.visible own c.self.invariant.held unreceived received c.in_default-first_of.ensures.none)) c.first_of-2.ensures.none
