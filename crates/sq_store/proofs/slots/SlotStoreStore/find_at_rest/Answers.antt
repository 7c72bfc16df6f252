use Rattle.std.proofs.Common.{refl}
use Rattle.sq_store.proofs.LiveLaws.{if_none, none_is_at_rest}
use Rattle.sq_store.proofs.slots.SlotStoreStore.find_at_rest.Goals as goal

pub returns-clause-none : goal.returns-clause-none
returns-clause-none c = if_none c.first_of-3.result
    (λ none. rw (← c.self.view_is) (none_is_at_rest c.args.at.now.settings c.args.at.now.moment c.self.inside.table.rows c.self.inside.visible c.first_of.ensures.apart.slots c.self.invariant.held
    (c.in_default.ensures.all refl) c.in_default-first_of.ensures.none none)) c.first_of-3.ensures.none
