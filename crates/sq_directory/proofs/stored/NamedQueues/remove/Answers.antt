use Rattle.std.proofs.Common.{◌∙◌, ap}
use Rattle.std.specs.Map.{values_of}
use Rattle.sq_directory.proofs.StoredLaws.{lookup_is, removed_is, removed_named, removed_shorter}
use Rattle.sq_directory.proofs.stored.NamedQueues.remove.Goals as goal

pub invariant_of-self : goal.invariant_of-self
invariant_of-self c = rw c.shift_remove.ensures.entries (removed_named c.args.name.now c.self.inside.queues.entries c.self.invariant)

pub returns-clause-queues : goal.returns-clause-queues
returns-clause-queues c = rw (← c.self.view_is) (ap values_of c.shift_remove.ensures.entries
    ∙ removed_is c.args.name.now c.self.inside.queues.entries c.self.invariant c.len.ensures.unique)

pub returns-clause-shorter : goal.returns-clause-shorter
returns-clause-shorter c queue found =
    let there = lookup_is c.args.name.now c.self.inside.queues.entries c.self.invariant ∙ (rw (← c.self.view_is) at found) in
    rw (← c.self.view_is, c.shift_remove.ensures.entries) (removed_shorter _ queue c.self.inside.queues.entries there)
