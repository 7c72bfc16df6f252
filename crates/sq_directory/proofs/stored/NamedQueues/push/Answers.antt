use Rattle.std.proofs.Common.{◌∙◌, ap}
use Rattle.std.specs.Map.{values_of}
use Rattle.sq_directory.proofs.StoredLaws.{put_is, put_named, values_put}
use Rattle.sq_directory.proofs.stored.NamedQueues.push.Goals as goal

pub invariant_of-self : goal.invariant_of-self
invariant_of-self c =
    let put = put_is c.self.inside.queues c.args.queue _ c.insert.result c.self.invariant (rw (← c.self.view_is) at c.requires.other) (c.insert.ensures.succeeds (rw (← c.self.view_is) at c.requires.spare)) c.insert.ensures.entries in
    rw put (put_named c.self.inside.queues.entries c.args.queue c.self.invariant)

pub returns-clause-queues : goal.returns-clause-queues
returns-clause-queues c =
    let put = put_is c.self.inside.queues c.args.queue _ c.insert.result c.self.invariant (rw (← c.self.view_is) at c.requires.other) (c.insert.ensures.succeeds (rw (← c.self.view_is) at c.requires.spare)) c.insert.ensures.entries in
    rw (← c.self.view_is) (ap values_of put ∙ values_put c.self.inside.queues.entries (c.args.queue.name, c.args.queue))
