use Rattle.std.proofs.Common.{◌∙◌}
use Rattle.sq_directory.proofs.StoredLaws.{lookup_is}
use Rattle.sq_directory.proofs.stored.NamedQueues.get.Goals as goal

pub returns : goal.returns
returns c = rw (← c.self.view_is) (c.get.ensures.value ∙ lookup_is c.args.name.now c.self.inside.queues.entries c.self.invariant)
