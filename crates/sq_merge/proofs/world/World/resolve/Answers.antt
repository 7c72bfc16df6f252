use Rattle.std.proofs.Common.{rules}
use Rattle.sq_directory.specs.Makers.{IsMadeBy}
use Rattle.sq_merge.proofs.KnownLaws.{known_read}
use Rattle.sq_merge.proofs.StepLaws.{as_fields}
use Rattle.sq_merge.proofs.world.World.resolve.Goals as goal

pub returns-clause-known : goal.returns-clause-known
returns-clause-known c =
    let old = as_fields c.self.view_is in
    let made : IsMadeBy old.directory.events old.directory.last c.args.name.now c.in-Some.queue = search rules in
    let read = (c.in_ok-see_directory.ensures {u = tt}).read in
    rw (read, ← c.self.view_is) (known_read old c.args.actor c.args.name.now c.in-Some.queue made)
