use Rattle.std.proofs.Common.{◌≡◌, map, take}
use Rattle.sq_model.specs.Directories.{as_named}
use Rattle.sq_directory.proofs.listing.all_named.Given as goal

abbrev pub invariant-loop-index : goal.invariant-loop-index
invariant-loop-index l = l.names ≡ map as_named (take l.index l.queues.queues)
