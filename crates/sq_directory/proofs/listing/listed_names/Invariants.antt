use Rattle.std.proofs.Common.{◌≡◌, take}
use Rattle.sq_directory.specs.Listings.{listed_names}
use Rattle.sq_directory.proofs.listing.listed_names.Given as goal

abbrev pub invariant-loop-index : goal.invariant-loop-index
invariant-loop-index l = l.names ≡ listed_names l.listing (take l.index l.queues.queues)
