use Rattle.sq_laws.proofs.DirectoryHolds.{directory_holds}
use Rattle.sq_laws.proofs.directory_laws.queues_differ.Goals as goal

pub returns : goal.returns
returns c = directory_holds
