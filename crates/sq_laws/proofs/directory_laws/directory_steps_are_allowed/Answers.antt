use Rattle.sq_laws.proofs.DirectoryLaws.{directory_allowed}
use Rattle.sq_laws.proofs.directory_laws.directory_steps_are_allowed.Goals as goal

pub returns : goal.returns
returns c = directory_allowed
