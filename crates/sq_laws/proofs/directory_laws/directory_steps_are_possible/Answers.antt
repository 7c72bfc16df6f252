use Rattle.sq_laws.proofs.DirectoryLaws.{directory_possible}
use Rattle.sq_laws.proofs.directory_laws.directory_steps_are_possible.Goals as goal

pub returns : goal.returns
returns c = directory_possible
