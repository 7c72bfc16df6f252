use Rattle.std.proofs.Common.{arith, refl}
use Rattle.sq_model.specs.Directories.{DirectoryStep}
use Rattle.sq_laws.specs.WorkedDirectory.{letters_queue}
use Rattle.sq_laws.proofs.worked_directory.attributes_are_set.Goals as goal

pub returns-clause-numbers : goal.returns-clause-numbers
unfolding DirectoryStep
returns-clause-numbers c = (letters_queue, refl, omega arith, refl, refl, refl)
