use Rattle.std.proofs.Common.{refl}
use Rattle.sq_model.specs.Directories.{DirectoryStep}
use Rattle.sq_laws.specs.WorkedDirectory.{letters_queue}
use Rattle.sq_laws.proofs.worked_directory.a_deleted_name_is_not_free_at_once.Goals as goal

pub returns-clause-gone : goal.returns-clause-gone
unfolding DirectoryStep
returns-clause-gone c = (letters_queue, refl, refl, refl)
