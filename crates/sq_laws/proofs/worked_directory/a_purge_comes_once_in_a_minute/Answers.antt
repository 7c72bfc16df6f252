use Rattle.std.proofs.Common.{Some, refl}
use Rattle.sq_model.specs.Directories.{DirectoryStep}
use Rattle.sq_laws.specs.WorkedDirectory.{letters_queue}
use Rattle.sq_laws.proofs.worked_directory.a_purge_comes_once_in_a_minute.Goals as goal

pub returns-clause-first : goal.returns-clause-first
unfolding DirectoryStep
returns-clause-first c = (letters_queue, refl, refl, refl, refl)

pub returns-clause-in_time : goal.returns-clause-in_time
unfolding DirectoryStep
returns-clause-in_time c = (record letters_queue { last_purge = Some 1000 }, refl, refl, refl, refl)
