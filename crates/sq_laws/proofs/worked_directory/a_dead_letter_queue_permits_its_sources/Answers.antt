use Rattle.std.proofs.Common.{refl, arith}
use Rattle.sq_model.specs.Directories.{DirectoryStep}
use Rattle.sq_laws.specs.WorkedDirectory.{plain_source, source_queue}
use Rattle.sq_laws.proofs.worked_directory.a_dead_letter_queue_permits_its_sources.Goals as goal

pub returns-clause-chosen : goal.returns-clause-chosen
unfolding DirectoryStep
returns-clause-chosen c = (plain_source, refl, omega arith, refl, refl, refl)

pub returns-clause-unset : goal.returns-clause-unset
unfolding DirectoryStep
returns-clause-unset c = (source_queue, refl, omega arith, refl, refl, refl)
