use Rattle.std.proofs.Common.{refl, codes}
use Rattle.sq_model.specs.Directories.{DirectoryStep}
use Rattle.sq_laws.specs.WorkedDirectory.{letters_queue, made_queue, source_queue}
use Rattle.sq_laws.proofs.worked_directory.sources_go_by_the_number.Goals as goal

pub returns-clause-sources : goal.returns-clause-sources
unfolding DirectoryStep
returns-clause-sources c = ((letters_queue, refl, refl), refl)

pub returns-clause-none : goal.returns-clause-none
unfolding DirectoryStep
returns-clause-none c = ((made_queue 3 (codes "d"), refl, refl), refl)

pub returns-clause-read : goal.returns-clause-read
unfolding DirectoryStep
returns-clause-read c = ((source_queue, refl, refl), refl)

pub returns-clause-found : goal.returns-clause-found
unfolding DirectoryStep
returns-clause-found c = ((source_queue, refl, refl), refl)
