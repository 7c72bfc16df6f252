use Rattle.sq_laws.proofs.CreationLaws.{sources_exactly, sources_name_it, sources_rise}
use Rattle.sq_laws.proofs.directory_laws.sources_are_listed_in_order_of_creation.Goals as goal

pub returns-clause-in_order : goal.returns-clause-in_order
returns-clause-in_order c = sources_rise

pub returns-clause-exactly : goal.returns-clause-exactly
returns-clause-exactly c = sources_exactly

pub returns-clause-by_name : goal.returns-clause-by_name
returns-clause-by_name c = sources_name_it
