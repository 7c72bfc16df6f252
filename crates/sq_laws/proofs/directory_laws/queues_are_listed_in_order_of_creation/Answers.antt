use Rattle.sq_laws.proofs.CreationLaws.{listed_exactly, listed_rise}
use Rattle.sq_laws.proofs.directory_laws.queues_are_listed_in_order_of_creation.Goals as goal

pub returns-clause-in_order : goal.returns-clause-in_order
returns-clause-in_order c = listed_rise

pub returns-clause-exactly : goal.returns-clause-exactly
returns-clause-exactly c = listed_exactly
