use Rattle.sq_laws.proofs.CreationLaws.{numbered}
use Rattle.sq_laws.proofs.directory_laws.numbers_are_the_order_of_creation.Goals as goal

pub returns : goal.returns
returns c = numbered
