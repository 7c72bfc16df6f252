use Rattle.sq_laws.proofs.DirectoryHolds.{gone_stays, removed_gone}
use Rattle.sq_laws.proofs.directory_laws.numbers_of_queues_are_given_once.Goals as goal

pub returns-clause-gone : goal.returns-clause-gone
returns-clause-gone c = removed_gone

pub returns-clause-stays : goal.returns-clause-stays
returns-clause-stays c = gone_stays
