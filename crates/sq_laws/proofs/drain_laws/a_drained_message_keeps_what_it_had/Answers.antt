use Rattle.sq_laws.proofs.DrainLaws.{entered_as_it_was, returned_as_it_was}
use Rattle.sq_laws.proofs.drain_laws.a_drained_message_keeps_what_it_had.Goals as goal

pub returns-clause-entered : goal.returns-clause-entered
returns-clause-entered c = entered_as_it_was

pub returns-clause-given_back : goal.returns-clause-given_back
returns-clause-given_back c = returned_as_it_was
