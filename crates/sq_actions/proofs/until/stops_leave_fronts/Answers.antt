use Rattle.sq_actions.proofs.StopPaths.{front_records, whole_fits}
use Rattle.sq_actions.proofs.until.stops_leave_fronts.Goals as goal

pub returns-clause-whole : goal.returns-clause-whole
returns-clause-whole c = λ counts call limit trace told fits few. whole_fits _ limit trace told fits few

pub returns-clause-records : goal.returns-clause-records
returns-clause-records c = λ front rest all are. (let more = front_records front rest all are in (more.0, more.1, more.2, more.4))
