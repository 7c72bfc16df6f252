use Rattle.sq_server.proofs.VerdictLaws.{fault_left, run_left}
use Rattle.sq_server.proofs.ending.end.Goals as goal

pub returns-in-Some-clause-run : goal.returns-in-Some-clause-run
returns-in-Some-clause-run g c = run_left _ _ c.in-Some.parts.value c.judged.result c.in-Some.ensures c.judged.ensures.of c.judged.ensures.run

pub returns-in-Some-clause-fault : goal.returns-in-Some-clause-fault
returns-in-Some-clause-fault g c = fault_left _ _ c.in-Some.parts.value c.judged.result c.in-Some.ensures c.judged.ensures.fault
