use Rattle.sq_laws.proofs.RunLaws.{run_from}
use Rattle.sq_laws.proofs.laws.histories_make_a_run.Goals as goal

pub returns : goal.returns
returns c = run_from
