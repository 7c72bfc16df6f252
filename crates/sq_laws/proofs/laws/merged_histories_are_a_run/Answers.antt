use Rattle.sq_laws.proofs.RunLaws.{merged_run}
use Rattle.sq_laws.proofs.laws.merged_histories_are_a_run.Goals as goal

pub returns : goal.returns
returns c = merged_run
