use Rattle.sq_queue.proofs.FinishLaws.{all_kept}
use Rattle.sq_queue.proofs.finish.distinct_are_kept.Goals as goal

pub returns : goal.returns
returns c = all_kept
