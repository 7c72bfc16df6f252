use Rattle.sq_queue.proofs.reads.Serving+C+G+D+T+SlotStore.last_task.Goals as goal
use Rattle.sq_queue.proofs.LastTaskLaws.{last_is_of_source}

pub returns-clause-source : goal.returns-clause-source
returns-clause-source g c = last_is_of_source c.args.source c.deref-2.result.now.ledger.history.ledger c.last_task.result c.last_task.ensures.task
