use Rattle.std.proofs.Common.{rules}
use Rattle.sq_history.specs.Acts.{call_of}
use Rattle.sq_history.proofs.HistoryLaws.{kept_more}
use Rattle.sq_history.proofs.recorded.Recorded.step.Goals as goal

pub invariant_of-self-2 : goal.invariant_of-self-2
invariant_of-self-2 g c = kept_more _ _ c.args.by.now c.args.now c.args.name (call_of c.args.act) c.add_step.result.1 c.self.invariant c.add_step.ensures.rising (search rules)
