use Rattle.std.proofs.Common.{rules}
use Rattle.sq_model.specs.HomeLeaves.{leave_call}
use Rattle.sq_history.proofs.HalfLaws.{leave_keeps_spare, leave_shared}
use Rattle.sq_history.proofs.HistoryLaws.{kept_shared}
use Rattle.sq_history.proofs.recorded.Recorded.leave.Goals as goal

pub invariant_of-self-2 : goal.invariant_of-self-2
invariant_of-self-2 g c =
    kept_shared _ _ c.args.step.now.by c.in_ok-stamp.stamp c.args.step.now.name (leave_call c.args.what) c.note-half.result.its_record c.self.invariant c.note-half.ensures.rising (search (rules, leave_shared, leave_keeps_spare))
