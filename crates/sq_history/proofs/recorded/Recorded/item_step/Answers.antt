use Rattle.std.proofs.Common.{rules}
use Rattle.sq_model.specs.ItemActs.{call_with}
use Rattle.sq_history.proofs.HalfLaws.{half_does, half_shared, shared_act}
use Rattle.sq_history.proofs.HistoryLaws.{kept_shared}
use Rattle.sq_history.proofs.recorded.Recorded.item_step.Goals as goal

pub invariant_of-self-2 : goal.invariant_of-self-2
invariant_of-self-2 g c =
    let item = c.in_ok-calls.field-0-0.now in
    kept_shared _ _ c.args.step.now.by c.in_ok-stamp.stamp c.args.step.now.name (call_with c.args.act item) c.note.result.its_record c.self.invariant c.note.ensures.rising
    (half_shared _ _ c.args.step.now.by c.args.step.now.stamp c.in_ok-stamp.stamp c.args.step.now.name (call_with c.args.act item) c.in_ok-calls.answers.0 c.note.result.its_record (shared_act c.args.act item) (search rules) (search rules) (search rules) (search rules) (search rules) (search rules) (search rules) (search rules) (search rules) (search rules))

pub returns-clause-does : goal.returns-clause-does
returns-clause-does g c =
    let item = c.in_ok-calls.field-0-0.now in (
      item,
      search rules,
      half_does _ _ c.args.step.now.by c.args.step.now.stamp c.in_ok-stamp.stamp c.args.step.now.name (call_with c.args.act item) c.in_ok-calls.answers.0 c.note.result (search rules)
          (half_shared _ _ c.args.step.now.by c.args.step.now.stamp c.in_ok-stamp.stamp c.args.step.now.name (call_with c.args.act item) c.in_ok-calls.answers.0 c.note.result.its_record (shared_act c.args.act item) (search rules) (search rules) (search rules) (search rules) (search rules) (search rules) (search rules) (search rules) (search rules) (search rules))
          (search rules) (search rules) (search rules) (search rules) (search rules),
    )
