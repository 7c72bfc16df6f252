use Rattle.std.proofs.Common.{rules}
use Rattle.sq_steps.proofs.SharedLaws.{half_does, item_out}
use Rattle.sq_steps.proofs.shared.item_step.Goals as goal

pub returns-in_err-half : goal.returns-in_err-half
returns-in_err-half c =
    let refused = item_out c.args.act c.args.home.now c.args.ledger.now.history.ledger c.args.step.stamp c.args.number _ c.in_err-half.field-0.0 c.item.ensures c.in_err-half.ensures.refusal in
    search rules

pub item_step-requires-2-clause-does : goal.item_step-requires-2-clause-does
item_step-requires-2-clause-does c =
    let did = c.in_ok-half.ensures.does in
    (did.0, search rules, rw (c.event_of-event.ensures.home, c.event_of-event.ensures.kept) (half_does c.args.act c.args.home.now _ c.args.step.by c.args.step.stamp c.args.step.name did.0 c.in_ok-half.half did.2))
