use Rattle.std.proofs.Common.{rules, ◌≡◌, ◌⊎◌, ℕ, Result, Some, None, subst}
use Rattle.std.specs.Prelude.{IfErr, OnOk}
use Rattle.sq_base.specs.declared.refusal.Refusal.{Refusal}
use Rattle.sq_base.specs.declared.refusal.Refusal.TheVariants.{NoMemory}
use Rattle.sq_model.specs.Ledgers.{transit_refusal}
use Rattle.sq_steps.proofs.SharedLaws.{leave_refused, leaving}
use Rattle.sq_steps.proofs.shared.leave.Goals as goal

pub returns-in_err-half : goal.returns-in_err-half
returns-in_err-half c =
    let l = c.args.ledger.now.history.ledger in
    let fits = c.next_number-number.ensures in
    let refused =
    leave_refused c.args.what c.args.home.now l c.args.step.stamp c.args.ledger.now.item_reserved c.next_number-number.result c.in_err-half.field-0.0
    (λ n is. subst (λ (r : Result ℕ Refusal). OnOk r (transit_refusal l ≡ None)) is fits.passes)
    (λ e is. subst (λ (r : Result ℕ Refusal). IfErr r (λ x. (transit_refusal l ≡ Some x) ⊎ ((transit_refusal l ≡ None) × (x ≡ NoMemory) × (c.args.ledger.now.item_reserved ≡ 0)))) is fits.refused) c.in_err-half.ensures.refusal in
    search rules

pub take_in-requires-clause-leaves : goal.take_in-requires-clause-leaves
take_in-requires-clause-leaves c = rw (c.event_of-event.ensures.stamp, c.event_of-event.ensures.home, c.event_of-event.ensures.kept) (leaving c.args.what _ _ c.args.home.now.site c.args.home.now.home _ _ _ (search rules) (search rules) (search rules) (search rules))
