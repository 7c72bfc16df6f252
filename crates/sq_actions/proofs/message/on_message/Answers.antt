use Rattle.std.proofs.Common.{rules, ◌≡◌, refl, inl, inr, Ok, Err}
use Rattle.sq_calls.specs.declared.batches.EntryAnswer.TheVariants.{Done}
use Rattle.sq_actions.specs.Calls.{receipt_of}
use Rattle.sq_actions.specs.Entries.{HandleAt}
use Rattle.sq_actions.specs.inside.Messages.{act_of}
use Rattle.sq_actions.specs.Steps.{home_step}
use Rattle.sq_actions.proofs.ClientLaws.{message_done}
use Rattle.sq_actions.proofs.PathLaws.{answered_none, answered_one}
use Rattle.sq_actions.proofs.message.on_message.Goals as goal

pub returns-in_err-handle-clause-did : goal.returns-in_err-handle-clause-did
returns-in_err-handle-clause-did g c =
    let lost = c.in_err-handle.ensures.lost in
    let is : c.from_residual.result ≡ Err c.in_err-handle.field-0.0 = search rules in
    answered_none _ _ _ _ (inl (rw c.homes.ensures at lost.0, refl, rw lost.1 at is))

pub returns-in_err-home_step-clause-did : goal.returns-in_err-home_step-clause-did
returns-in_err-home_step-clause-did g c =
    let of = c.args.of.now in
    let h = c.in_ok-handle.handle in
    let is : c.from_residual-in_err-home_step.result ≡ Err c.in_err-home_step.field-0.0 = search rules in
    answered_one _ (HandleAt (g.S.LockSteps.counts c.args.steps.now).homes of.name of.number c.args.handle.now (act_of c.args.what)) _ _ _ _ (home_step of.name of.number h.home (act_of c.args.what (receipt_of h)) (Err c.in_err-home_step.field-0.0)) refl
    (rw (c.act-act.ensures, c.found.ensures) at c.in_err-home_step.ensures.did)
    (inr (h, rw c.homes.ensures at c.in_ok-handle.ensures.found, inr (c.in_err-home_step.field-0.0, rw c.act-act.ensures at c.in_err-home_step.ensures.refusal, refl, is)))

pub returns-clause-did : goal.returns-clause-did
returns-clause-did g c =
    let of = c.args.of.now in
    let h = c.in_ok-handle.handle in
    let by = c.in_ok-home_step.field-0 in
    answered_one _ (HandleAt (g.S.LockSteps.counts c.args.steps.now).homes of.name of.number c.args.handle.now (act_of c.args.what)) _ _ _ _ (home_step of.name of.number h.home (act_of c.args.what (receipt_of h)) (Ok by)) refl
    (rw (c.act-act.ensures, c.found.ensures) at c.in_ok-home_step.ensures.did)
    (inr (h, rw c.homes.ensures at c.in_ok-handle.ensures.found, inl (by, Done, refl, (message_done c.args.what (receipt_of h) by (rw c.act-act.ensures at c.in_ok-home_step.ensures.reply), refl), refl)))
