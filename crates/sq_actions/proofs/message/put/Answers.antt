use Rattle.std.proofs.Common.{rules, ◌≡◌, refl, inl, inr, Ok, Err}
use Rattle.sq_model.specs.declared.replies.HomeReply.TheVariants as reply
use Rattle.sq_history.specs.declared.act.HomeAct.TheVariants.{Send}
use Rattle.sq_calls.specs.declared.batches.EntryAnswer.TheVariants as answer
use Rattle.sq_actions.specs.Steps.{home_step}
use Rattle.sq_actions.proofs.PathLaws.{answered_one}
use Rattle.sq_actions.proofs.message.put.Goals as goal

pub returns-in_err-sent-clause-did : goal.returns-in_err-sent-clause-did
returns-in_err-sent-clause-did g c =
    let is : c.from_residual.result ≡ Err c.in_err-sent.field-0.0 = search rules in
    answered_one _ _ _ _ _ _ (home_step c.args.of.now.name c.args.of.now.number c.pick-home.result (Send c.args.body c.args.delay) (Err c.in_err-sent.field-0.0)) c.pick-home.ensures.unchanged (rw c.found.ensures at c.in_err-sent.ensures.did)
    (c.pick-home.result, c.pick-home.ensures.below, inr (c.in_err-sent.field-0.0, c.in_err-sent.ensures.refusal, refl, is))

pub returns-clause-did : goal.returns-clause-did
returns-clause-did g c =
    answered_one _ _ _ _ _ _ (home_step c.args.of.now.name c.args.of.now.number c.pick-home.result (Send c.args.body c.args.delay) (Ok (reply.Sent c.in-Sent.sent))) c.pick-home.ensures.unchanged (rw (← c.in-Sent.is) (rw c.found.ensures at c.in_ok-sent.ensures.did))
    (c.pick-home.result, c.pick-home.ensures.below, inl (reply.Sent c.in-Sent.sent, answer.Sent c.in-Sent.sent.id c.of-digest.result, refl, (c.in-Sent.sent, refl, rw (c.of-digest.ensures, c.body-text.ensures) refl), refl))
