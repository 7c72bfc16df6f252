use Rattle.std.proofs.Common.{rules, ◌≡◌, ◌∙◌, inl, inr, refl, Err}
use Rattle.sq_base.specs.declared.refusal.Refusal.TheVariants.{NoMemory}
use Rattle.sq_actions.specs.Entries.{PutAt, SendAt}
use Rattle.sq_actions.proofs.EntryLaws.{body_allowed, body_refused}
use Rattle.sq_actions.proofs.PathLaws.{answered_none, fits_as}
use Rattle.sq_actions.proofs.message.send.Goals as goal

pub returns-in_err-body-clause-did : goal.returns-in_err-body-clause-did
returns-in_err-body-clause-did g c =
    let is : c.from_residual.result ≡ Err c.in_err-body.field-0.0 = search rules in
    rw is (answered_none _ _ _ _ (body_refused _ _ _ c.args.body.now c.args.delay c.in_err-body.field-0.0 c.as_str.ensures.bounds (search rules)))

pub returns-in_err-sent-clause-did : goal.returns-in_err-sent-clause-did
returns-in_err-sent-clause-did g c =
    let is : c.from_residual-in_err-sent.result ≡ Err NoMemory = search rules in
    answered_none _ _ _ _ (c.as_str.ensures.bounds, inr (body_allowed c.args.body.now c.as_str.ensures.bounds (rw c.as_str.ensures.text at c.in_ok-body.ensures.checked), inl (refl, is)))

pub returns-clause-did : goal.returns-clause-did
returns-clause-did g c =
    let of = c.args.of.now in
    let homes = (g.S.LockSteps.counts c.args.steps.now).homes in
    let same : c.in_ok-body.body ≡ c.args.body.now = search rules in
    let body : c.in_ok-sent.sent ≡ c.args.body.now = c.in_ok-sent.ensures.body ∙ same in
    fits_as _ (SendAt homes of.name of.number c.args.body.now c.args.delay) (PutAt homes of.name of.number c.in_ok-sent.sent c.args.delay) _ _ _ c.put.ensures.did
    (λ ds fits. (c.as_str.ensures.bounds, inr (body_allowed c.args.body.now c.as_str.ensures.bounds (rw c.as_str.ensures.text at c.in_ok-body.ensures.checked), inr (rw body at fits))))
