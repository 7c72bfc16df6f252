use Rattle.std.proofs.Common.{rules, refl}
use Rattle.sq_actions.proofs.ClientLaws.{answered_refused, answered_told}
use Rattle.sq_actions.proofs.client.get_url.Goals as goal

pub returns-in_err-directory_step : goal.returns-in_err-directory_step
returns-in_err-directory_step g c = answered_refused _ _ _ _ _ _ _ (search rules) c.in_err-directory_step.ensures.refusal c.in_err-directory_step.ensures.did

pub returns : goal.returns
returns g c = answered_told _ _ _ _ _ _ _ (rw c.in-Found.is at c.in_ok-directory_step.ensures.did) (rw c.in-Found.is at c.in_ok-directory_step.ensures.reply) (refl, refl)
