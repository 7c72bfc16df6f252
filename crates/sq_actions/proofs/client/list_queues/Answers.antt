use Rattle.std.proofs.Common.{rules, refl}
use Rattle.sq_actions.proofs.ClientLaws.{answered_refused, answered_told}
use Rattle.sq_actions.proofs.client.list_queues.Goals as goal

pub returns-in_err-names : goal.returns-in_err-names
returns-in_err-names g c = answered_refused _ _ _ _ _ _ _ (search rules) c.in_err-names.ensures.refusal c.in_err-names.ensures.did

pub returns : goal.returns
returns g c = answered_told _ _ _ _ _ _ _ (rw c.in-Listed.is at c.in_ok-names.ensures.did) (rw c.in-Listed.is at c.in_ok-names.ensures.reply) (refl, refl)
