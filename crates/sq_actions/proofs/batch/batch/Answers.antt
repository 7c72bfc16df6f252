use Rattle.std.proofs.Common.{ℕ, List, rules, subst}
use Rattle.sq_actions.specs.Entries.{BatchAt}
use Rattle.sq_actions.specs.Fits.{ByName}
use Rattle.sq_actions.specs.Performs.{Performs}
use Rattle.sq_actions.proofs.ClientLaws.{answered_found, answered_lost}
use Rattle.sq_actions.proofs.batch.batch.Goals as goal

pub returns-in_err-of : goal.returns-in_err-of
returns-in_err-of g c = rw (← c.queue.ensures) (answered_lost _ _ _ _ _ _ _ c.in_err-of.ensures.refusal c.in_err-of.ensures.did (search rules))

pub returns : goal.returns
returns g c =
    subst (λ (name : List ℕ). Performs g.S.LockSteps.stepped (ByName name (BatchAt (g.S.LockSteps.counts c.args.steps.now).homes c.args.batch.now)) c.args.steps.now c.do_entries.result c.do_entries.new.steps) c.queue.ensures
    (answered_found _ g.S.LockSteps.counts (λ n. BatchAt n.homes c.args.batch.now) _ _ _ _ _ _ _ c.in_ok-of.ensures.did c.resolve.ensures.same_counts c.do_entries.ensures (λ ds fits. fits))
