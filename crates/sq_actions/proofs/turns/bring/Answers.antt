use Rattle.std.proofs.Common.{rules, ◌≡◌, refl, inl, inr, None, Ok, Err}
use Rattle.sq_actions.specs.Asks.{Peeked}
use Rattle.sq_actions.specs.Turns.{peeking}
use Rattle.sq_actions.proofs.PathLaws.{answered_one, answered_records}
use Rattle.sq_actions.proofs.TurnLaws.{brought}
use Rattle.sq_actions.proofs.turns.bring.Goals as goal

pub returns-in_err-next-clause-answered : goal.returns-in_err-next-clause-answered
returns-in_err-next-clause-answered g c =
    let is : c.from_residual.result ≡ Err c.in_err-next.field-0.0 = search rules in
    answered_one _ _ _ _ _ _ (peeking c.args.tried.now (Err c.in_err-next.field-0.0)) refl c.in_err-next.ensures.did (inl (c.in_err-next.field-0.0, c.in_err-next.ensures.refusal, refl, is, refl))

pub returns-in_err-next-clause-leaves_records : goal.returns-in_err-next-clause-leaves_records
returns-in_err-next-clause-leaves_records g c = answered_records _ g.S.LockSteps.journal g.met.S.LockSteps.leaves _ _ _ _ (returns-in_err-next-clause-answered g c)

pub returns-in-None-clause-answered : goal.returns-in-None-clause-answered
returns-in-None-clause-answered g c =
    answered_one _ _ _ _ _ _ (peeking c.args.tried.now (Ok (Peeked None))) refl (rw c.in-None.is at c.in_ok-next.ensures.did) (inr (inl (refl, refl, refl)))

pub returns-in-None-clause-leaves_records : goal.returns-in-None-clause-leaves_records
returns-in-None-clause-leaves_records g c = answered_records _ g.S.LockSteps.journal g.met.S.LockSteps.leaves _ _ _ _ (returns-in-None-clause-answered g c)

pub returns-in-Some-clause-answered : goal.returns-in-Some-clause-answered
returns-in-Some-clause-answered g c =
    brought _ g.S.LockSteps.counts _ _ _ _ c.args.tried.now _ c.in-Some.next c.pick.result _ (rw c.in-Some.is at c.in_ok-next.ensures.did) c.peek.ensures.same_counts c.pick.ensures.unchanged c.pick.ensures.below (rw c.home_ahead-home.ensures at c.bring_to.ensures) c.get.ensures

pub returns-in-Some-clause-leaves_records : goal.returns-in-Some-clause-leaves_records
returns-in-Some-clause-leaves_records g c = answered_records _ g.S.LockSteps.journal g.met.S.LockSteps.leaves _ _ _ _ (returns-in-Some-clause-answered g c)
