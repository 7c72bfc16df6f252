use Rattle.std.proofs.Common.{rules, ◌≡◌, refl, inl, Err}
use Rattle.sq_actions.specs.Asks.{moved_of}
use Rattle.sq_actions.specs.Steps.{named}
use Rattle.sq_actions.proofs.PathLaws.{answered_one, answered_records}
use Rattle.sq_actions.proofs.TurnLaws.{left_from}
use Rattle.sq_actions.proofs.turns.leave.Goals as goal

pub returns-in_err-of-clause-answered : goal.returns-in_err-of-clause-answered
returns-in_err-of-clause-answered g c =
    let is : c.from_residual.result ≡ Err c.in_err-of.field-0.0 = search rules in
    answered_one _ _ _ _ _ _ (named c.args.name.now (Err c.in_err-of.field-0.0)) refl c.in_err-of.ensures.did (inl (c.in_err-of.field-0.0, c.in_err-of.ensures.refusal, refl, is))

pub returns-in_err-of-clause-leaves_records : goal.returns-in_err-of-clause-leaves_records
returns-in_err-of-clause-leaves_records g c = answered_records _ g.S.LockSteps.journal g.met.S.LockSteps.leaves _ _ _ _ (returns-in_err-of-clause-answered g c)

pub returns-clause-answered : goal.returns-clause-answered
returns-clause-answered g c =
    left_from _ g.S.LockSteps.counts _ _ _ _ _ _ _ c.pick.result (moved_of c.shared_step-answered.result) _ c.in_ok-of.ensures.did c.resolve.ensures.same_counts c.pick.ensures.unchanged c.pick.ensures.below c.in_ok-of.ensures.named (rw c.found-home.ensures at c.shared_step-answered.ensures.did) c.word_for.ensures

pub returns-clause-leaves_records : goal.returns-clause-leaves_records
returns-clause-leaves_records g c = answered_records _ g.S.LockSteps.journal g.met.S.LockSteps.leaves _ _ _ _ (returns-clause-answered g c)
