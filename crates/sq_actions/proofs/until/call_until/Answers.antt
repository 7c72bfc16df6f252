use Rattle.std.proofs.Common.{rules}
use Rattle.sq_actions.specs.Performs.{Performs}
use Rattle.sq_actions.specs.Fits.{CallFits}
use Rattle.sq_actions.specs.Stops.{UntilFits}
use Rattle.sq_actions.proofs.PathLaws.{answered_records}
use Rattle.sq_actions.proofs.until.call_until.Goals as goal

pub returns-clause-leaves_records : goal.returns-clause-leaves_records
returns-clause-leaves_records g c =
    let fits = UntilFits c.args.limit (CallFits (g.S.LockSteps.counts c.args.steps.now) c.args.call.now) in
    let done : Performs g.S.LockSteps.stepped fits c.args.steps.now c.call_within.result c.steps-1.given.0 = search rules in
    answered_records _ g.S.LockSteps.journal g.met.S.LockSteps.leaves fits _ _ _ done
