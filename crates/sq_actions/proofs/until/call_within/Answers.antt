use Rattle.sq_actions.specs.Fits.{CallFits}
use Rattle.sq_actions.specs.inside.Stops.{LimitedStep}
use Rattle.sq_actions.proofs.PathLaws.{path_inside}
use Rattle.sq_actions.proofs.StopPaths.{until_fits}
use Rattle.sq_actions.proofs.until.call_within.Goals as goal

pub returns : goal.returns
returns g c =
    let told = c.call-answered.ensures.answered in
    let inside = path_inside _ (λ n. LimitedStep g.S.LockSteps.stepped) (λ u. record { steps = u.steps.now; left = u.left; stopped = u.stopped }) (λ u. u.steps.ghost_name) (λ s t ask gave h. h) _ _ told.trace told.path in
    record {
      same_reference = inside.1;
      answered = until_fits g.S.LockSteps.stepped (CallFits (g.S.LockSteps.counts c.args.limited.now.steps.now) c.args.call.now) _ _ told.trace c.call-answered.result c.told_until.result c.requires c.told_until.ensures inside.0 told.fits;
    }
