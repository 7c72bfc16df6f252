use Rattle.std.proofs.Common.{rules, ◌≡◌, false, inr}
use Rattle.sq_actions.specs.Fits.{StartFits, StartsBetween}
use Rattle.sq_calls.specs.MoveTasks.{is_destination}
use Rattle.sq_actions.proofs.PathLaws.{fits_as}
use Rattle.sq_actions.proofs.client.start_task.Goals as goal

pub returns : goal.returns
returns g c =
    let other : is_destination c.args.call.now.source c.args.call.now.destination ≡ false = search rules in
    fits_as _ (StartFits c.args.call.now) (StartsBetween c.args.call.now) _ _ _ c.start_between.ensures (λ ds fits. inr (other, fits))
