use Rattle.std.proofs.Common.{rules, ◌≡◌}
use Rattle.sq_directory.proofs.queues.Queues.change.Goals as goal

pub returns-in-Set-Some-clause-step : goal.returns-in-Set-Some-clause-step
returns-in-Set-Some-clause-step c =
    let same : c.in-Set-Some.field-1-0 ≡ c.in-Set-Some.given = search rules in
    rw (c.in-Set-Some.is-0, same) (c.set.ensures.step c.args.moment)
