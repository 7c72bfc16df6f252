use Rattle.std.proofs.Common.{rules}
use Rattle.sq_merge.specs.Openings.{new_world}
use Rattle.sq_model.specs.Options.{IsServed}
use Rattle.sq_merge.proofs.StepLaws.{kept_new, few_new}
use Rattle.sq_merge.proofs.world.World.new.Goals as goal

pub invariant_of-result : goal.invariant_of-result
unfolding new_world
invariant_of-result c =
    let served : IsServed c.args.options = search rules in
    record {
      kept = rw (c.in_ok-new.ensures.opening, c.of-per_queue.ensures, c.of.ensures, c.in_ok-never_opened_homes.ensures.homes, c.limits-limits.ensures, c.of-per_queue.ensures, c.new-2.ensures, c.new-3.ensures.items, c.new-4.ensures.items) (kept_new c.args.options);
      few = rw (c.in_ok-never_opened_homes.ensures.homes, c.limits-limits.ensures, c.of-per_queue.ensures) (few_new c.args.options served);
      sample = rw (c.of.ensures, c.of-per_queue.ensures) served.sample.1;
    }
