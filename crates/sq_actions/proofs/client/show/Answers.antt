use Rattle.std.proofs.Common.{rules, ◌≡◌, ◌∙◌, ◌<◌, Err}
use Rattle.sq_actions.specs.Calls.{counted_homes}
use Rattle.sq_actions.proofs.ClientLaws.{more_counted, count_ended}
use Rattle.sq_actions.proofs.client.show.Goals as goal

pub returns-in_err-counts : goal.returns-in_err-counts
returns-in_err-counts g c =
    let is : c.from_residual.result ≡ Err c.in_err-counts.field-0.0 = search rules in
    let below : c.loop-home.home < counted_homes (g.S.LockSteps.counts c.args.steps.now).homes c.args.call.now.asked = rw (← c.homes.ensures, ← c.counted_homes-home-end.ensures.homes) c.loop-home-test.true in
    count_ended _ _ _ _ _ c.args.call.now c.args.attributes c.loop-home.home c.loop-home.sum c.in_err-counts.field-0.0 _ c.loop-home.invariant.asked below
    (rw (c.found.ensures, c.of.ensures) at c.in_err-counts.ensures.did) c.in_err-counts.ensures.refusal is

pub loop-home-preserved : goal.loop-home-preserved
loop-home-preserved g c = record {
  known = rw c.found.ensures at c.home_step.ensures.known;
  same = c.home_step.ensures.same_counts ∙ c.loop-home.invariant.same;
  asked = more_counted _ _ _ _ c.args.call.now.queue c.args.attributes.queue c.loop-home.home c.loop-home.sum c.counts_with-sum.result c.in-Counted.counts c.loop-home.invariant.asked
      (rw (c.found.ensures, c.of.ensures, c.in-Counted.is) at c.in_ok-counts.ensures.did) c.counts_with-sum.ensures.sum;
  few = c.counts_with-sum.ensures.few c.loop-home.home c.loop-home.invariant.few;
}
