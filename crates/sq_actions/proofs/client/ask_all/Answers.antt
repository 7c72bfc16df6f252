use Rattle.std.proofs.Common.{arith, rules, ◌≡◌, ◌∙◌, ◌<◌, Err}
use Rattle.sq_actions.specs.inside.Messages.{act_at_each}
use Rattle.sq_actions.proofs.ClientLaws.{more_passed, all_ended, all_passed, each_ends, passed_done}
use Rattle.sq_actions.proofs.client.ask_all.Goals as goal

pub returns-in_err-pass_closed : goal.returns-in_err-pass_closed
returns-in_err-pass_closed g c =
    let is : c.from_residual.result ≡ Err c.in_err-pass_closed.field-0.0 = search rules in
    let refused = c.in_err-pass_closed.ensures.refused in
    let below : c.loop-home.home < (g.S.LockSteps.counts c.args.steps.now).homes = rw (← c.homes.ensures, ← c.get-home-end.ensures.value) c.loop-home-test.true in
    all_ended _ _ _ _ _ _ _ _ _ c.loop-home.home c.in_err-pass_closed.field-0.0 _ c.loop-home.invariant.asked below (rw (c.act.ensures, c.found-at.ensures, c.of.ensures, refused.0) at c.home_step.ensures.did)
    (each_ends c.args.name.now c.args.number c.loop-home.home c.args.each c.in_err-pass_closed.field-0.0 (rw (c.act.ensures, c.found-at.ensures, c.of.ensures, refused.0) at c.home_step.ensures.refusal) refused.1) is

pub loop-home-preserved : goal.loop-home-preserved
loop-home-preserved g c = record {
  known = rw c.found-at.ensures at c.home_step.ensures.known;
  same = c.home_step.ensures.same_counts ∙ c.loop-home.invariant.same;
  same_answer = c.loop-home.invariant.same_answer;
  asked = more_passed _ _ _ _ c.args.name.now c.args.number (act_at_each c.args.each) c.loop-home.home c.home_step.result c.loop-home.invariant.asked (rw (c.act.ensures, c.found-at.ensures, c.of.ensures) at c.home_step.ensures.did) (passed_done c.args.each c.home_step.result (rw c.act.ensures at c.home_step.ensures.reply) c.in_ok-pass_closed.ensures.passed);
}

pub returns : goal.returns
returns g c =
    let end : c.loop-home.home ≡ c.get-home-end.result = omega (arith, c.loop-home-test.false, c.loop-home.auto.home-end) in
    let all : c.loop-home.home ≡ (g.S.LockSteps.counts c.args.steps.now).homes = end ∙ c.get-home-end.ensures.value ∙ c.homes.ensures in
    rw c.loop-home.invariant.same_answer (all_passed _ _ _ _ c.args.name.now c.args.number (act_at_each c.args.each) c.args.answer c.loop-home.home c.loop-home.invariant.asked all)
