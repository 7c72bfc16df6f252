use Rattle.std.proofs.Common.{◌≡◌, refl, rules, subst}
use Rattle.sq_base.specs.declared.ids.HomeId.{HomeId}
use Rattle.sq_queue.specs.Around.{around}
use Rattle.sq_queue.specs.LockedParts.{AHome}
use Rattle.sq_queue.proofs.LockLaws.{answered_home, refused_home, home_section}
use Rattle.sq_queue.proofs.session_steps.SessionStepsLockSteps.home_step.Goals as goal

pub returns-clause-did : goal.returns-clause-did
returns-clause-did g c =
    let at = around g.C.Clock.tells g.G.Gate.saw c.args.self.now.service.now in
    let part = c.deref_mut.result.now in
    let told = c.step in
    let same : c.deref_mut.result.now ≡ c.enter-part.result.value = search rules in
    let seen = subst (λ (id : HomeId). at.Saw (AHome id part.home)) c.in-Some.ensures.found (rw same c.enter-part.ensures) in (
      home_section at c.now-now.result part.home told.new.self.home c.args.self.now.session.now told.new.session c.args.at.now.name part.id c.args.at.now.id c.args.act told.result c.now-now.ensures seen part.own
          told.ensures.step told.ensures.at told.ensures.refusal told.ensures.session_err,
      refl,
      refl,
    )

pub returns-clause-reply : goal.returns-clause-reply
returns-clause-reply g c = answered_home _ _ _ _ _ _ c.args.act c.step.result c.step.ensures.step

pub returns-clause-refusal : goal.returns-clause-refusal
returns-clause-refusal g c = refused_home c.deref_mut.result.now.id c.deref_mut.result.now.home c.args.self.now.session.now.journal c.now-now.result c.args.at.now.name c.args.at.now.id c.args.act c.step.result c.step.ensures.refusal
