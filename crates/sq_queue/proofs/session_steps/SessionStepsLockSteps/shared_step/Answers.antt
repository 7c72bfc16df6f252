use Rattle.std.proofs.Common.{◌≡◌, refl, rules, subst}
use Rattle.sq_base.specs.declared.ids.HomeId.{HomeId}
use Rattle.sq_queue.specs.Around.{around}
use Rattle.sq_queue.specs.LockedParts.{AHome}
use Rattle.sq_queue.proofs.LockLaws.{refused_shared, moving_section}
use Rattle.sq_queue.proofs.session_steps.SessionStepsLockSteps.shared_step.Goals as goal

pub returns-clause-did : goal.returns-clause-did
returns-clause-did g c =
    let at = around g.C.Clock.tells g.G.Gate.saw c.args.self.now.service.now in
    let ledger = c.deref_mut.result.now in
    let part = c.deref_mut-2.result.now in
    let told = c.share-told in
    let same : c.deref_mut-2.result.now ≡ c.enter-part.result.value = search rules in
    let seen = subst (λ (id : HomeId). at.Saw (AHome id part.home)) c.in-Some.ensures.found (rw same c.enter-part.ensures) in (
      moving_section at c.now-now.result part.home told.new.part.home ledger.ledger.history told.new.self.ledger.history c.args.self.now.session.now told.new.session c.args.at.now.name part.id c.args.at.now.id c.args.what told.result c.now-now.ensures seen (search rules) part.own
          told.ensures.step told.ensures.at told.ensures.none told.ensures.none_session told.ensures.refusal told.ensures.session_err,
      refl,
      refl,
    )

pub returns-clause-refusal : goal.returns-clause-refusal
returns-clause-refusal g c =
    let ledger = c.deref_mut.result.now in
    let part = c.deref_mut-2.result.now in
    refused_shared part.id part.home ledger.ledger.history c.args.self.now.session.now.journal c.now-now.result c.args.at.now.name c.args.at.now.id c.args.what c.share-told.result c.share-told.ensures.refusal
