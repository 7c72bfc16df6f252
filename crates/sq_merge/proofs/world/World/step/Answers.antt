use Rattle.std.proofs.Common.{rules, ◌≡◌, length, None, Some, Err, inl, inr}
use Rattle.sq_history.specs.HomeIds.{home_index}
use Rattle.sq_history.specs.Acts.{call_of}
use Rattle.sq_steps.specs.Journals.{IsHomeRefused}
use Rattle.sq_merge.proofs.StepLaws.{as_fields, home_there, refused_nowhere}
use Rattle.sq_merge.proofs.world.World.step.Goals as goal

pub returns-in_default-clause-refusal : goal.returns-in_default-clause-refusal
returns-in_default-clause-refusal c =
    let old = as_fields c.self.view_is in
    let none : home_index old.per_queue (length old.homes) c.in-Home.id ≡ None = search rules in
    rw (c.in-Home.is, ← c.self.view_is)
    (inr (refused_nowhere old c.args.step.now.actor c.args.step.now.clock c.in-Home.id c.no_such_home.result (λ h b. IsHomeRefused h b c.args.step.now.clock (call_of c.in-Home.act) c.no_such_home.result) c.self.invariant.kept.numbered c.home_index.ensures.homes none c.no_such_home.ensures))

pub returns-in_err-act-in-Home-clause-refusal : goal.returns-in_err-act-in-Home-clause-refusal
returns-in_err-act-in-Home-clause-refusal c =
    let old = as_fields c.self.view_is in
    let place : home_index old.per_queue (length old.homes) c.in-Home.id ≡ Some c.in-Some.field-0 = search rules in
    let refused : c.from_residual-in_err-act-in-Home.result ≡ Err c.in_err-act-in-Home.field-0.0 = search rules in
    rw (refused, c.in-Home.is, ← c.self.view_is)
    (inl (c.in_err-act-in-Home.ensures.refused.0, (c.in_err-act-in-Home.ensures.refused.1, home_there old c.in-Home.id c.in-Some.field-0 c.self.invariant.kept.numbered c.home_index.ensures.queue place)))

pub returns-in_err-reply-in-Shared-clause-refusal : goal.returns-in_err-reply-in-Shared-clause-refusal
returns-in_err-reply-in-Shared-clause-refusal c =
    let refused : c.from_residual-in_err-reply-in-Shared.result ≡ Err c.in_err-reply-in-Shared.field-0.0 = search rules in
    rw (refused, c.in-Shared.is) c.in_err-reply-in-Shared.ensures.refusal
