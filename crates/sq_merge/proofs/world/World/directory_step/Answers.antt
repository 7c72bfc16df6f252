use Rattle.std.proofs.Common.{rules, ◌≡◌, length, Err, arith, subst}
use Rattle.sq_model.specs.RecordValues.{Journal}
use Rattle.sq_steps.specs.Journals.{journal_of, IsDirectoryStepRefused}
use Rattle.sq_steps.proofs.JournalListLaws.{opened_is}
use Rattle.sq_merge.proofs.StepLaws.{as_fields, directory_opened, directory_unmade, closed_again}
use Rattle.sq_merge.proofs.WorldLaws.{kept_directory}
use Rattle.sq_merge.proofs.world.World.directory_step.Goals.{After-directory_step, After-truncate}
use Rattle.sq_merge.proofs.world.World.directory_step.Goals as goal

pub returns-in_err-at-clause-refusal : goal.returns-in_err-at-clause-refusal
returns-in_err-at-clause-refusal c =
    let refused : c.from_residual.result ≡ Err c.in_err-at.field-0.0 = search rules in
    rw (refused, c.in_err-at.ensures.refused.0, ← c.self.view_is) (directory_unmade (as_fields c.self.view_is) c.args.actor c.args.now c.args.call.now c.in_err-at.ensures.refused.1)

-- what the actor has, as the step finds it
mine : (c : After-directory_step) → c.index_mut-journal.result.now ≡ journal_of c.args.actor c.self.inside.journals.items
mine c = opened_is c.args.actor c.self.inside.journals.items c.index_mut-journal.result.now (rw (c.in_ok-at.ensures.opened, c.in_ok-at.ensures.index) at c.index_mut-journal.ensures.value)

pub invariant_of-self-in-Ok : goal.invariant_of-self-in-Ok
invariant_of-self-in-Ok c =
    let old = as_fields c.self.view_is in
    record {
      kept = rw (c.in_ok-at.ensures.opened, c.in_ok-at.ensures.index)
          (kept_directory old c.args.actor c.args.now c.args.call.now c.in-Ok.by _ c.self.invariant.kept
          (directory_opened old c.args.actor c.args.now c.args.call.now c.in-Ok.by c.directory_step.new.directory c.index_mut-journal.result.now c.directory_step.new.journal (mine (goal.at.invariant_of-self-in-Ok c).After-directory_step) c.in-Ok.ensures.step));
      sample = c.self.invariant.sample;
      few = c.self.invariant.few;
    }

pub returns-in-Ok-clause-stepped : goal.returns-in-Ok-clause-stepped
returns-in-Ok-clause-stepped c =
    rw (← c.self.view_is, c.in_ok-at.ensures.opened, c.in_ok-at.ensures.index)
    (directory_opened (as_fields c.self.view_is) c.args.actor c.args.now c.args.call.now c.in-Ok.by c.directory_step.new.directory c.index_mut-journal.result.now c.directory_step.new.journal (mine (goal.at.returns-in-Ok-clause-stepped c).After-directory_step) c.in-Ok.ensures.step)

-- a step that was refused leaves the actors as they were
front : (c : After-truncate) → c.index_mut-journal.result.now ≡ journal_of c.args.actor c.self.inside.journals.items → c.truncate.new.self.items ≡ c.self.inside.journals.items
front c own =
    let count : c.len-count.result ≡ length c.self.inside.journals.items = omega (arith, c.len-count.ensures, c.self.inside.journals.ok.0) in
    rw (c.truncate.ensures.items, count, c.in-Err.ensures.journal_err, c.in_ok-at.ensures.opened, c.in_ok-at.ensures.index) (closed_again c.args.actor c.self.inside.journals.items c.index_mut-journal.result.now own)

pub invariant_of-self-in-Err : goal.invariant_of-self-in-Err
invariant_of-self-in-Err c =
    let step = goal.at.invariant_of-self-in-Err c in
    rw (c.in-Err.ensures.directory_err, front step.After-truncate (mine step.After-directory_step)) (record { kept = c.self.invariant.kept; sample = c.self.invariant.sample; few = c.self.invariant.few })

pub returns-in-Err-clause-refusal : goal.returns-in-Err-clause-refusal
returns-in-Err-clause-refusal c =
    rw (← c.self.view_is)
    (subst (λ (b : Journal). IsDirectoryStepRefused c.self.inside.directory b c.args.now c.args.call.now c.in-Err.refusal) (mine (goal.at.returns-in-Err-clause-refusal c).After-directory_step) c.in-Err.ensures.refusal)

pub returns-in-Err-clause-err : goal.returns-in-Err-clause-err
returns-in-Err-clause-err c =
    let step = goal.at.returns-in-Err-clause-err c in
    rw (c.in-Err.ensures.directory_err, front step.After-truncate (mine step.After-directory_step)) c.self.view_is
