use Rattle.std.proofs.Common.{rules, ◌≡◌, length, Err, arith, subst}
use Rattle.sq_model.specs.RecordValues.{Journal}
use Rattle.sq_steps.specs.TaskActs.{task_call}
use Rattle.sq_steps.specs.Journals.{journal_of, IsLedgerStepRefused}
use Rattle.sq_steps.proofs.JournalListLaws.{opened_is}
use Rattle.sq_merge.proofs.StepLaws.{as_fields, ledger_opened, ledger_unmade, closed_again}
use Rattle.sq_merge.proofs.WorldLaws.{kept_ledger}
use Rattle.sq_merge.proofs.world.World.ledger_step.Goals.{After-ledger_step, After-truncate}
use Rattle.sq_merge.proofs.world.World.ledger_step.Goals as goal

pub returns-in_err-at-clause-refusal : goal.returns-in_err-at-clause-refusal
returns-in_err-at-clause-refusal c =
    let refused : c.from_residual.result ≡ Err c.in_err-at.field-0.0 = search rules in
    rw (refused, c.in_err-at.ensures.refused.0, ← c.self.view_is) (ledger_unmade (as_fields c.self.view_is) c.args.actor c.args.now c.args.act.now c.in_err-at.ensures.refused.1)

-- what the actor has, as the step finds it
mine : (c : After-ledger_step) → c.index_mut-journal.result.now ≡ journal_of c.args.actor c.self.inside.journals.items
mine c = opened_is c.args.actor c.self.inside.journals.items c.index_mut-journal.result.now (rw (c.in_ok-at.ensures.opened, c.in_ok-at.ensures.index) at c.index_mut-journal.ensures.value)

pub invariant_of-self-in-Ok : goal.invariant_of-self-in-Ok
invariant_of-self-in-Ok c =
    let old = as_fields c.self.view_is in
    record {
      kept = rw (c.in_ok-at.ensures.opened, c.in_ok-at.ensures.index)
          (kept_ledger old c.args.actor c.args.now c.args.act.now c.in-Ok.told _ c.self.invariant.kept
          (ledger_opened old c.args.actor c.args.now c.args.act.now c.in-Ok.told c.ledger_step.new.ledger.history c.index_mut-journal.result.now c.ledger_step.new.journal (mine (goal.at.invariant_of-self-in-Ok c).After-ledger_step) c.in-Ok.ensures.step));
      sample = c.self.invariant.sample;
      few = c.self.invariant.few;
    }

pub returns-in-Ok-clause-stepped : goal.returns-in-Ok-clause-stepped
returns-in-Ok-clause-stepped c =
    rw (← c.self.view_is, c.in_ok-at.ensures.opened, c.in_ok-at.ensures.index)
    (ledger_opened (as_fields c.self.view_is) c.args.actor c.args.now c.args.act.now c.in-Ok.told c.ledger_step.new.ledger.history c.index_mut-journal.result.now c.ledger_step.new.journal (mine (goal.at.returns-in-Ok-clause-stepped c).After-ledger_step) c.in-Ok.ensures.step)

-- a step that was refused leaves the actors as they were
front : (c : After-truncate) → c.index_mut-journal.result.now ≡ journal_of c.args.actor c.self.inside.journals.items → c.truncate.new.self.items ≡ c.self.inside.journals.items
front c own =
    let count : c.len-count.result ≡ length c.self.inside.journals.items = omega (arith, c.len-count.ensures, c.self.inside.journals.ok.0) in
    rw (c.truncate.ensures.items, count, c.in-Err.ensures.journal_err, c.in_ok-at.ensures.opened, c.in_ok-at.ensures.index) (closed_again c.args.actor c.self.inside.journals.items c.index_mut-journal.result.now own)

pub invariant_of-self-in-Err : goal.invariant_of-self-in-Err
invariant_of-self-in-Err c =
    let step = goal.at.invariant_of-self-in-Err c in
    rw (c.in-Err.ensures.ledger_err, front step.After-truncate (mine step.After-ledger_step)) (record { kept = c.self.invariant.kept; sample = c.self.invariant.sample; few = c.self.invariant.few })

pub returns-in-Err-clause-refusal : goal.returns-in-Err-clause-refusal
returns-in-Err-clause-refusal c =
    rw (← c.self.view_is)
    (subst (λ (b : Journal). IsLedgerStepRefused c.self.inside.ledger.history b c.args.now (task_call c.args.act.now) c.in-Err.refusal) (mine (goal.at.returns-in-Err-clause-refusal c).After-ledger_step) c.in-Err.ensures.refusal)

pub returns-in-Err-clause-err : goal.returns-in-Err-clause-err
returns-in-Err-clause-err c =
    let step = goal.at.returns-in-Err-clause-err c in
    rw (c.in-Err.ensures.ledger_err, front step.After-truncate (mine step.After-ledger_step)) c.self.view_is
