use Rattle.std.proofs.Common.{rules, ◌≡◌, length, Err, arith, inl, slice_set}
use Rattle.std.proofs.lemmas.List.{length-set}
use Rattle.sq_base.specs.declared.refusal.Refusal.TheVariants.{NoMemory}
use Rattle.sq_history.specs.Acts.{call_of}
use Rattle.sq_steps.specs.Journals.{IsHomeRefused}
use Rattle.sq_merge.specs.inside.WorldSteps.{IsKnownTo}
use Rattle.sq_merge.proofs.StepLaws.{IsOpened, as_fields, opened_here, stepped_opened, closed_opened, refused_nowhere, refused_opened, refused_unmade}
use Rattle.sq_merge.proofs.WorldLaws.{kept_home}
use Rattle.sq_merge.proofs.world.World.home_step.Goals.{After-home_step, After-truncate}
use Rattle.sq_merge.proofs.world.World.home_step.Goals as goal

pub returns-in_default-clause-refusal : goal.returns-in_default-clause-refusal
returns-in_default-clause-refusal c =
    rw (← c.self.view_is) (refused_nowhere (as_fields c.self.view_is) c.args.actor c.args.now c.args.id.now c.no_such_home.result (λ h b. IsHomeRefused h b c.args.now (call_of c.args.act) c.no_such_home.result) c.self.invariant.kept.numbered c.home_index.ensures.homes (search rules) c.no_such_home.ensures)

pub returns-in_err-at-clause-refusal : goal.returns-in_err-at-clause-refusal
returns-in_err-at-clause-refusal c =
    let refused : c.from_residual.result ≡ Err c.in_err-at.field-0.0 = search rules in
    rw (refused, c.in_err-at.ensures.refused.0, ← c.self.view_is)
    (refused_unmade (as_fields c.self.view_is) c.args.actor c.args.now c.args.id.now c.in-Some.index (λ h b. IsHomeRefused h b c.args.now (call_of c.args.act) NoMemory) c.self.invariant.kept.numbered c.home_index.ensures.queue (search rules) c.in_err-at.ensures.refused.1 (λ h b unready. inl unready))

-- the home and what the actor has, as the step finds them
found : (c : After-home_step) → IsOpened (as_fields c.self.view_is) c.args.actor c.args.id.now c.in-Some.index c.index_mut-home.result.now c.index_mut-journal.result.now
found c =
    opened_here (as_fields c.self.view_is) _ _ _ _ _ c.self.invariant.kept.numbered c.home_index.ensures.queue (search rules) c.index_mut-home.ensures.value (rw (c.in_ok-at.ensures.opened, c.in_ok-at.ensures.index) at c.index_mut-journal.ensures.value)

pub invariant_of-self-in-Ok : goal.invariant_of-self-in-Ok
invariant_of-self-in-Ok c =
    let old = as_fields c.self.view_is in
    let known : IsKnownTo c.args.actor old c.args.name c.args.id.now.queue = rw (← c.self.view_is) at c.requires.known in
    record {
      kept = rw (c.in_ok-at.ensures.opened, c.in_ok-at.ensures.index)
          (kept_home old c.args.actor c.args.now c.args.name c.args.id.now c.args.act c.in-Ok.reply _ c.self.invariant.kept known
          (stepped_opened (found (goal.at.invariant_of-self-in-Ok c).After-home_step) c.args.now c.in-Ok.ensures.step));
      sample = c.self.invariant.sample;
      few = rw length-set c.self.invariant.few;
    }

pub returns-in-Ok-clause-stepped : goal.returns-in-Ok-clause-stepped
returns-in-Ok-clause-stepped c =
    rw (← c.self.view_is, c.in_ok-at.ensures.opened, c.in_ok-at.ensures.index)
    (stepped_opened (found (goal.at.returns-in-Ok-clause-stepped c).After-home_step) c.args.now c.in-Ok.ensures.step)

-- a step that was refused leaves the homes and the actors as they were
kept : (c : After-truncate) → IsOpened (as_fields c.self.view_is) c.args.actor c.args.id.now c.in-Some.index c.index_mut-home.result.now c.index_mut-journal.result.now
    → (slice_set c.self.inside.homes.items c.in-Some.index c.home_step.new.home ≡ c.self.inside.homes.items) × (c.truncate.new.self.items ≡ c.self.inside.journals.items)
kept c opened =
    let count : c.len-count.result ≡ length c.self.inside.journals.items = omega (arith, c.len-count.ensures, c.self.inside.journals.ok.0) in
    let same = closed_opened opened c.args.now c.in-Err.ensures.home_err c.in-Err.ensures.journal_err in
    (same.0, rw (c.truncate.ensures.items, count, c.in_ok-at.ensures.opened, c.in_ok-at.ensures.index) same.1)

pub invariant_of-self-in-Err : goal.invariant_of-self-in-Err
invariant_of-self-in-Err c =
    let step = goal.at.invariant_of-self-in-Err c in
    let same = kept step.After-truncate (found step.After-home_step) in
    rw (same.0, same.1) (record { kept = c.self.invariant.kept; sample = c.self.invariant.sample; few = c.self.invariant.few })

pub returns-in-Err-clause-refusal : goal.returns-in-Err-clause-refusal
returns-in-Err-clause-refusal c =
    rw (← c.self.view_is) (refused_opened (found (goal.at.returns-in-Err-clause-refusal c).After-home_step) c.args.now c.in-Err.refusal (λ h b. IsHomeRefused h b c.args.now (call_of c.args.act) c.in-Err.refusal) c.in-Err.ensures.refusal)

pub returns-in-Err-clause-err : goal.returns-in-Err-clause-err
returns-in-Err-clause-err c =
    let step = goal.at.returns-in-Err-clause-err c in
    let same = kept step.After-truncate (found step.After-home_step) in
    rw (same.0, same.1) c.self.view_is
