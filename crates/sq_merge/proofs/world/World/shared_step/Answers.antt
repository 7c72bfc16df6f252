use Rattle.std.proofs.Common.{rules, ◌≡◌, length, Err, arith, inl, slice_set, take}
use Rattle.std.proofs.lemmas.List.{length-set}
use Rattle.sq_base.specs.declared.refusal.Refusal.TheVariants.{NoMemory}
use Rattle.sq_steps.specs.Journals.{index_in, opened}
use Rattle.sq_steps.specs.SharedSteps.{IsSharedRefused}
use Rattle.sq_merge.specs.inside.WorldSteps.{IsKnownTo}
use Rattle.sq_merge.proofs.StepLaws.{IsOpened, as_fields, opened_here, shared_opened, nothing_opened, closed_opened, refused_nowhere, refused_opened, refused_unmade}
use Rattle.sq_merge.proofs.WorldLaws.{kept_shared}
use Rattle.sq_merge.proofs.world.World.shared_step.Goals.{After-shared_step}
use Rattle.sq_merge.proofs.world.World.shared_step.Goals as goal

pub returns-in_default-clause-refusal : goal.returns-in_default-clause-refusal
returns-in_default-clause-refusal c =
    rw (← c.self.view_is) (refused_nowhere (as_fields c.self.view_is) c.args.actor c.args.now c.args.id.now c.no_such_home.result (λ h b. IsSharedRefused h c.self.inside.ledger.history b c.args.now c.args.act c.no_such_home.result) c.self.invariant.kept.numbered c.home_index.ensures.homes (search rules) c.no_such_home.ensures)

pub returns-in_err-at-clause-refusal : goal.returns-in_err-at-clause-refusal
returns-in_err-at-clause-refusal c =
    let refused : c.from_residual.result ≡ Err c.in_err-at.field-0.0 = search rules in
    rw (refused, c.in_err-at.ensures.refused.0, ← c.self.view_is)
    (refused_unmade (as_fields c.self.view_is) c.args.actor c.args.now c.args.id.now c.in-Some.index (λ h b. IsSharedRefused h c.self.inside.ledger.history b c.args.now c.args.act NoMemory) c.self.invariant.kept.numbered c.home_index.ensures.queue (search rules) c.in_err-at.ensures.refused.1 (λ h b unready. inl unready))

-- the home and what the actor has, as the step finds them
found : (c : After-shared_step) → IsOpened (as_fields c.self.view_is) c.args.actor c.args.id.now c.in-Some.index c.index_mut-home.result.now c.index_mut-journal.result.now
found c =
    opened_here (as_fields c.self.view_is) _ _ _ _ _ c.self.invariant.kept.numbered c.home_index.ensures.queue (search rules) c.index_mut-home.ensures.value (rw (c.in_ok-at.ensures.opened, c.in_ok-at.ensures.index) at c.index_mut-journal.ensures.value)

pub invariant_of-self-in-Ok-Some : goal.invariant_of-self-in-Ok-Some
invariant_of-self-in-Ok-Some c =
    let old = as_fields c.self.view_is in
    let known : IsKnownTo c.args.actor old c.args.name c.args.id.now.queue = rw (← c.self.view_is) at c.requires.known in
    record {
      kept = rw (c.in_ok-at.ensures.opened, c.in_ok-at.ensures.index)
          (kept_shared old c.args.actor c.args.now c.args.name c.args.id.now c.args.act c.in-Ok-Some.reply _ c.self.invariant.kept known
          (shared_opened (found (goal.at.invariant_of-self-in-Ok-Some c).After-shared_step) c.args.now (rw c.in-Ok-Some.field-0-is at c.in-Ok-Some.ensures.step)));
      sample = c.self.invariant.sample;
      few = rw length-set c.self.invariant.few;
    }

pub returns-in-Ok-Some-clause-stepped : goal.returns-in-Ok-Some-clause-stepped
returns-in-Ok-Some-clause-stepped c =
    rw (← c.self.view_is, c.in_ok-at.ensures.opened, c.in_ok-at.ensures.index)
    (shared_opened (found (goal.at.returns-in-Ok-Some-clause-stepped c).After-shared_step) c.args.now (rw c.in-Ok-Some.field-0-is at c.in-Ok-Some.ensures.step))

-- a step that was refused, or where nothing leaves, leaves the homes and the actors as they were
kept : (c : After-shared_step) → c.shared_step.new.home ≡ c.index_mut-home.result.now → c.shared_step.new.journal ≡ c.index_mut-journal.result.now
    → (slice_set c.self.inside.homes.items c.in-Some.index c.shared_step.new.home ≡ c.self.inside.homes.items)
    × (take c.len-count.result (slice_set (opened c.args.actor c.self.inside.journals.items) (index_in c.args.actor c.self.inside.journals.items) c.shared_step.new.journal) ≡ c.self.inside.journals.items)
kept c same_home same_journal =
    let count : c.len-count.result ≡ length c.self.inside.journals.items = omega (arith, c.len-count.ensures, c.self.inside.journals.ok.0) in
    rw count (closed_opened (found c) c.args.now same_home same_journal)

pub invariant_of-self-in-Ok-None : goal.invariant_of-self-in-Ok-None
invariant_of-self-in-Ok-None c =
    let none = c.in-Ok-None.ensures in
    let same = kept (goal.at.invariant_of-self-in-Ok-None c).After-shared_step (rw c.in-Ok-None.field-0-is at none.none_home) (rw c.in-Ok-None.field-0-is at none.none_journal) in
    let ledger : c.shared_step.new.ledger.history ≡ c.self.inside.ledger.history = rw c.in-Ok-None.field-0-is at none.none_ledger in
    rw (same.0, c.truncate.ensures.items, c.in_ok-at.ensures.opened, c.in_ok-at.ensures.index, same.1, ledger) (record { kept = c.self.invariant.kept; sample = c.self.invariant.sample; few = c.self.invariant.few })

pub returns-in-Ok-None-clause-none : goal.returns-in-Ok-None-clause-none
returns-in-Ok-None-clause-none c =
    let step = (goal.at.returns-in-Ok-None-clause-none c).After-shared_step in
    let none = c.in-Ok-None.ensures in
    let same = kept step (rw c.in-Ok-None.field-0-is at none.none_home) (rw c.in-Ok-None.field-0-is at none.none_journal) in
    let ledger : c.shared_step.new.ledger.history ≡ c.self.inside.ledger.history = rw c.in-Ok-None.field-0-is at none.none_ledger in
    rw (← c.self.view_is, same.0, c.truncate.ensures.items, c.in_ok-at.ensures.opened, c.in_ok-at.ensures.index, same.1, ledger) (nothing_opened (found step) c.args.now c.args.act (rw c.in-Ok-None.field-0-is at none.none))

pub invariant_of-self-in-Err : goal.invariant_of-self-in-Err
invariant_of-self-in-Err c =
    let same = kept (goal.at.invariant_of-self-in-Err c).After-shared_step c.in-Err.ensures.home_err c.in-Err.ensures.journal_err in
    rw (same.0, c.truncate-in-Err.ensures.items, c.in_ok-at.ensures.opened, c.in_ok-at.ensures.index, same.1, c.in-Err.ensures.ledger_err) (record { kept = c.self.invariant.kept; sample = c.self.invariant.sample; few = c.self.invariant.few })

pub returns-in-Err-clause-refusal : goal.returns-in-Err-clause-refusal
returns-in-Err-clause-refusal c =
    rw (← c.self.view_is) (refused_opened (found (goal.at.returns-in-Err-clause-refusal c).After-shared_step) c.args.now c.in-Err.refusal (λ h b. IsSharedRefused h c.self.inside.ledger.history b c.args.now c.args.act c.in-Err.refusal) c.in-Err.ensures.refusal)

pub returns-in-Err-clause-err : goal.returns-in-Err-clause-err
returns-in-Err-clause-err c =
    let same = kept (goal.at.returns-in-Err-clause-err c).After-shared_step c.in-Err.ensures.home_err c.in-Err.ensures.journal_err in
    rw (same.0, c.truncate-in-Err.ensures.items, c.in_ok-at.ensures.opened, c.in_ok-at.ensures.index, same.1, c.in-Err.ensures.ledger_err) c.self.view_is
