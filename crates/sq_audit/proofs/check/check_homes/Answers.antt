use Rattle.std.proofs.Common.{rules, ◌≡◌, ◌<◌, ℕ, length, Err, subst, sym}
use Rattle.sq_audit.specs.HomeHistories.{home_history, histories_of}
use Rattle.sq_audit.specs.inside.EvidenceValue.{EvidenceValue}
use Rattle.sq_audit.specs.declared.check.Part.TheVariants.{Home}
use Rattle.sq_audit.specs.inside.Faults.{HomeFits, HasEventFault}
use Rattle.sq_model.proofs.ElementLaws.{below_more}
use Rattle.sq_audit.proofs.CheckLaws.{read_home, home_fits, home_wrong, all_homes}
use Rattle.sq_audit.proofs.check.check_homes.Goals as goal

pub returns-in_err-check_events-clause-fault : goal.returns-in_err-check_events-clause-fault
returns-in_err-check_events-clause-fault c =
    let homes = c.evidence.inside.homes.now in
    let home = c.index-homes-index.result in
    let lt : c.loop-index.index < length homes = search rules in
    let refused : c.from_residual.result ≡ Err c.in_err-check_events.field-0.0 = search rules in
    rw (refused, ← c.evidence.view_is) (home_wrong c.evidence.inside.per_queue homes c.evidence.invariant.numbered c.evidence.inside.directory.now.events c.evidence.inside.ledger.now.history.events c.evidence.inside.journals.now (rw (← c.evidence.view_is) at c.requires.fit)
    c.loop-index.index (home_history home) c.in_err-check_events.field-0.0 (read_home homes c.loop-index.index home lt c.index-homes-index.is)
    (subst (λ (v : EvidenceValue). HasEventFault v.per_queue v.journals (Home c.loop-index.index) home.events c.in_err-check_events.field-0.0) (sym c.evidence.view_is) (rw c.events.ensures.items at c.in_err-check_events.ensures.fault)))

pub loop-index-preserved : goal.loop-index-preserved
loop-index-preserved c =
    let homes = c.evidence.inside.homes.now in
    let home = c.index-homes-index.result in
    let lt : c.loop-index.index < length homes = search rules in
    rw (← c.evidence.view_is) (below_more (λ j. (k : ℕ) → HomeFits (histories_of homes) c.evidence.inside.journals.now j k) c.loop-index.index (rw (← c.evidence.view_is) at c.loop-index.invariant)
    (home_fits c.evidence.inside.per_queue homes c.evidence.invariant.numbered c.evidence.inside.directory.now.events c.evidence.inside.ledger.now.history.events c.evidence.inside.journals.now (rw (← c.evidence.view_is) at c.requires.fit)
    c.loop-index.index (home_history home) (read_home homes c.loop-index.index home lt c.index-homes-index.is) (rw (c.events.ensures.items, ← c.evidence.view_is) at c.in_ok-check_events.ensures.ok)))

pub returns-clause-ok : goal.returns-clause-ok
returns-clause-ok c = rw (← c.evidence.view_is) (all_homes c.evidence.inside.homes.now c.evidence.inside.journals.now (λ j lt. (rw (← c.evidence.view_is) at c.loop-index.invariant) j (let l : j < length c.evidence.inside.homes.now = lt in search rules)))
