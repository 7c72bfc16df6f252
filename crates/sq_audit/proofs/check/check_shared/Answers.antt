use Rattle.std.proofs.Common.{rules, ◌≡◌, ◌<◌, ℕ, length, Err, Some, slice_get}
use Rattle.sq_audit.specs.HomeHistories.{home_history, histories_of}
use Rattle.sq_audit.specs.inside.Faults.{LedgerHas}
use Rattle.sq_model.proofs.ElementLaws.{below_more}
use Rattle.sq_audit.proofs.CheckLaws.{all_partners, ledger_has, ledger_lacks, read_home}
use Rattle.sq_audit.proofs.check.check_shared.Goals.{After-events}
use Rattle.sq_audit.proofs.check.check_shared.Goals as goal

-- the home at the index
in_homes : (c : After-events) → slice_get (histories_of c.evidence.inside.homes.now) c.loop-index.index ≡ Some (home_history c.index-homes-index.result)
in_homes c =
    let lt : c.loop-index.index < length c.evidence.inside.homes.now = search rules in
    read_home c.evidence.inside.homes.now c.loop-index.index c.index-homes-index.result lt c.index-homes-index.is

pub returns-in_err-check_partners-clause-fault : goal.returns-in_err-check_partners-clause-fault
returns-in_err-check_partners-clause-fault c =
    let fault = c.in_err-check_partners.ensures.fault in
    let refused : c.from_residual.result ≡ Err c.in_err-check_partners.field-0.0 = search rules in
    rw (refused, ← c.evidence.view_is) (ledger_lacks c.evidence.inside.ledger.now.history.events c.evidence.inside.homes.now c.loop-index.index c.index-homes-index.result (in_homes (goal.at.returns-in_err-check_partners-clause-fault c).After-events) c.events.ensures.kept
    fault.0 fault.1 (rw c.events.ensures.items at fault.2) c.evidence.inside.directory.now.events c.evidence.inside.journals.now c.in_err-check_partners.field-0.0 fault.3)

pub loop-index-preserved : goal.loop-index-preserved
loop-index-preserved c =
    let homes = c.evidence.inside.homes.now in
    rw (← c.evidence.view_is) (below_more (λ j. (k : ℕ) → LedgerHas c.evidence.inside.ledger.now.history.events (histories_of homes) j k) c.loop-index.index (rw (← c.evidence.view_is) at c.loop-index.invariant)
    (ledger_has c.evidence.inside.ledger.now.history.events homes c.loop-index.index c.index-homes-index.result (in_homes (goal.at.loop-index-preserved c).After-events) c.events.ensures.kept (rw c.events.ensures.items at c.in_ok-check_partners.ensures.ok)))

pub returns-clause-ok : goal.returns-clause-ok
returns-clause-ok c = rw (← c.evidence.view_is) (all_partners c.evidence.inside.ledger.now.history.events c.evidence.inside.homes.now (λ j lt. (rw (← c.evidence.view_is) at c.loop-index.invariant) j (let l : j < length c.evidence.inside.homes.now = lt in search rules)))
