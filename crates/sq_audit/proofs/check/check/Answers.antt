use Rattle.sq_audit.specs.HomeHistories.{histories_of}
use Rattle.sq_audit.proofs.CheckLaws.{fits_match, wrong_refutes}
use Rattle.sq_audit.proofs.check.check.Goals as goal

pub returns-in_err-check_journals-clause-honest : goal.returns-in_err-check_journals-clause-honest
returns-in_err-check_journals-clause-honest c = rw (← c.evidence.view_is) (λ m p. absurd (wrong_refutes c.evidence.inside.per_queue c.evidence.inside.homes.now c.evidence.invariant.numbered c.evidence.inside.directory.now.events c.evidence.inside.ledger.now.history.events c.evidence.inside.journals.now m p c.in_err-check_journals.field-0.0 (rw (← c.evidence.view_is) at c.in_err-check_journals.ensures.fault)))

pub returns-in_err-check_directory-clause-honest : goal.returns-in_err-check_directory-clause-honest
returns-in_err-check_directory-clause-honest c = rw (← c.evidence.view_is) (λ m p. absurd (wrong_refutes c.evidence.inside.per_queue c.evidence.inside.homes.now c.evidence.invariant.numbered c.evidence.inside.directory.now.events c.evidence.inside.ledger.now.history.events c.evidence.inside.journals.now m p c.in_err-check_directory.field-0.0 (rw (← c.evidence.view_is) at c.in_err-check_directory.ensures.fault)))

pub returns-in_err-check_ledger-clause-honest : goal.returns-in_err-check_ledger-clause-honest
returns-in_err-check_ledger-clause-honest c = rw (← c.evidence.view_is) (λ m p. absurd (wrong_refutes c.evidence.inside.per_queue c.evidence.inside.homes.now c.evidence.invariant.numbered c.evidence.inside.directory.now.events c.evidence.inside.ledger.now.history.events c.evidence.inside.journals.now m p c.in_err-check_ledger.field-0.0 (rw (← c.evidence.view_is) at c.in_err-check_ledger.ensures.fault)))

pub returns-in_err-check_homes-clause-honest : goal.returns-in_err-check_homes-clause-honest
returns-in_err-check_homes-clause-honest c = rw (← c.evidence.view_is) (λ m p. absurd (wrong_refutes c.evidence.inside.per_queue c.evidence.inside.homes.now c.evidence.invariant.numbered c.evidence.inside.directory.now.events c.evidence.inside.ledger.now.history.events c.evidence.inside.journals.now m p c.in_err-check_homes.field-0.0 (rw (← c.evidence.view_is) at c.in_err-check_homes.ensures.fault)))

pub returns-in_err-check_shared-clause-honest : goal.returns-in_err-check_shared-clause-honest
returns-in_err-check_shared-clause-honest c = rw (← c.evidence.view_is) (λ m p. absurd (wrong_refutes c.evidence.inside.per_queue c.evidence.inside.homes.now c.evidence.invariant.numbered c.evidence.inside.directory.now.events c.evidence.inside.ledger.now.history.events c.evidence.inside.journals.now m p c.in_err-check_shared.field-0.0 (rw (← c.evidence.view_is) at c.in_err-check_shared.ensures.fault)))

pub returns-clause-ok : goal.returns-clause-ok
returns-clause-ok c = rw (← c.evidence.view_is) (fits_match c.evidence.inside.directory.now.events c.evidence.inside.ledger.now.history.events (histories_of c.evidence.inside.homes.now) c.evidence.inside.journals.now c.evidence.invariant.distinct (rw (← c.evidence.view_is) at c.in_ok-check_journals.ensures.ok) (rw (← c.evidence.view_is) at c.in_ok-check_directory.ensures.ok) (rw (← c.evidence.view_is) at c.in_ok-check_ledger.ensures.records) (rw (← c.evidence.view_is) at c.in_ok-check_homes.ensures.ok))

pub returns-clause-paired : goal.returns-clause-paired
returns-clause-paired c = record { in_ledger = c.in_ok-check_shared.ensures.ok; in_home = c.in_ok-check_ledger.ensures.partners }
