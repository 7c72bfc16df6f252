use Rattle.std.proofs.lemmas.Result.{on_ok_weaker, IfErr-weaker}
use Rattle.sq_audit.specs.HomeHistories.{histories_of}
use Rattle.sq_audit.specs.declared.check.Part.TheVariants.{Directory}
use Rattle.sq_audit.specs.Faults.{IsWrong}
use Rattle.sq_audit.specs.inside.Faults.{HasEventFault}
use Rattle.sq_audit.proofs.CheckLaws.{directory_fits, directory_wrong}
use Rattle.sq_audit.proofs.check.check_directory.Goals as goal

pub returns-clause-ok : goal.returns-clause-ok
returns-clause-ok c =
    rw (← c.evidence.view_is) (on_ok_weaker c.check_events.result
    (directory_fits c.evidence.inside.per_queue c.evidence.inside.homes.now c.evidence.invariant.numbered c.evidence.inside.directory.now.events c.evidence.inside.ledger.now.history.events c.evidence.inside.journals.now (rw (← c.evidence.view_is) at c.requires.fit))
    (rw (c.events.ensures.items, ← c.evidence.view_is) at c.check_events.ensures.ok))

pub returns-clause-fault : goal.returns-clause-fault
returns-clause-fault c =
    let d = c.evidence.inside.directory.now.events in
    let l = c.evidence.inside.ledger.now.history.events in
    let journals = c.evidence.inside.journals.now in
    rw (← c.evidence.view_is) (IfErr-weaker c.check_events.result (HasEventFault c.evidence.inside.per_queue journals Directory d) (IsWrong d l (histories_of c.evidence.inside.homes.now) journals)
    (directory_wrong c.evidence.inside.per_queue c.evidence.inside.homes.now c.evidence.invariant.numbered d l journals (rw (← c.evidence.view_is) at c.requires.fit))
    (rw (c.events.ensures.items, ← c.evidence.view_is) at c.check_events.ensures.fault))
