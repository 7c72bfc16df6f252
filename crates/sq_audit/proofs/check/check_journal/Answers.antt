use Rattle.std.proofs.Common.{rules, ◌≡◌, ◌<◌, length, Err, refl}
use Rattle.sq_model.specs.RecordValues.{RecordsRise}
use Rattle.sq_model.specs.Matches.{IsRecordAt, HasItsEvent}
use Rattle.sq_steps.specs.Records.{value_of_record}
use Rattle.sq_audit.specs.HomeHistories.{histories_of}
use Rattle.sq_audit.specs.inside.Faults.{RecordFits, IsRecordFault}
use Rattle.sq_model.proofs.ElementLaws.{below_more}
use Rattle.sq_audit.proofs.CheckLaws.{read_record, record_wrong, record_fits, all_records, rise_at}
use Rattle.std.proofs.lemmas.Option.{slice_get_read}
use Rattle.sq_audit.proofs.check.check_journal.Goals as goal

pub returns-in_err-check_record-clause-fault : goal.returns-in_err-check_record-clause-fault
returns-in_err-check_record-clause-fault c =
    let journal = c.index-journals-at.result in
    let n = value_of_record c.record-kept.result in
    let in_list : IsRecordAt c.evidence.inside.journals.now c.args.at c.loop-index.index journal n = read_record c.evidence.inside.journals.now c.args.at c.loop-index.index journal n (rw (← c.evidence.view_is) at c.requires.within) c.index-journals-at.is c.record-kept.ensures in
    let rise : RecordsRise journal.records = c.len-index-end.ensures.rise in
    let refused : c.from_residual.result ≡ Err c.in_err-check_record.field-0.0 = search rules in
    let wrong : IsRecordFault c.evidence.inside.directory.now.events c.evidence.inside.ledger.now.history.events (histories_of c.evidence.inside.homes.now) journal.actor c.loop-index.index n c.in_err-check_record.field-0.0 = rw (← c.actor-actor.ensures) (rw (← c.evidence.view_is) at c.in_err-check_record.ensures.fault) in
    rw (refused, ← c.evidence.view_is) (record_wrong c.evidence.inside.directory.now.events c.evidence.inside.ledger.now.history.events (histories_of c.evidence.inside.homes.now) c.evidence.inside.journals.now c.args.at c.loop-index.index journal n c.in_err-check_record.field-0.0 c.evidence.invariant.distinct rise (rw (← c.evidence.view_is) at c.loop-index.invariant) in_list wrong)

pub loop-index-preserved : goal.loop-index-preserved
loop-index-preserved c =
    let journal = c.index-journals-at.result in
    let n = value_of_record c.record-kept.result in
    let in_list : IsRecordAt c.evidence.inside.journals.now c.args.at c.loop-index.index journal n = read_record c.evidence.inside.journals.now c.args.at c.loop-index.index journal n (rw (← c.evidence.view_is) at c.requires.within) c.index-journals-at.is c.record-kept.ensures in
    let did : HasItsEvent c.evidence.inside.directory.now.events c.evidence.inside.ledger.now.history.events (histories_of c.evidence.inside.homes.now) journal.actor n = rw (← c.actor-actor.ensures) (rw (← c.evidence.view_is) at c.in_ok-check_record.ensures.has_its_event) in
    rw (← c.evidence.view_is) (below_more (RecordFits c.evidence.inside.directory.now.events c.evidence.inside.ledger.now.history.events (histories_of c.evidence.inside.homes.now) c.evidence.inside.journals.now c.args.at) c.loop-index.index (rw (← c.evidence.view_is) at c.loop-index.invariant)
    (record_fits c.evidence.inside.directory.now.events c.evidence.inside.ledger.now.history.events (histories_of c.evidence.inside.homes.now) c.evidence.inside.journals.now c.args.at c.loop-index.index journal n in_list c.in_ok-check_record.ensures.place did))

pub returns-clause-ok : goal.returns-clause-ok
returns-clause-ok c =
    let journal = c.index-journals-at.result in
    rw (← c.evidence.view_is) (all_records c.evidence.inside.directory.now.events c.evidence.inside.ledger.now.history.events (histories_of c.evidence.inside.homes.now) c.evidence.inside.journals.now c.args.at journal (slice_get_read c.evidence.inside.journals.now (length c.evidence.inside.journals.now) c.args.at journal refl (rw (← c.evidence.view_is) at c.requires.within) c.index-journals-at.is)
    (λ i lt. (rw (← c.evidence.view_is) at c.loop-index.invariant) i (let g : i < length journal.records = lt in search rules)))

pub returns-clause-rise : goal.returns-clause-rise
returns-clause-rise c =
    let journal = c.index-journals-at.result in
    rw (← c.evidence.view_is) (rise_at c.evidence.inside.journals.now c.args.at journal (slice_get_read c.evidence.inside.journals.now (length c.evidence.inside.journals.now) c.args.at journal refl (rw (← c.evidence.view_is) at c.requires.within) c.index-journals-at.is) c.len-index-end.ensures.rise)
