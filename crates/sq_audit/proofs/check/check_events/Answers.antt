use Rattle.std.proofs.Common.{rules, ◌≡◌, ◌<◌, length, Err, sym, ◌∙◌, subst}
use Rattle.std.proofs.lemmas.Option.{slice_get_within}
use Rattle.sq_model.specs.declared.event.Event.{Event}
use Rattle.sq_audit.specs.inside.Faults.{EventFits, IsAt, IsRecordedAt}
use Rattle.sq_model.proofs.ElementLaws.{below_more, some_same}
use Rattle.sq_audit.proofs.check.check_events.Goals as goal

pub returns-in_err-check_event-clause-fault : goal.returns-in_err-check_event-clause-fault
returns-in_err-check_event-clause-fault g c =
    let refused : c.from_residual.result ≡ Err c.in_err-check_event.field-0.0 = search rules in
    rw refused (c.loop-index.index, c.index-event.result.now, c.index-event.ensures, c.in_err-check_event.ensures.fault)

pub loop-index-preserved : goal.loop-index-preserved
loop-index-preserved g c =
    let in_list = c.index-event.ensures in
    below_more (EventFits c.args.evidence.now.per_queue c.args.evidence.now.journals c.args.part c.args.events.now.items) c.loop-index.index c.loop-index.invariant
    (λ e same. subst (λ (x : Event _ _). IsRecordedAt c.args.evidence.now.journals x.actor x.place (IsAt c.args.evidence.now.per_queue c.args.part c.loop-index.index)) (some_same (sym in_list ∙ same)) c.in_ok-check_event.ensures.ok)

pub returns-clause-ok : goal.returns-clause-ok
returns-clause-ok g c k e in_list = c.loop-index.invariant k (let lt : k < length c.args.events.now.items = slice_get_within c.args.events.now.items k e in_list in search rules) e in_list
