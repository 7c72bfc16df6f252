use Rattle.std.proofs.Common.{rules, ◌≡◌, ◌<◌, length, Some, slice_get, subst, sym, ◌∙◌, false, true}
use Rattle.std.proofs.lemmas.Option.{slice_get_within}
use Rattle.sq_model.specs.Ledgers.{LedgerEvent, is_own}
use Rattle.sq_model.specs.Matches.{InHome, IsOfLedger, IsRecorded}
use Rattle.sq_audit.specs.inside.EvidenceValue.{EvidenceValue}
use Rattle.sq_audit.specs.inside.Faults.{HomeHas, LedgerFits}
use Rattle.sq_audit.proofs.CheckLaws.{all_shared}
use Rattle.sq_model.proofs.ElementLaws.{below_more, some_same}
use Rattle.sq_audit.proofs.check.check_ledger.Goals as goal

pub check_ledger_event-requires-clause-shared : goal.check_ledger_event-requires-clause-shared
check_ledger_event-requires-clause-shared c =
    let in_events = rw c.events-moved.ensures.items at c.index-event.ensures in
    all_shared _ _ _ c.events-moved.ensures.kept.replays c.loop-index.index c.index-event.result.now in_events

pub loop-index-preserved : goal.loop-index-preserved
loop-index-preserved c =
    let ledger = c.args.evidence.now.ledger in
    let event = c.index-event.result.now in
    let items = subst (λ (v : EvidenceValue). c.events-moved.result.now.items ≡ v.ledger) c.evidence.view_is c.events-moved.ensures.items in
    let there : slice_get ledger c.loop-index.index ≡ Some event = rw items at c.index-event.ensures in
    record {
      records = below_more (LedgerFits ledger c.args.evidence.now.journals) c.loop-index.index c.loop-index.invariant.records
          (λ e in_list. subst (λ (x : LedgerEvent). is_own x.call ≡ true → IsRecorded c.args.evidence.now.journals x.actor (IsOfLedger c.loop-index.index x)) (some_same (sym there ∙ in_list)) c.in_ok-check_ledger_event.ensures.records);
      partners = below_more (HomeHas ledger c.args.evidence.now.homes) c.loop-index.index c.loop-index.invariant.partners
          (λ e in_list. subst (λ (x : LedgerEvent). is_own x.call ≡ false → InHome c.args.evidence.now.homes x) (some_same (sym there ∙ in_list)) c.in_ok-check_ledger_event.ensures.partners);
    }

pub returns-clause-records : goal.returns-clause-records
returns-clause-records c k e in_list =
    let items = subst (λ (v : EvidenceValue). c.events-moved.result.now.items ≡ v.ledger) c.evidence.view_is c.events-moved.ensures.items in
    let lt : k < length c.events-moved.result.now.items = rw items (slice_get_within c.args.evidence.now.ledger k e in_list) in
    c.loop-index.invariant.records k (search rules) e in_list

pub returns-clause-partners : goal.returns-clause-partners
returns-clause-partners c k e in_list =
    let items = subst (λ (v : EvidenceValue). c.events-moved.result.now.items ≡ v.ledger) c.evidence.view_is c.events-moved.ensures.items in
    let lt : k < length c.events-moved.result.now.items = rw items (slice_get_within c.args.evidence.now.ledger k e in_list) in
    c.loop-index.invariant.partners k (search rules) e in_list
