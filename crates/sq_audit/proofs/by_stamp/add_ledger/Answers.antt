use Rattle.std.proofs.Common.{rules, ◌≡◌, true, false, refl}
use Rattle.sq_model.specs.Ledgers.{is_own}
use Rattle.sq_model.specs.Systems.{OfLedger}
use Rattle.sq_audit.specs.Tags.{tag_of}
use Rattle.sq_audit.proofs.PartLaws.{grown, own_adds, own_stays}
use Rattle.sq_audit.proofs.by_stamp.add_ledger.Goals.{then-is_own+in_ok-push, else-is_own}
use Rattle.sq_audit.proofs.by_stamp.add_ledger.Goals as goal

pub loop-at-preserved : goal.loop-at-preserved
loop-at-preserved c =
    let events = c.events-events.result.now.items in
    let at = c.loop-at.at in
    let event = c.index-event.result.now in
    elim c.if-is_own.branch [
      | then-is_own+in_ok-push w ↦ (let own : is_own event.call ≡ true = search rules in rw w.all-is (grown tag_of OfLedger _ _ _ _ _ _ _ w.in_ok-push.ensures.items refl c.loop-at.invariant (own_adds events at event c.index-event.ensures own)))
      | else-is_own w ↦ (let not_own : is_own event.call ≡ false = search rules in rw (w.all-is, own_stays events at event c.index-event.ensures not_own) c.loop-at.invariant)
    ]
