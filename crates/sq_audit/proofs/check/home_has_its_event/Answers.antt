use Rattle.std.proofs.Common.{rules, ◌≡◌, length, None, Some, true, subst, sym}
use Rattle.sq_model.specs.RecordValues.{OfHome}
use Rattle.sq_model.specs.Matches.{HasItsEvent}
use Rattle.sq_history.specs.HomeIds.{home_index}
use Rattle.sq_audit.specs.inside.EvidenceValue.{EvidenceValue}
use Rattle.sq_audit.proofs.CheckLaws.{no_event_found, did_happen, finds_its_event}
use Rattle.sq_audit.proofs.check.home_has_its_event.Goals as goal

pub returns-in_default : goal.returns-in_default
returns-in_default c =
    let none : home_index c.evidence.inside.per_queue (length c.evidence.inside.homes.now) c.args.kept.now.home ≡ None = search rules in (
      λ e. absurd cc,
      λ h. absurd (no_event_found c.evidence.inside.per_queue c.evidence.inside.homes.now c.evidence.inside.directory.now.events c.evidence.inside.ledger.now.history.events c.args.actor c.args.kept.now c.home_index.ensures.homes (rw (← c.home.ensures) c.home_index.ensures.queue) c.evidence.invariant.numbered none (subst (λ (v : EvidenceValue). HasItsEvent v.directory v.ledger v.homes c.args.actor (OfHome c.args.kept.now)) (sym c.evidence.view_is) h)),
    )

pub returns-then-has_home_event : goal.returns-then-has_home_event
returns-then-has_home_event c =
    let index : home_index c.evidence.inside.per_queue (length c.evidence.inside.homes.now) c.args.kept.now.home ≡ Some c.in-Some.index = search rules in (
      λ e. subst (λ (v : EvidenceValue). HasItsEvent v.directory v.ledger v.homes c.args.actor (OfHome c.args.kept.now)) c.evidence.view_is (did_happen c.evidence.inside.per_queue c.evidence.inside.homes.now c.evidence.inside.directory.now.events c.evidence.inside.ledger.now.history.events c.args.actor c.args.kept.now c.in-Some.index c.index-homes-index.result c.evidence.invariant.numbered (rw (← c.home.ensures) c.home_index.ensures.queue) index c.index-homes-index.is (c.has_home_event.ensures.0 c.if-has_home_event.true) (c.has_name.ensures.0 e)),
      λ h. c.has_name.ensures.1 (finds_its_event c.evidence.inside.per_queue c.evidence.inside.homes.now c.evidence.inside.directory.now.events c.evidence.inside.ledger.now.history.events c.args.actor c.args.kept.now c.in-Some.index c.index-homes-index.result c.evidence.invariant.numbered (rw (← c.home.ensures) c.home_index.ensures.queue) index c.index-homes-index.is (subst (λ (v : EvidenceValue). HasItsEvent v.directory v.ledger v.homes c.args.actor (OfHome c.args.kept.now)) (sym c.evidence.view_is) h)).1,
    )

pub returns-else-has_home_event : goal.returns-else-has_home_event
returns-else-has_home_event c =
    let index : home_index c.evidence.inside.per_queue (length c.evidence.inside.homes.now) c.args.kept.now.home ≡ Some c.in-Some.index = search rules in (
      λ e. absurd cc,
      λ h. let t : c.has_home_event.result ≡ true = c.has_home_event.ensures.1 (finds_its_event c.evidence.inside.per_queue c.evidence.inside.homes.now c.evidence.inside.directory.now.events c.evidence.inside.ledger.now.history.events c.args.actor c.args.kept.now c.in-Some.index c.index-homes-index.result c.evidence.invariant.numbered (rw (← c.home.ensures) c.home_index.ensures.queue) index c.index-homes-index.is (subst (λ (v : EvidenceValue). HasItsEvent v.directory v.ledger v.homes c.args.actor (OfHome c.args.kept.now)) (sym c.evidence.view_is) h)).0 in search rules,
    )
