use Rattle.std.proofs.Common.{rules, ◌≡◌, length, None, Some, subst, sym, ap, ◌∙◌}
use Rattle.sq_model.specs.Matches.{InHome}
use Rattle.sq_model.specs.Systems.{as_ledger}
use Rattle.sq_log.specs.Events.{IsEventAt}
use Rattle.sq_history.specs.HomeIds.{home_index}
use Rattle.sq_audit.specs.inside.EvidenceValue.{EvidenceValue}
use Rattle.sq_audit.proofs.CheckLaws.{found_there, home_has, no_home_has}
use Rattle.sq_audit.proofs.check.has_partner.Goals as goal

pub returns-in_default : goal.returns-in_default
returns-in_default c =
    let homes = c.evidence.inside.homes.now in
    let none : home_index c.evidence.inside.per_queue (length homes) c.args.home.now ≡ None = search rules in (
      λ e. absurd cc,
      λ h. absurd (no_home_has c.evidence.inside.per_queue homes c.evidence.invariant.numbered c.args.home.now c.args.event.now c.requires.of_home.0 c.requires.of_home.1 c.home_index.ensures.homes none
          (subst (λ (v : EvidenceValue). InHome v.homes c.args.event.now) (sym c.evidence.view_is) h)),
    )

pub returns-in-Some-event_at : goal.returns-in-Some-event_at
returns-in-Some-event_at c =
    let homes = c.evidence.inside.homes.now in
    let home = c.index-homes-index.result in
    let index : home_index c.evidence.inside.per_queue (length homes) c.args.home.now ≡ Some c.in-Some.index = search rules in (
      λ e.
          let found : IsEventAt home.events c.args.event.now.stamp c.in-Some-event_at.other.now = rw c.events.ensures.items at c.in-Some-event_at.ensures.found in
          subst (λ (v : EvidenceValue). InHome v.homes c.args.event.now) c.evidence.view_is
          (home_has c.evidence.inside.per_queue homes c.evidence.invariant.numbered c.args.home.now c.args.event.now c.requires.of_home.0 c.requires.of_home.1 c.in-Some.index home c.home_index.ensures.queue index c.index-homes-index.is
          c.in-Some-event_at.other.now found.0 found.1 c.requires.shared (c.is_shared_event.ensures.0 e)),
      λ h.
          let x = found_there c.evidence.inside.per_queue homes c.evidence.invariant.numbered c.args.home.now c.args.event.now c.requires.of_home.0 c.requires.of_home.1 c.in-Some.index home c.home_index.ensures.queue index c.index-homes-index.is
          (subst (λ (v : EvidenceValue). InHome v.homes c.args.event.now) (sym c.evidence.view_is) h) in
          let there : IsEventAt c.events.result.now.items c.args.event.now.stamp x.0 = rw c.events.ensures.items x.1 in
          let only : Some c.in-Some-event_at.other.now ≡ Some x.0 = c.in-Some-event_at.ensures.only x.0 there in
          let other : c.in-Some-event_at.other.now ≡ x.0 = cc in
          c.is_shared_event.ensures.1 (x.2 ∙ ap (as_ledger c.args.home.now) (sym other)),
    )

pub returns-in-None : goal.returns-in-None
returns-in-None c =
    let homes = c.evidence.inside.homes.now in
    let home = c.index-homes-index.result in
    let index : home_index c.evidence.inside.per_queue (length homes) c.args.home.now ≡ Some c.in-Some.index = search rules in (
      λ e. absurd cc,
      λ h.
          let x = found_there c.evidence.inside.per_queue homes c.evidence.invariant.numbered c.args.home.now c.args.event.now c.requires.of_home.0 c.requires.of_home.1 c.in-Some.index home c.home_index.ensures.queue index c.index-homes-index.is
          (subst (λ (v : EvidenceValue). InHome v.homes c.args.event.now) (sym c.evidence.view_is) h) in
          let there : IsEventAt c.events.result.now.items c.args.event.now.stamp x.0 = rw c.events.ensures.items x.1 in
          let only = c.in-None.ensures.only x.0 there in
          absurd cc,
    )
