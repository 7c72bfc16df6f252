use Rattle.std.proofs.Common.{◌≡◌, refl, Some, ap, ◌∙◌}
use Rattle.sq_model.specs.Systems.{as_ledger}
use Rattle.sq_log.specs.Events.{IsEventAt}
use Rattle.sq_ledger.proofs.events.has_shared_event.Goals as goal

pub returns-in-Some : goal.returns-in-Some
returns-in-Some c = (
  λ e.
      let found : IsEventAt c.args.ledger.now.history.events c.args.event.now.stamp c.in-Some.kept.now = rw c.events.ensures.items at c.in-Some.ensures.found in
      (found.0, found.1 ∙ ap Some (c.is_shared_event.ensures.0 e)),
  λ h.
      let there : IsEventAt c.events.result.now.items c.args.event.now.stamp (as_ledger c.args.home.now c.args.event.now) = (h.0, rw c.events.ensures.items h.1, refl) in
      let only : Some c.in-Some.kept.now ≡ Some (as_ledger c.args.home.now c.args.event.now) = c.in-Some.ensures.only (as_ledger c.args.home.now c.args.event.now) there in
      c.is_shared_event.ensures.1 cc,
)

pub returns-in-None : goal.returns-in-None
returns-in-None c = (
  λ e. absurd cc,
  λ h.
      let there : IsEventAt c.events.result.now.items c.args.event.now.stamp (as_ledger c.args.home.now c.args.event.now) = (h.0, rw c.events.ensures.items h.1, refl) in
      let only = c.in-None.ensures.only (as_ledger c.args.home.now c.args.event.now) there in
      absurd cc,
)
