use Rattle.std.proofs.Common.{◌≡◌, ◌<◌, ℕ, Some, slice_get}
use Rattle.sq_model.specs.Replays.{HomeEvent}
use Rattle.sq_audit.specs.inside.Faults.{HasPartner}
use Rattle.sq_audit.proofs.check.check_partners.Given as goal

abbrev pub invariant-loop-at : goal.invariant-loop-at
invariant-loop-at l = (k : ℕ) → k < l.at → (e : HomeEvent) → slice_get l.events.items k ≡ Some e → HasPartner l.ledger.history.events e
