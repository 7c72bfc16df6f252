use Rattle.std.proofs.Common.{◌≡◌, take, None}
use Rattle.std.specs.List.{fold}
use Rattle.sq_audit.specs.Tags.{tag_of}
use Rattle.sq_places.specs.inside.MessagePasses.{policy_step}
use Rattle.sq_places.proofs.message_pass.policy_at.Given as goal

abbrev pub invariant-loop-tagged : goal.invariant-loop-tagged
invariant-loop-tagged l = l.policy ≡ fold (λ p t. policy_step l.index p (tag_of t)) None (take l.tagged-index l.events)
