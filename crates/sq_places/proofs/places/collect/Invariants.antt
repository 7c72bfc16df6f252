use Rattle.std.proofs.Common.{take}
use Rattle.std.specs.List.{fold}
use Rattle.sq_audit.specs.Tags.{tag_of}
use Rattle.sq_places.specs.inside.Audits.{IsSameAudit, audit_step, no_audit}
use Rattle.sq_places.proofs.places.collect.Given as goal

abbrev pub invariant-loop-tagged : goal.invariant-loop-tagged
invariant-loop-tagged l = IsSameAudit l.audit (fold (λ a t. audit_step a (tag_of t)) no_audit (take l.tagged-index l.events))
