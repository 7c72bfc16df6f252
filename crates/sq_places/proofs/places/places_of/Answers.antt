use Rattle.std.proofs.Common.{rules, ◌≡◌, ◌∙◌, false, sym, subst}
use Rattle.sq_model.specs.Places.{run_ends, run_sends}
use Rattle.std.specs.List.{fold}
use Rattle.std.proofs.lemmas.Result.{IfOk-weaker}
use Rattle.sq_audit.specs.declared.tagged.Tagged.{Tagged}
use Rattle.sq_audit.specs.Tags.{tag_of}
use Rattle.sq_places.specs.inside.HomeValues.{AuditValue}
use Rattle.sq_places.specs.inside.Audits.{IsSameAudit, audit_step, no_audit}
use Rattle.sq_model.specs.Systems.{opening}
use Rattle.sq_audit.specs.RunLineages.{has_some}
use Rattle.sq_audit.proofs.RunLaws.{none_is}
use Rattle.sq_places.proofs.AuditLaws.{audit_places, no_places}
use Rattle.sq_places.proofs.places.places_of.Goals as goal

pub returns-then-not-has_sent-clause-places : goal.returns-then-not-has_sent-clause-places
returns-then-not-has_sent-clause-places c = λ o after r one.
    let none : has_some (run_sends c.args.run.now) ≡ false = search rules in
    rw c.new.ensures.items (no_places (run_sends c.args.run.now) (run_ends (opening o) c.args.run.now after r) after.ledger.items (none_is (run_sends c.args.run.now) none))

pub returns-clause-places : goal.returns-clause-places
returns-clause-places c = λ o after r one.
    IfOk-weaker c.listed.result _ _ (λ listed h. record {
      rising = h.rising;
      each = λ x. h.each x ∙ rw (c.deref.ensures.value, c.deref-2.ensures.value, c.deref-3.ensures.value) (audit_places x o c.events.result.now c.args.run.now c.events.ensures after r
          (record { homes = c.audit.inside.homes.items; sends = c.audit.inside.sends.items; moves = c.audit.inside.moves.items; ends = c.audit.inside.ends.items }) one
          (subst (λ (a : AuditValue). IsSameAudit a (fold (λ (b : AuditValue) (t : Tagged). audit_step b (tag_of t)) no_audit c.events.result.now)) (sym c.audit.view_is) c.in_ok-audit.ensures.audit));
    }) c.listed.ensures.listed
