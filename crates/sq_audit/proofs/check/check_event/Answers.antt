use Rattle.std.proofs.Common.{rules, ◌≡◌, ◌≤◌, length, None, Some, refl, subst, inl, inr}
use Rattle.std.specs.Prelude.{position}
use Rattle.sq_steps.specs.Journals.{is_of_actor}
use Rattle.sq_steps.specs.Records.{value_of_record}
use Rattle.sq_audit.specs.inside.EvidenceValue.{EvidenceValue}
use Rattle.sq_audit.specs.inside.Faults.{IsAt, IsRecordedAt}
use Rattle.sq_steps.proofs.DropLaws.{recorded_lost}
use Rattle.sq_audit.proofs.CheckLaws.{no_record, record_there}
use Rattle.sq_audit.proofs.check.check_event.Goals as goal

pub returns-in_default-clause-fault : goal.returns-in_default-clause-fault
returns-in_default-clause-fault c =
    let none : position (is_of_actor c.args.by.0) c.evidence.inside.journals.now ≡ None = search rules in
    rw (← c.evidence.view_is) (inl (λ x. recorded_lost c.args.by.0 c.evidence.inside.journals.now (λ n. Unit {0}) none x.0, refl))

pub returns-then-place-len-clause-fault : goal.returns-then-place-len-clause-fault
returns-then-place-len-clause-fault c =
    let pos : position (is_of_actor c.args.by.0) c.evidence.inside.journals.now ≡ Some c.in-Some.at = search rules in
    let past : length c.index-journals-at.result.records ≤ c.args.by.1 = search rules in
    rw (← c.evidence.view_is) (inl (no_record c.evidence.inside.journals.now c.args.by.0 c.in-Some.at c.index-journals-at.result c.args.by.1 pos c.in-Some.ensures.within c.index-journals-at.is c.evidence.invariant.distinct past, refl))

pub returns-then-is_at-clause-ok : goal.returns-then-is_at-clause-ok
returns-then-is_at-clause-ok c =
    let pos : position (is_of_actor c.args.by.0) c.evidence.inside.journals.now ≡ Some c.in-Some.at = search rules in
    subst (λ (v : EvidenceValue). IsRecordedAt v.journals c.args.by.0 c.args.by.1 (IsAt c.args.evidence.now.per_queue c.args.part c.args.index)) c.evidence.view_is
    (record_there c.evidence.inside.journals.now c.args.by.0 c.in-Some.at c.index-journals-at.result c.args.by.1 pos c.in-Some.ensures.within c.index-journals-at.is (value_of_record c.record-kept.result) (IsAt c.args.evidence.now.per_queue c.args.part c.args.index) c.record-kept.ensures (c.is_at.ensures.0 c.if-is_at.true))

pub returns-else-is_at-clause-fault : goal.returns-else-is_at-clause-fault
returns-else-is_at-clause-fault c =
    let pos : position (is_of_actor c.args.by.0) c.evidence.inside.journals.now ≡ Some c.in-Some.at = search rules in
    rw (← c.evidence.view_is) (inr (record_there c.evidence.inside.journals.now c.args.by.0 c.in-Some.at c.index-journals-at.result c.args.by.1 pos c.in-Some.ensures.within c.index-journals-at.is (value_of_record c.record-kept.result) (λ n. IsAt c.evidence.inside.per_queue c.args.part c.args.index n → ⊥) c.record-kept.ensures (λ h. search rules), refl))
