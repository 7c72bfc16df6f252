use Rattle.std.proofs.Common.{rules, ◌≡◌, ◌<◌, length, Some, subst, sym}
use Rattle.std.proofs.lemmas.List.{length-map}
use Rattle.sq_audit.specs.inside.EvidenceValue.{EvidenceValue}
use Rattle.sq_history.specs.HomeIds.{home_id, home_index}
use Rattle.sq_audit.specs.HomeHistories.{home_history}
use Rattle.sq_audit.proofs.CheckLaws.{home_test}
use Rattle.sq_audit.proofs.check.is_home_at.Goals as goal

pub returns-in-Some : goal.returns-in-Some
returns-in-Some c =
    let homes = c.evidence.inside.homes.now in
    let index : home_index c.evidence.inside.per_queue (length homes) c.args.id.now ≡ Some c.in-Some.at = search rules in
    let within : c.args.index < length homes = rw (length-map homes home_history) at (subst (λ (v : EvidenceValue). c.args.index < length v.homes) (sym c.evidence.view_is) c.requires.within) in
    let test = home_test c.evidence.inside.per_queue (length homes) c.args.id.now c.in-Some.at c.args.index c.home_index.ensures.queue c.home_index.ensures.homes within index in (
      λ e. subst (λ (v : EvidenceValue). c.args.id.now ≡ home_id v.per_queue c.args.index) c.evidence.view_is (test.0 e),
      λ h. test.1 (subst (λ (v : EvidenceValue). c.args.id.now ≡ home_id v.per_queue c.args.index) (sym c.evidence.view_is) h),
    )
