use Rattle.std.proofs.Common.{ℕ, subst}
use Rattle.sq_model.specs.Matches.{IsMatched}
use Rattle.sq_steps.specs.Journals.{RecordsRiseAt}
use Rattle.sq_audit.specs.inside.EvidenceValue.{EvidenceValue}
use Rattle.sq_audit.specs.HomeHistories.{histories_of}
use Rattle.sq_audit.proofs.RecordOrderLaws.{matched_rise}
use Rattle.sq_audit.proofs.OnePlaceLaws.{sites_once}
use Rattle.sq_audit.proofs.merge.merge.Goals as goal

pub returns-in-Ok-clause-actors : goal.returns-in-Ok-clause-actors
returns-in-Ok-clause-actors c =
    let rise : (b : ℕ) → RecordsRiseAt c.as_slice-records.result.now b = subst (λ (v : EvidenceValue). (b : ℕ) → RecordsRiseAt v.journals b) c.of-evidence.ensures c.in_ok-check.ensures.rise in
    let matched : IsMatched c.args.parts.now.directory.events c.args.parts.now.ledger.history.events (histories_of c.as_slice-homes.result.now) c.as_slice-records.result.now = rw c.as_slice-homes.ensures.homes (subst (λ (v : EvidenceValue). IsMatched v.directory v.ledger v.homes v.journals) c.of-evidence.ensures c.in_ok-check.ensures.ok) in
    rw c.of.ensures
    (matched_rise c.args.parts.now.homes.per_queue c.args.parts.now.directory.events c.args.parts.now.ledger.history.events c.as_slice-homes.result.now c.as_slice-records.result.now _ c.as_slice-homes.ensures.numbered c.as_slice-records.ensures.distinct rise matched c.in-Ok.ensures.merged c.in-Ok.ensures.parts)

pub returns-in-Ok-clause-one_place : goal.returns-in-Ok-clause-one_place
returns-in-Ok-clause-one_place c = sites_once _ c.args.parts.now.homes.homes (rw c.as_slice-homes.ensures.homes at c.as_slice-homes.ensures.numbered)

pub returns-in-Ok-clause-numbered : goal.returns-in-Ok-clause-numbered
returns-in-Ok-clause-numbered c = rw c.as_slice-homes.ensures.homes at c.as_slice-homes.ensures.numbered

pub returns-in-Ok-clause-run : goal.returns-in-Ok-clause-run
returns-in-Ok-clause-run c = rw (c.of.ensures, ← c.as_slice-homes.ensures.homes) c.in-Ok.ensures.run
