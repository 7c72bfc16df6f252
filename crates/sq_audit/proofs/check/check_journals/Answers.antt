use Rattle.std.proofs.Common.{rules, ◌<◌, ℕ, length}
use Rattle.sq_steps.specs.Journals.{RecordsRiseAt}
use Rattle.sq_audit.specs.inside.Faults.{RecordFits}
use Rattle.sq_model.proofs.ElementLaws.{below_more}
use Rattle.sq_audit.proofs.CheckLaws.{all_journals, all_rise_at}
use Rattle.sq_audit.proofs.check.check_journals.Goals as goal

pub loop-at-preserved : goal.loop-at-preserved
loop-at-preserved c =
    below_more (λ b. ((i : ℕ) → RecordFits c.args.evidence.now.directory c.args.evidence.now.ledger c.args.evidence.now.homes c.args.evidence.now.journals b i) × RecordsRiseAt c.args.evidence.now.journals b) c.loop-at.at c.loop-at.invariant
    (c.in_ok-check_journal.ensures.ok, c.in_ok-check_journal.ensures.rise)

pub returns-clause-ok : goal.returns-clause-ok
returns-clause-ok c = all_journals c.args.evidence.now.directory c.args.evidence.now.ledger c.args.evidence.now.homes c.args.evidence.now.journals (λ b lt. (c.loop-at.invariant b (let l : b < length c.evidence.inside.journals.now = (rw (← c.evidence.view_is) at lt) in search rules)).0)

pub returns-clause-rise : goal.returns-clause-rise
returns-clause-rise c = all_rise_at c.args.evidence.now.journals (λ b lt. (c.loop-at.invariant b (let l : b < length c.evidence.inside.journals.now = (rw (← c.evidence.view_is) at lt) in search rules)).1)
