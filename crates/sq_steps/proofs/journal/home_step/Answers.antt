use Rattle.std.proofs.Common.{ap}
use Rattle.sq_model.specs.RecordValues.{HomeRecordValue, OfHome}
use Rattle.sq_steps.proofs.JournalLaws.{after_journal_more}
use Rattle.sq_steps.proofs.journal.home_step.Goals as goal

pub invariant_of-journal-2 : goal.invariant_of-journal-2
invariant_of-journal-2 c =
    let recorded = c.in_ok-reply.ensures.recorded in
    rw (c.count.ensures, c.step-2.ensures, c.push_home.ensures.items, c.ready.ensures.items)
    (after_journal_more _ _ c.args.now (OfHome c.in_ok-reply.record) c.push_home.new.self.spare c.journal.invariant recorded.stamped (ap (λ (n : HomeRecordValue). n.place) recorded.record_is))
