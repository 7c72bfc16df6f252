use Rattle.std.proofs.Common.{ap}
use Rattle.sq_model.specs.RecordValues.{DirectoryRecordValue, OfDirectory}
use Rattle.sq_steps.proofs.JournalLaws.{after_journal_more}
use Rattle.sq_steps.proofs.journal.directory_step.Goals as goal

pub invariant_of-journal-2 : goal.invariant_of-journal-2
invariant_of-journal-2 c =
    let recorded = c.in_ok-reply.ensures.recorded in
    rw (c.count.ensures, c.step-2.ensures, c.push_other.ensures.items, c.ready.ensures.items)
    (after_journal_more _ _ c.args.now (OfDirectory c.in_ok-reply.record) c.push_other.new.self.spare c.journal.invariant recorded.stamped (ap (λ (n : DirectoryRecordValue). n.place) recorded.record_is))
