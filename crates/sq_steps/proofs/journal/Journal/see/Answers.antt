use Rattle.std.proofs.Common.{rules}
use Rattle.sq_steps.proofs.JournalLaws.{journal_above}
use Rattle.sq_steps.proofs.journal.Journal.see.Goals as goal

pub invariant_of-self : goal.invariant_of-self
invariant_of-self c = journal_above _ c.args.stamp c.self.invariant (search rules)
